use Rattle.dump_survey.proofs.Prelude.{sym, ◌∙◌, map, need_view}
use Rattle.dump_survey.proofs.GrowingPrefixLemmas.{pass_adds, pass_leaves}
use Rattle.dump_survey.proofs.advice.growing_prefixes.GrowingPrefixes.pass.Goals as goal
use Rattle.dump_survey.proofs.advice.growing_prefixes.GrowingPrefixes.pass.Goals.{then-is_unmet+in_ok-add, else-is_unmet}

pub loop-need-preserved : goal.loop-need-preserved
loop-need-preserved c =
    elim c.if-is_unmet.branch [
      | then-is_unmet+in_ok-add w ↦ rw w.self-is (rw w.grew-is (pass_adds (map need_view c.args.needs.now) c.args.needs.now
          c.loop-need.need-index _ c.args.self.now c.loop-need.self c.loop-need.grew c.loop-need-test.true
          c.loop-need.invariant w.add.new.self c.requires (sym c.is_unmet.ensures ∙ w.if-is_unmet.true) w.in_ok-add.ensures))
      | else-is_unmet w ↦ rw w.self-is (rw w.grew-is (pass_leaves (map need_view c.args.needs.now) c.args.needs.now
          c.loop-need.need-index _ c.args.self.now c.loop-need.self c.loop-need.grew c.loop-need-test.true
          c.loop-need.invariant (sym c.is_unmet.ensures ∙ w.if-is_unmet.false)))
    ]
