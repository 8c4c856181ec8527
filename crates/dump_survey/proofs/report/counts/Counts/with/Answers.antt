use Rattle.dump_survey.proofs.Prelude.{◌≤◌, length, sym, subst, ◌∙◌}
use Rattle.dump_survey.proofs.CountLemmas.{counting_ends, counting_found, counting_passed}
use Rattle.dump_survey.proofs.report.counts.Counts.with.Goals as goal
use Rattle.dump_survey.proofs.report.counts.Counts.with.Goals.{then-has, else-has}

pub loop-finding-preserved : goal.loop-finding-preserved
loop-finding-preserved c =
    elim c.if-has.branch [
      | then-has w ↦ rw w.times-is (counting_found c.args.self.now c.args.found.now c.loop-finding.finding-index _ c.loop-finding.times
          c.every_finding-finding-items.result.now c.every_finding-finding-items.ensures c.loop-finding-test.true
          c.loop-finding.invariant (sym c.has.ensures ∙ w.if-has.true))
      | else-has w ↦ rw w.times-is (counting_passed c.args.self.now c.args.found.now c.loop-finding.finding-index _ c.loop-finding.times
          c.every_finding-finding-items.result.now c.every_finding-finding-items.ensures c.loop-finding-test.true
          c.loop-finding.invariant (sym c.has.ensures ∙ w.if-has.false))
    ]

pub returns : goal.returns
returns c =
    counting_ends c.args.self.now _ c.args.found.now c.loop-finding.finding-index
    (subst (λ l. length l ≤ c.loop-finding.finding-index) c.every_finding-finding-items.ensures c.loop-finding-test.false)
    c.loop-finding.invariant
