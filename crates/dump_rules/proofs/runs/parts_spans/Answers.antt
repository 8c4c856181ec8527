use Rattle.dump_rules.proofs.Prelude.{◌++◌, sym, ap, ◌∙◌, map, List, Range, span_range}
use Rattle.dump_rules.proofs.new_values.RunsLemmas.{parts_step, parts_last}
use Rattle.dump_rules.proofs.runs.parts_spans.Goals as goal

pub loop-comma-preserved : goal.loop-comma-preserved
loop-comma-preserved c =
    c.loop-comma.invariant
    ∙ parts_step c.args.renumber c.args.reach.now c.loop-comma.rest.now c.cut_at.result.0.now
    c.cut_at.result.1.now c.in-Some.comma _ _ (sym c.find.ensures ∙ c.in-Some.is)
    c.cut_at.ensures.before c.cut_at.ensures.behind c.in_ok-push_new.ensures

pub returns : goal.returns
returns c =
    c.in_ok-push_new-2.ensures
    ∙ ap (λ (l : List Range). map span_range c.loop-comma.spans.items ++ l)
    (sym (parts_last c.args.renumber c.args.reach.now c.loop-comma.rest.now (sym c.find.ensures ∙ c.in_default.is)))
    ∙ sym c.loop-comma.invariant
