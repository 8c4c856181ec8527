use Rattle.dump_survey.proofs.Prelude.{map, sym, ap, subst, Grown, AreNeeded, need_view}
use Rattle.dump_survey.proofs.GrowingPrefixLemmas.{passes_go_on}
use Rattle.dump_survey.proofs.advice.growing_prefixes.wanted_paths.Goals as goal

pub loop-growing_prefixes-preserved : goal.loop-growing_prefixes-preserved
loop-growing_prefixes-preserved c =
    passes_go_on (map need_view c.args.needs.now) c.args.options.now.prefixes c.loop-growing_prefixes.growing_prefixes c.pass.new.self
    c.in_ok-pass.field-0 c.loop-growing_prefixes.invariant c.in_ok-pass.ensures

pub returns-clause-needed : goal.returns-clause-needed
returns-clause-needed c =
    subst (AreNeeded (map need_view c.args.needs.now) c.args.options.now.prefixes)
    (sym (ap (λ (g : Grown). g.added) c.growing_prefixes.view_is))
    (passes_go_on (map need_view c.args.needs.now) c.args.options.now.prefixes c.loop-growing_prefixes.growing_prefixes c.pass.new.self
    c.in_ok-pass.field-0 c.loop-growing_prefixes.invariant c.in_ok-pass.ensures).needed
