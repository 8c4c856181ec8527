use Rattle.std.proofs.Common.{Bor, List, ℕ, map, sym, ap, ◌∙◌}
use Rattle.dump_survey.proofs.PrefixLemmas.{some_above}
use Rattle.dump_survey.proofs.findings.prefixes.Prefixes.has_below.Goals as goal

pub returns-in-Include : goal.returns-in-Include
returns-in-Include c = c.has_some_below.ensures
    ∙ some_above c.args.options.now c.args.path.now c.deref.result.now
    (ap (map (λ (item : Bor (List ℕ)). item.now)) c.deref.ensures.value ∙ (c.self.view_is ∙ c.requires))
    (sym c.side.ensures ∙ c.in-Include.is)
