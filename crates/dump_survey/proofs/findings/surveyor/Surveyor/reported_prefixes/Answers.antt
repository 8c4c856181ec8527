use Rattle.dump_survey.proofs.Prelude.{Bor, List, ℕ, map, ap, ◌∙◌, subst, prefix_view, ArePrefixesReported, Surveying}
use Rattle.std.specs.Result.{IfOk}
use Rattle.dump_survey.proofs.SurveyorLemmas.{reported_so_far}
use Rattle.dump_survey.proofs.findings.surveyor.Surveyor.reported_prefixes.Goals as goal

pub returns : goal.returns
returns c = subst
    (λ (s : Surveying). IfOk c.reported_prefixes.result (λ reported. ArePrefixesReported s (map prefix_view reported.items)))
    c.self.view_is
    (reported_so_far c.self.inside.options.now c.self.inside.prefixes c.self.inside.known c.self.inside.cutter c.self.invariant (map (λ item. item.now) c.deref.result.now)
    (ap (λ (items : List (Bor (List ℕ))). map (λ item. item.now) items) c.deref.ensures.value ∙ c.in_ok-given.ensures)
    (λ reported. map prefix_view reported.items) c.reported_prefixes.result c.reported_prefixes.ensures)
