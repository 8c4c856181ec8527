use Rattle.dump_survey.proofs.Prelude.{Bor, List, ℕ, false, map, refl, ap, ◌∙◌, subst, bare_prefix, HaveSame}
use Rattle.dump_survey.proofs.SurveyorLemmas.{at_first}
use Rattle.dump_survey.proofs.findings.surveyor.Surveyor.new.Goals as goal

pub invariant_of-result : goal.invariant_of-result
invariant_of-result c =
    let given = ap (λ (items : List (Bor (List ℕ))). map (λ item. item.now) items) c.deref.ensures.value
    ∙ c.in_ok-given.ensures in
    at_first c.args.dump.now c.args.options.now c.in_ok-prefixes.prefixes
    (record {
      idle = c.in_ok-idle.idle;
      tally = c.new-2.result;
      numbers_left = false;
      unread_revision = false;
      places = c.new-3.result;
    }) c.new.result
    c.new.ensures c.in_ok-prefixes.ensures
    (subst (λ (ps : List (List ℕ)). HaveSame c.in_ok-idle.idle (map bare_prefix ps)) given c.in_ok-idle.ensures)
    c.new-2.ensures refl refl c.new-3.ensures
