use Rattle.std.proofs.Common.{List, ℕ, Bor, map, sym, ap, ◌∙◌}
use Rattle.dump_survey.proofs.GivenLemmas.{made_if_ok}
use Rattle.dump_survey.proofs.advice.parents.parents_to_create.Goals as goal

pub returns-in_ok-prefixes-in-Include : goal.returns-in_ok-prefixes-in-Include
returns-in_ok-prefixes-in-Include c =
    made_if_ok c.args.options.now c.deref.result.now c.left_above.result (sym c.side.ensures ∙ c.in-Include.is)
    (ap (λ (items : List (Bor (List ℕ))). map (λ prefix. prefix.now) items) c.deref.ensures.value
    ∙ (c.prefixes.view_is ∙ c.in_ok-prefixes-in-Include.ensures))
    c.left_above.ensures
