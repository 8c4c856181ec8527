-- Expanded changes lead to the same tree as the changes, and expanded revisions load to the same trees.
use Rattle.dump_trees.proofs.Prelude.{◌≡◌, refl, sym, ap, ◌∙◌, subst, slice_get, Tree, Change, step, steps, loaded, AllRevisionsSeparate}
use Rattle.std.proofs.Common.{List, [], ◌∷◌, ◌++◌, Option, Some, None, option_and_then}
use Rattle.dump_trees.specs.steps.Leading.{Leads}
use Rattle.dump_trees.specs.steps.Expansions.{AllExpand, AllRevisionsExpand, ExpandedLead, ExpandedLoad}
use Rattle.dump_trees.proofs.expansions.LeadLemmas.{leads_nowhere, leads_then}

-- the changes of a revision, one after the other
pub expanded_lead : ExpandedLead
expanded_lead settings history before after [] expanded at none =
    let same : before ≡ after = (let both : Some before ≡ Some after = at in cc) in
    subst (λ cs. Leads settings history before cs after) (sym none)
    (subst (λ t. Leads settings history before [] t) same (leads_nowhere settings history before))
expanded_lead settings history before after (c ∷ changes) expanded at (first, rest, same, expands, more) =
    cases (λ t there further. expanded_lead settings history t after changes rest there further)
    (step history before c) refl at
  where
    cases :
        ((t : Tree) → steps history t changes ≡ Some after → AllExpand settings history t changes rest
        → Leads settings history t rest after)
        → (o : Option Tree) → step history before c ≡ o
        → option_and_then (λ t. steps history t changes) o ≡ Some after
        → Leads settings history before expanded after
    cases behind None at there = absurd (let bad : None ≡ Some after = there in cc)
    cases behind (Some t) at there =
        subst (λ cs. Leads settings history before cs after) (sym same)
        (leads_then settings history first rest before t after (expands t at) (behind t there (more t at)))

-- what is loaded, if the changes of the next revision lead to a tree
loads_next : (older : List Tree) (youngest tree : Tree) (changes : List Change) (revisions : List (List Change))
    → steps (slice_get older) youngest changes ≡ Some tree
    → loaded older youngest (changes ∷ revisions) ≡ loaded (older ++ tree ∷ []) tree revisions
loads_next older youngest tree changes revisions at =
    ap (option_and_then (λ t. loaded (older ++ t ∷ []) t revisions)) at

-- revisions, one after the other
pub expanded_load : ExpandedLoad
expanded_load settings older youngest [] expanded trees at none =
    subst (λ rs. (loaded older youngest rs ≡ Some trees) × AllRevisionsSeparate settings older youngest rs) (sym none)
    (at, tt)
expanded_load settings older youngest (changes ∷ revisions) expanded trees at (first, rest, same, expands, more) =
    cases
    (λ t there further. expanded_load settings (older ++ t ∷ []) t revisions rest trees there further)
    (steps (slice_get older) youngest changes) refl at
  where
    cases :
        ((t : Tree) → loaded (older ++ t ∷ []) t revisions ≡ Some trees
        → AllRevisionsExpand settings (older ++ t ∷ []) t revisions rest
        → (loaded (older ++ t ∷ []) t rest ≡ Some trees) × AllRevisionsSeparate settings (older ++ t ∷ []) t rest)
        → (o : Option Tree) → steps (slice_get older) youngest changes ≡ o
        → option_and_then (λ t. loaded (older ++ t ∷ []) t revisions) o ≡ Some trees
        → (loaded older youngest expanded ≡ Some trees) × AllRevisionsSeparate settings older youngest expanded
    cases behind None at there = absurd (let bad : None ≡ Some trees = there in cc)
    cases behind (Some t) at there =
        let lead = expanded_lead settings (slice_get older) youngest t changes first at expands in
        let further = behind t there (more t at) in
        subst (λ rs. (loaded older youngest rs ≡ Some trees) × AllRevisionsSeparate settings older youngest rs)
        (sym same) (
          loads_next older youngest t first rest lead.same ∙ further.0,
          (
            lead.apart,
            λ u stepped.
                let one : t ≡ u = (let both : Some t ≡ Some u = sym lead.same ∙ stepped in cc) in
                subst (λ v. AllRevisionsSeparate settings (older ++ v ∷ []) v rest) one further.1,
          ),
        )
