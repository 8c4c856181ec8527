-- Changes that lead from one tree to another, one after the other.
use Rattle.dump_trees.proofs.Prelude.{◌≡◌, refl, sym, ap, ◌∙◌, subst, Settings, Tree, Change, History, step, steps, AllSeparate, Separates}
use Rattle.std.proofs.Common.{List, [], ◌∷◌, ◌++◌, Option, Some, None, option_and_then}
use Rattle.dump_trees.specs.steps.Leading.{Leads}

module _ (settings : Settings) (history : History) where
  -- no change leads from a tree to itself
  pub leads_nowhere : (tree : Tree) → Leads settings history tree [] tree
  leads_nowhere tree = record { same = refl; apart = tt }

  -- one change, and more after it
  pub leads_first : (before between after : Tree) (c : Change) (changes : List Change)
      → step history before c ≡ Some between → Separates settings history before c between
      → Leads settings history between changes after → Leads settings history before (c ∷ changes) after
  leads_first before between after c changes at apart further = record {
    same = ap (option_and_then (λ t. steps history t changes)) at ∙ further.same;
    apart = λ t there.
        let same : between ≡ t = (let both : Some between ≡ Some t = sym at ∙ there in cc) in
        subst (λ u. Separates settings history before c u × AllSeparate settings history u changes) same
        (apart, further.apart);
  }

  -- one change
  pub leads_one : (before after : Tree) (c : Change) → step history before c ≡ Some after
      → Separates settings history before c after → Leads settings history before (c ∷ []) after
  leads_one before after c at apart = leads_first before after after c [] at apart (leads_nowhere after)

  -- some changes, and more after them
  pub leads_then : (first rest : List Change) (before between after : Tree)
      → Leads settings history before first between → Leads settings history between rest after
      → Leads settings history before (first ++ rest) after
  leads_then [] rest before between after lead further =
      let same : before ≡ between = (let both : Some before ≡ Some between = lead.same in cc) in
      subst (λ t. Leads settings history t rest after) (sym same) further
  leads_then (c ∷ first) rest before between after lead further =
      cases (λ t more. leads_then first rest t between after more further) (step history before c) refl lead.same
    where
      cases :
          ((t : Tree) → Leads settings history t first between → Leads settings history t (first ++ rest) after)
          → (o : Option Tree) → step history before c ≡ o
          → option_and_then (λ t. steps history t first) o ≡ Some between
          → Leads settings history before (c ∷ (first ++ rest)) after
      cases behind None at there = absurd (let bad : None ≡ Some between = there in cc)
      cases behind (Some t) at there =
          let parts = lead.apart t at in
          leads_first before t after c (first ++ rest) at parts.0
          (behind t (record { same = there; apart = parts.1 }))
