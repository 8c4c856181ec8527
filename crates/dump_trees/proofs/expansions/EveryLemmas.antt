-- What a copy needs: a source at which something exists; and one more tree that is a branch.
use Rattle.dump_trees.proofs.Prelude.{◌≡◌, cond, refl, sym, ap, ◌∙◌, subst, inl, inr, slice_get, NodePath, Node, Tree, grafted, Made, Change, History, is_copied, has_directory, deleted, copied, made_in, props_set, text_set, step}
use Rattle.std.proofs.Common.{ℕ, true, false, ◌&&◌, List, [], ◌∷◌, ◌++◌, Option, Some, None, option_and_then, is_some}
use Rattle.dump_trees.proofs.histories.KeptNumbers.{get_pushed}
use Rattle.dump_trees.proofs.expansions.FiniteSteps.{AllFinite, IsFinite}

-- a copy has a source
pub copies_something : (history : History) (before after old : Tree) (c : Change) (number : ℕ) (source : NodePath)
    → c.made ≡ Some (Made.Copied number source) → history number ≡ Some old → step history before c ≡ Some after
    → (node : Node) × (old source ≡ Some node)
copies_something history before after old c number source made there at =
    cases (old source) refl (deleted c.deletes c.path before)
    (sym (ap (λ m. option_and_then (λ t. text_set c.text c.path t)
    (option_and_then (λ t. props_set c.props c.path t)
    (option_and_then (λ t. made_in history m c.path t) (deleted c.deletes c.path before)))) made) ∙ at)
  where
    cases : (o : Option Node) → old source ≡ o → (a : Option Tree)
        → option_and_then (λ t. text_set c.text c.path t)
        (option_and_then (λ t. props_set c.props c.path t)
        (option_and_then (λ t. option_and_then (λ from. copied source c.path t from) (history number)) a))
        ≡ Some after
        → (node : Node) × (old source ≡ Some node)
    cases (Some node) stands a done = (node, stands)
    cases None stands None done = absurd (let bad : None ≡ Some after = done in cc)
    cases None stands (Some t) done =
        absurd (let bad : None ≡ Some after
        = sym (ap (λ o. option_and_then (λ u. text_set c.text c.path u)
        (option_and_then (λ u. props_set c.props c.path u)
        (option_and_then (λ from. copied source c.path t from) o))) there
        ∙ ap (λ o. option_and_then (λ u. text_set c.text c.path u)
        (option_and_then (λ u. props_set c.props c.path u)
        (cond (is_some o && has_directory t c.path) (Some (grafted c.path (λ rest. old (source ++ rest)) t)) None)))
        stands) ∙ done in cc)

pub copy_parts : (made : Option Made) → is_copied made ≡ true
    → (number : ℕ) × (source : NodePath) × (made ≡ Some (Made.Copied number source))
copy_parts None is = absurd (let bad : false ≡ true = is in cc)
copy_parts (Some Made.NewDirectory) is = absurd (let bad : false ≡ true = is in cc)
copy_parts (Some Made.NewFile) is = absurd (let bad : false ≡ true = is in cc)
copy_parts (Some (Made.Copied number source)) is = (number, source, refl)

-- one more tree that is a branch
pub finite_more : (trees : List Tree) (tree : Tree) → AllFinite (slice_get trees) → IsFinite tree
    → AllFinite (slice_get (trees ++ tree ∷ []))
finite_more trees tree all f number other at =
    elim (get_pushed trees tree number other at) [
      | inl before ↦ all number other before
      | inr last ↦ subst (λ t. IsFinite t) last.1 f
    ]
