-- What changes do at paths, as determined by texts, and which change is the latest one that does it.
use Rattle.std.specs.Prelude.{ℕ, zero, suc, Bool, true, false, ◌&&◌, ◌||◌, ◌==◌, List, [], ◌∷◌, Option, Some, None, is_some, slice_get, bytes_eq, if◌then◌else◌}
use Rattle.dump_trees.specs.Changes.{is_copied}
use Rattle.dump_index.specs.steps.Listed.{Listed}
use Rattle.dump_index.specs.declared.change.Setting.{Setting}
use Rattle.dump_index.specs.declared.change.Setting.TheVariants.{Keeps, Replaces, Edits, EditsNothing}
use Rattle.dump_index.specs.declared.order.Effect.{Effect}
use Rattle.dump_index.specs.declared.order.Effect.TheVariants.{Shaping, Moving, Props, Texts, Any}

-- whether something is set
abbrev pub sets : Setting → Bool
sets Keeps = false
sets Replaces = true
sets Edits = true
sets EditsNothing = true

-- whether a change is of this effect
abbrev pub has_effect : Effect → Listed → Bool
has_effect Shaping l = l.deletes || is_some l.made
has_effect Moving l = l.deletes || is_copied l.made
has_effect Props l = sets l.props
has_effect Texts l = sets l.text
has_effect Any l = true

-- whether there is such a change, of this effect and at this path
abbrev pub has_effect_there : Effect → List ℕ → Option Listed → Bool
has_effect_there effect path None = false
has_effect_there effect path (Some l) = has_effect effect l && bytes_eq l.path path

-- whether the change at this place is of this effect, and at this path
abbrev pub has_effect_at : Effect → List Listed → List ℕ → ℕ → Bool
has_effect_at effect listed path place = has_effect_there effect path (slice_get listed place)

-- the latest of this number of places that passes the test
abbrev pub latest_place : (ℕ → Bool) → ℕ → Option ℕ
latest_place test zero = None
latest_place test (suc count) = if test count then Some count else latest_place test count

-- whether the path begins with this top and then has a slash
abbrev pub goes_on : List ℕ → List ℕ → Bool
goes_on [] [] = false
goes_on [] (c ∷ path) = c == 47
goes_on (b ∷ top) [] = false
goes_on (b ∷ top) (c ∷ path) = (b == c) && goes_on top path

-- whether the top is the root, or the path begins with the top and then has a slash
abbrev pub stands_over : List ℕ → List ℕ → Bool
stands_over path top = bytes_eq top [] || goes_on top path

-- whether there is such a change, it deletes or copies, and its path passes the test
abbrev pub moves_there : (List ℕ → Bool) → Option Listed → Bool
moves_there test None = false
moves_there test (Some l) = has_effect Moving l && test l.path

-- whether the change at this place deletes or copies, at the root or at a path above this one
abbrev pub moves_above : List Listed → List ℕ → ℕ → Bool
moves_above listed path place = moves_there (stands_over path) (slice_get listed place)

-- whether the change at this place decides whether something exists at the path, and what
abbrev pub shapes : List Listed → List ℕ → ℕ → Bool
shapes listed path place = has_effect_at Shaping listed path place || moves_above listed path place
