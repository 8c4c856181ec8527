-- Which changes set the properties or the text of what exists at a path.
use Rattle.std.specs.Prelude.{◌≡◌, ℕ, Bool, true, false, ◌||◌, List, [], ◌∷◌, ◌++◌, Option, Some, None, slice_get, bytes_eq, ◌&&◌}
use Rattle.dump_trees.specs.Paths.{NodePath, names_of, below}
use Rattle.dump_trees.specs.Changes.{Made, is_copied}
use Rattle.dump_trees.specs.steps.Looking.{end_of}
use Rattle.dump_index.specs.steps.Listed.{Listed, all_placed}
use Rattle.dump_index.specs.declared.change.Setting.{Setting}
use Rattle.dump_index.specs.declared.change.Setting.TheVariants.{Keeps, Replaces, Edits, EditsNothing}
use Rattle.dump_index.specs.declared.trail.Part.{Part}
use Rattle.dump_index.specs.declared.trail.Part.TheVariants.{Props, Text}
use Rattle.dump_index.specs.steps.Effects.{latest_place, sets, shapes}

-- what a change does to the part
abbrev pub setting_of : Part → Listed → Setting
setting_of Props l = l.props
setting_of Text l = l.text

-- whether a change sets the whole part
abbrev pub is_replacing : Setting → Bool
is_replacing Keeps = false
is_replacing Replaces = true
is_replacing Edits = false
is_replacing EditsNothing = false

-- whether there is such a change, it sets the part, and is at this path
abbrev pub sets_there : Part → List ℕ → Option Listed → Bool
sets_there part path None = false
sets_there part path (Some l) = sets (setting_of part l) && bytes_eq l.path path

-- whether the change at this place sets the part at the path
abbrev pub sets_at : Part → List Listed → List ℕ → ℕ → Bool
sets_at part listed path place = sets_there part path (slice_get listed place)

-- the latest of this number of changes that shapes the path or sets the part
abbrev pub latest_for : Part → List Listed → List ℕ → ℕ → Option ℕ
latest_for part listed path count = latest_place (λ place. shapes listed path place || sets_at part listed path place) count

-- the place, if the change there sets something
abbrev pub own_place : Bool → ℕ → List ℕ
own_place true place = place ∷ []
own_place false place = []

-- These are the places of the changes that set the part of what exists at the path after this number of changes, the
-- latest one first. They go back to a change that sets the whole part or makes a new node, if there is one. Before a
-- copy they are the places for the copy's source.
pub data IsTrail (part : Part) (listed : List Listed) : ℕ → List ℕ → List ℕ → Type 0 where
  -- no change sets the part or shapes the path
  Unset : (count : ℕ) (path : List ℕ) → latest_for part listed path count ≡ None → IsTrail part listed count path []
  -- a change sets the whole part
  Whole : (count : ℕ) (path : List ℕ) (place : ℕ) (l : Listed) → latest_for part listed path count ≡ Some place
      → slice_get listed place ≡ Some l → sets_at part listed path place ≡ true → is_replacing (setting_of part l) ≡ true
      → IsTrail part listed count path (place ∷ [])
  -- a change edits the part of what is at the path before it
  Edited : (count : ℕ) (path : List ℕ) (place : ℕ) (trail : List ℕ) → latest_for part listed path count ≡ Some place
      → sets_at part listed path place ≡ true → shapes listed path place ≡ false
      → IsTrail part listed place path trail → IsTrail part listed count path (place ∷ trail)
  -- a change that is no copy shapes the path, and may set the part
  NewMade : (count : ℕ) (path : List ℕ) (place : ℕ) (l : Listed) → latest_for part listed path count ≡ Some place
      → slice_get listed place ≡ Some l → shapes listed path place ≡ true → is_copied l.made ≡ false
      → IsTrail part listed count path (own_place (sets_at part listed path place) place)
  -- a change copies to the path or to one above it, and may set the part
  Copied : (count : ℕ) (path : List ℕ) (place : ℕ) (l : Listed) (number : ℕ) (source rest : NodePath) (next trail : List ℕ)
      → latest_for part listed path count ≡ Some place
      → slice_get listed place ≡ Some l → shapes listed path place ≡ true → l.made ≡ Some (Made.Copied number source)
      → below (names_of l.path) (names_of path) ≡ Some rest → names_of next ≡ source ++ rest
      → IsTrail part listed (end_of (all_placed listed) number) next trail
      → IsTrail part listed count path (own_place (sets_at part listed path place) place ++ trail)
