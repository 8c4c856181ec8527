-- The laws of a revision and of an entire history.
use Rattle.std.specs.Prelude.{◌≡◌, ℕ, List, Option, Some, slice_get}
use Rattle.dump_rules.specs.Settings.{Settings}
use Rattle.dump_trees.specs.Trees.{Tree}
use Rattle.dump_trees.specs.Restriction.{NewProperty, IsRestricted}

-- the tree at the image of each number is the restricted tree at that number
abbrev pub ImagesRestrict : Settings → NewProperty → (ℕ → Option ℕ) → List Tree → List Tree → Type 0
ImagesRestrict settings IsNew image_of trees others = (number : ℕ) (tree : Tree) → slice_get trees number ≡ Some tree →
    (new : ℕ) × (other : Tree) × (image_of number ≡ Some new) × (slice_get others new ≡ Some other)
    × IsRestricted settings IsNew tree other
