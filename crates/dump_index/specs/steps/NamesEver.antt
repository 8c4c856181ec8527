-- The names by which something can exist in a directory at some time.
use Rattle.std.specs.Prelude.{◌≡◌, ◌≤◌, ℕ, true, List, length}
use Rattle.std.specs.List.Sorted.{IsStrictlySortedBy}
use Rattle.std.specs.Cmp.Lexicographic.{slice_cmp}
use Rattle.std.specs.Ordering.{nat_cmp}
use Rattle.dump_trees.specs.Paths.{NodePath}
use Rattle.dump_trees.specs.steps.Listing.{names_look}
use Rattle.dump_index.specs.steps.Listed.{Listed, all_placed}
use Rattle.dump_index.specs.steps.Children.{is_child_named}

-- the name can exist right below the path after some number of the first changes
abbrev pub CanStandOnce : List Listed → NodePath → List ℕ → Type 0
CanStandOnce listed path name =
    (count : ℕ) × (count ≤ length listed) × (is_child_named (names_look (all_placed listed) count path) name ≡ true)

-- exactly the names that can exist right below the path at some time, without duplicates, in the order of their bytes
pub record AreNamesEver (listed : List Listed) (path : NodePath) (names : List (List ℕ)) : Type 0 where
  pub ordered : IsStrictlySortedBy (slice_cmp nat_cmp) names
  pub each : (name : List ℕ) → is_child_named names name ≡ true → CanStandOnce listed path name
  pub all : (name : List ℕ) → CanStandOnce listed path name → is_child_named names name ≡ true
