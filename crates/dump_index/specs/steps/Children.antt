-- The names of what exists in a directory after the first changes.
use Rattle.std.specs.Prelude.{◌≡◌, ℕ, Bool, ◌&&◌, List, [], ◌∷◌, ◌++◌, is_some, bytes_eq}
use Rattle.std.specs.List.{list_any}
use Rattle.std.specs.List.Sorted.{IsStrictlySortedBy}
use Rattle.std.specs.Cmp.Lexicographic.{slice_cmp}
use Rattle.std.specs.Ordering.{nat_cmp}
use Rattle.dump_trees.specs.Paths.{NodePath}
use Rattle.dump_trees.specs.steps.Listing.{names_look}
use Rattle.dump_index.specs.steps.Listed.{Listed, all_placed}
use Rattle.dump_index.specs.steps.Kinds.{kind_look}

-- whether the name is one of the names
abbrev pub is_child_named : List (List ℕ) → List ℕ → Bool
is_child_named names name = list_any (λ other. bytes_eq other name) names

-- whether something with this name exists right below the path after this number of changes
abbrev pub stands_in : List Listed → ℕ → NodePath → List ℕ → Bool
stands_in listed count path name = is_some (kind_look listed count (path ++ name ∷ []))

-- the names that can exist right below the path after this number of changes, and by which something does exist there;
-- without duplicates, in the order of their bytes
pub record AreChildren (listed : List Listed) (count : ℕ) (path : NodePath) (names : List (List ℕ)) : Type 0 where
  pub ordered : IsStrictlySortedBy (slice_cmp nat_cmp) names
  pub all : (name : List ℕ) → is_child_named names name
      ≡ (is_child_named (names_look (all_placed listed) count path) name && stands_in listed count path name)
