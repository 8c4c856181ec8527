-- How siblings are found without building trees: among the names that can exist in the directories above included
-- paths.
use Rattle.std.specs.Prelude.{◌≡◌, ℕ, ◌≤◌, List, [], ◌∷◌, ◌++◌, length, map, Some, bytes_eq, Contains, IsTrue}
use Rattle.std.specs.List.{list_all, list_any}
use Rattle.dump_trees.specs.Paths.{NodePath}
use Rattle.dump_trees.specs.Trees.{Tree, root_alone}
use Rattle.dump_trees.specs.Changes.{Change}
use Rattle.dump_trees.specs.Revisions.{loaded_over}
use Rattle.dump_trees.specs.steps.Looking.{placed_from, end_of}
use Rattle.dump_trees.specs.steps.Listing.{names_look}
use Rattle.dump_trees.specs.steps.Siblings.{is_above_included, is_sibling, AreSiblings}

-- the paths above this one, from the root on
abbrev pub directories_above : NodePath → List NodePath
directories_above [] = []
directories_above (name ∷ path) = [] ∷ map (λ above. name ∷ above) (directories_above path)

-- the paths above one of these
abbrev pub all_above : List NodePath → List NodePath
all_above [] = []
all_above (path ∷ paths) = directories_above path ++ all_above paths

-- each directory above an included path is the root, or one of the paths above these
abbrev pub AboveAreListed : Type 0
AboveAreListed = (included : List NodePath) (path : NodePath) → IsTrue (is_above_included included path)
    → Contains ([] ∷ all_above included) path

-- a name that can exist directly below the path at the end of this revision
abbrev pub CanStandBelow : List (List Change) → ℕ → NodePath → List ℕ → Type 0
CanStandBelow revisions number path name = IsTrue (list_any (λ other. bytes_eq other name)
    (names_look (placed_from 1 revisions) (end_of (placed_from 1 revisions) number) path))

-- siblings suffice if each one whose name can exist in its directory at the end of some revision is among them
abbrev pub SiblingsAreFound : Type 0
SiblingsAreFound = (included siblings : List NodePath) (revisions : List (List Change)) (trees : List Tree) →
    loaded_over root_alone revisions ≡ Some trees → IsTrue (list_all (is_sibling included) siblings)
    → ((number : ℕ) (path : NodePath) (name : List ℕ) → number ≤ length revisions
    → IsTrue (is_above_included included path) → CanStandBelow revisions number path name
    → IsTrue (is_sibling included (path ++ name ∷ [])) → Contains siblings (path ++ name ∷ []))
    → AreSiblings included trees siblings
