-- Siblings of every tree, also of those within revisions: what they are, and how they are found without building trees.
use Rattle.std.specs.Prelude.{◌≡◌, ℕ, ◌≤◌, List, [], ◌∷◌, ◌++◌, length, Some, is_some, bytes_eq, Contains, IsTrue}
use Rattle.std.specs.List.{list_all, list_any}
use Rattle.dump_rules.specs.Settings.{Settings}
use Rattle.dump_trees.specs.Paths.{NodePath, keeps}
use Rattle.dump_trees.specs.Trees.{Tree, root_alone}
use Rattle.dump_trees.specs.Changes.{Made, Change}
use Rattle.dump_trees.specs.Revisions.{loaded_over}
use Rattle.dump_trees.specs.steps.Looking.{placed_from, look}
use Rattle.dump_trees.specs.steps.Listing.{names_look}
use Rattle.dump_trees.specs.steps.Siblings.{is_above_included, is_sibling, is_in_cut, have_node_names, AreSiblings, ExcludesPaths}
use Rattle.dump_trees.specs.steps.Following.{ExistsOnce}
use Rattle.dump_trees.specs.EverSiblings.{does_something}

-- these are siblings, and each sibling at which something exists after some of the changes is among them
abbrev pub AreEverSiblings : List NodePath → List (List Change) → List NodePath → Type 0
AreEverSiblings included revisions siblings = (front : List (List Change)) (changes more : List Change)
    (rest : List (List Change)) (trees : List Tree) →
    revisions ≡ front ++ (changes ++ more) ∷ rest → loaded_over root_alone (front ++ changes ∷ []) ≡ Some trees
    → AreSiblings included trees siblings

-- if they are excluded, a path at which something ever exists is kept exactly if it is in the cut
abbrev pub EverKeptInCut : Type 0
EverKeptInCut = (settings : Settings) (included siblings : List NodePath) (revisions : List (List Change))
    (path : NodePath) →
    IsTrue (have_node_names revisions) → ExcludesPaths settings siblings
    → AreEverSiblings included revisions siblings → ExistsOnce revisions path
    → keeps settings path ≡ is_in_cut included path

-- something with this name exists directly below the path after this number of changes: the name is one that can exist
-- there then, and looking back finds something
abbrev pub ExistsBelow : List (List Change) → ℕ → NodePath → List ℕ → Type 0
ExistsBelow revisions count path name =
    IsTrue (list_any (λ other. bytes_eq other name) (names_look (placed_from 1 revisions) count path))
    × IsTrue (is_some (look root_alone (placed_from 1 revisions) count (path ++ name ∷ [])))

-- siblings suffice if each one that exists in its directory after some of the changes is among them
abbrev pub EverSiblingsAreFound : Type 0
EverSiblingsAreFound = (included siblings : List NodePath) (revisions : List (List Change)) →
    IsTrue (list_all (is_sibling included) siblings)
    → ((count : ℕ) (path : NodePath) (name : List ℕ) → count ≤ length (placed_from 1 revisions)
    → IsTrue (is_above_included included path) → ExistsBelow revisions count path name
    → IsTrue (is_sibling included (path ++ name ∷ [])) → Contains siblings (path ++ name ∷ []))
    → AreEverSiblings included revisions siblings

-- at the path of each change that does something, something exists once, before the change or after it
abbrev pub ChangedPathsExist : Type 0
ChangedPathsExist = (revisions : List (List Change)) (trees : List Tree) (changes : List Change) (c : Change) →
    loaded_over root_alone revisions ≡ Some trees → Contains revisions changes → Contains changes c
    → IsTrue (does_something c) → ExistsOnce revisions c.path

-- the same holds for the source of each copy
abbrev pub CopiedPathsExist : Type 0
CopiedPathsExist = (revisions : List (List Change)) (trees : List Tree) (changes : List Change) (c : Change)
    (number : ℕ) (source : NodePath) →
    loaded_over root_alone revisions ≡ Some trees → Contains revisions changes → Contains changes c
    → c.made ≡ Some (Made.Copied number source) → ExistsOnce revisions source
