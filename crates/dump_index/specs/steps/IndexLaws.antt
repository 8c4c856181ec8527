-- What an index finds, and what exists in the repository.
use Rattle.std.specs.Prelude.{◌≡◌, ℕ, List, [], ◌∷◌, ◌++◌, map, Option, Some, None, option_map, option_and_then, is_some, slice_get, IsTrue, ⊤}
use Rattle.std.specs.List.{AllZip, Contains, list_all}
use Rattle.dump_text.specs.PropertyList.{Property}
use Rattle.dump_trees.specs.Paths.{NodePath, names_of}
use Rattle.dump_trees.specs.Trees.{Node, Tree, root_alone}
use Rattle.dump_trees.specs.Changes.{Change, PropertyChange, TextChange, new_props, new_text}
use Rattle.dump_trees.specs.steps.ComingBack.{properties_of}
use Rattle.dump_trees.specs.Revisions.{loaded_over}
use Rattle.dump_trees.specs.steps.Looking.{Placed, placed_from, end_of, look}
use Rattle.dump_trees.specs.steps.Siblings.{is_sibling, AreSiblings}
use Rattle.dump_trees.specs.steps.FindingSiblings.{CanStandBelow, all_above}
use Rattle.dump_index.specs.steps.Listed.{Listed, listed_of}
use Rattle.dump_index.specs.steps.InOrder.{are_in_order}
use Rattle.dump_index.specs.steps.Kinds.{node_kind, kind_look}
use Rattle.dump_index.specs.steps.Children.{is_child_named, AreChildren}
use Rattle.dump_index.specs.steps.NamesEver.{AreNamesEver}
use Rattle.dump_index.specs.steps.Settings.{IsTrail}
use Rattle.dump_index.specs.declared.change.NodeChange.{NodeChange}
use Rattle.dump_index.specs.declared.change.Setting.{Setting}
use Rattle.dump_index.specs.declared.change.Setting.TheVariants.{Keeps, Replaces, Edits, EditsNothing}
use Rattle.dump_index.specs.declared.trail.Part.TheVariants.{Props, Text}

-- a change of a repository sets properties as this setting says
abbrev pub HasProps : Setting → Option PropertyChange → Type 0
HasProps Keeps None = ⊤
HasProps Keeps (Some change) = ⊥
HasProps Replaces None = ⊥
HasProps Replaces (Some (PropertyChange.Replaced entries)) = ⊤
HasProps Replaces (Some (PropertyChange.Edited entries)) = ⊥
HasProps Edits None = ⊥
HasProps Edits (Some (PropertyChange.Replaced entries)) = ⊥
HasProps Edits (Some (PropertyChange.Edited [])) = ⊥
HasProps Edits (Some (PropertyChange.Edited (entry ∷ entries))) = ⊤
HasProps EditsNothing None = ⊥
HasProps EditsNothing (Some (PropertyChange.Replaced entries)) = ⊥
HasProps EditsNothing (Some (PropertyChange.Edited [])) = ⊤
HasProps EditsNothing (Some (PropertyChange.Edited (entry ∷ entries))) = ⊥

-- a change of a repository sets a text as this setting says; none sets a text by `EditsNothing`
abbrev pub HasText : Setting → Option TextChange → Type 0
HasText Keeps None = ⊤
HasText Keeps (Some change) = ⊥
HasText Replaces None = ⊥
HasText Replaces (Some (TextChange.Replaced text)) = ⊤
HasText Replaces (Some (TextChange.Patched patch)) = ⊥
HasText Edits None = ⊥
HasText Edits (Some (TextChange.Replaced text)) = ⊥
HasText Edits (Some (TextChange.Patched patch)) = ⊤
HasText EditsNothing change = ⊥

-- an index says of a change what this change of a repository does
pub record IsListed (l : Listed) (p : Placed) : Type 0 where
  pub revision : p.revision ≡ l.revision
  pub path : p.change.path ≡ names_of l.path
  pub deletes : p.change.deletes ≡ l.deletes
  pub made : p.change.made ≡ l.made
  pub props : HasProps l.props p.change.props
  pub text : HasText l.text p.change.text

-- an index of these changes says, for each change in turn, what these changes of a repository do
abbrev pub AreListed : List NodeChange → List Placed → Type 0
AreListed changes placed = AllZip IsListed (map listed_of changes) placed

-- if a node exists at a path, an index finds of which kind it is
abbrev pub KindsAreFound : Type 0
KindsAreFound = (changes : List NodeChange) (placed : List Placed) (count : ℕ) (path : NodePath) (node : Node) →
    IsTrue (are_in_order 0 changes) → AreListed changes placed
    → look root_alone placed count path ≡ Some node
    → kind_look (map listed_of changes) count path ≡ Some (node_kind node)

-- the text of a node; a directory has none
abbrev pub listed_text : Node → List ℕ
listed_text (Node.Directory props) = []
listed_text (Node.File props text) = text

-- what a change makes of properties and of a text; a change that doesn't set them leaves them as they are
abbrev pub props_by : Option PropertyChange → List Property → Option (List Property)
props_by None old = Some old
props_by (Some change) old = Some (new_props change old)

abbrev pub text_by : Option TextChange → List ℕ → Option (List ℕ)
text_by None old = Some old
text_by (Some change) old = new_text change old

-- what the changes at these places, the latest one first, make of an empty property list and of an empty text
abbrev pub props_there : Option Placed → List Property → Option (List Property)
props_there None old = Some old
props_there (Some p) old = props_by p.change.props old

abbrev pub props_after : List Placed → List ℕ → Option (List Property)
props_after placed [] = Some []
props_after placed (place ∷ trail) = option_and_then (props_there (slice_get placed place)) (props_after placed trail)

abbrev pub text_there : Option Placed → List ℕ → Option (List ℕ)
text_there None old = Some old
text_there (Some p) old = text_by p.change.text old

abbrev pub text_after : List Placed → List ℕ → Option (List ℕ)
text_after placed [] = Some []
text_after placed (place ∷ trail) = option_and_then (text_there (slice_get placed place)) (text_after placed trail)

-- if a node exists at a path, the changes of a trail set its properties, from the oldest change on
abbrev pub PropsAreFound : Type 0
PropsAreFound = (changes : List NodeChange) (placed : List Placed) (count : ℕ) (path trail : List ℕ) (node : Node) →
    IsTrue (are_in_order 0 changes) → AreListed changes placed
    → IsTrail Props (map listed_of changes) count path trail
    → look root_alone placed count (names_of path) ≡ Some node
    → props_after placed trail ≡ Some (properties_of node)

-- and they set its text
abbrev pub TextsAreFound : Type 0
TextsAreFound = (changes : List NodeChange) (placed : List Placed) (count : ℕ) (path trail : List ℕ) (node : Node) →
    IsTrue (are_in_order 0 changes) → AreListed changes placed
    → IsTrail Text (map listed_of changes) count path trail
    → look root_alone placed count (names_of path) ≡ Some node
    → text_after placed trail ≡ Some (listed_text node)

-- if a dump loads, an index finds what exists in the tree of each revision, and at which paths nothing exists
abbrev pub KindsAreOfTrees : Type 0
KindsAreOfTrees = (changes : List NodeChange) (revisions : List (List Change)) (trees : List Tree) (number : ℕ) (tree : Tree)
    (path : NodePath) →
    IsTrue (are_in_order 0 changes) → AreListed changes (placed_from 1 revisions)
    → loaded_over root_alone revisions ≡ Some trees → slice_get trees number ≡ Some tree
    → kind_look (map listed_of changes) (end_of (placed_from 1 revisions) number) path ≡ option_map node_kind (tree path)

-- and the names that it finds in a directory are the names of what exists there
abbrev pub ChildrenAreOfTrees : Type 0
ChildrenAreOfTrees = (changes : List NodeChange) (revisions : List (List Change)) (trees : List Tree) (number : ℕ)
    (tree : Tree) (path : NodePath) (names : List (List ℕ)) (name : List ℕ) →
    IsTrue (are_in_order 0 changes) → AreListed changes (placed_from 1 revisions)
    → loaded_over root_alone revisions ≡ Some trees → slice_get trees number ≡ Some tree
    → AreChildren (map listed_of changes) (end_of (placed_from 1 revisions) number) path names
    → is_child_named names name ≡ is_some (tree (path ++ name ∷ []))

-- if a name can exist in a directory at the end of a revision, it is one of the names that can exist there at some
-- time
abbrev pub NamesEverAreFound : Type 0
NamesEverAreFound = (changes : List NodeChange) (revisions : List (List Change)) (number : ℕ) (path : NodePath)
    (names : List (List ℕ)) (name : List ℕ) →
    AreListed changes (placed_from 1 revisions)
    → AreNamesEver (map listed_of changes) path names → CanStandBelow revisions number path name
    → IsTrue (is_child_named names name)

-- so it suffices if the siblings include each sibling with such a name, in the root and in the directories above
-- included paths
abbrev pub NamesEverSuffice : Type 0
NamesEverSuffice = (changes : List NodeChange) (included siblings : List NodePath) (revisions : List (List Change))
    (trees : List Tree) →
    AreListed changes (placed_from 1 revisions) → loaded_over root_alone revisions ≡ Some trees
    → IsTrue (list_all (is_sibling included) siblings)
    → ((path : NodePath) → Contains ([] ∷ all_above included) path
    → (names : List (List ℕ)) × AreNamesEver (map listed_of changes) path names
    × ((name : List ℕ) → IsTrue (is_child_named names name) → IsTrue (is_sibling included (path ++ name ∷ []))
    → Contains siblings (path ++ name ∷ [])))
    → AreSiblings included trees siblings
