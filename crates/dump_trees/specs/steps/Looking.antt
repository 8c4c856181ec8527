-- What exists at a path after the first changes of a dump, found without building trees: a search goes back to the
-- latest change that touches the path, and from a copy to its source.
use Rattle.std.specs.Prelude.{◌≡◌, ℕ, zero, suc, Bool, true, false, ◌||◌, List, [], ◌∷◌, ◌++◌, length, map, Option, Some, None, option_map, option_and_then, is_some, slice_get, nat_le, count_by, if◌then◌else◌, IsTrue}
use Rattle.std.specs.List.{list_all}
use Rattle.dump_trees.specs.Paths.{NodePath, below}
use Rattle.dump_trees.specs.Trees.{Node, Tree}
use Rattle.dump_trees.specs.Changes.{Made, is_copied, PropertyChange, TextChange, Change, with_props, with_text}
use Rattle.dump_trees.specs.Revisions.{loaded_over}

-- a change of a dump, with the number of its revision
pub record Placed : Type 0 where
  pub revision : ℕ
  pub change : Change

-- the changes of these revisions, in order; the first revision has this number
abbrev pub placed_from : ℕ → List (List Change) → List Placed
placed_from number [] = []
placed_from number (changes ∷ revisions) =
    map (λ (c : Change). record { revision = number; change = c }) changes ++ placed_from (suc number) revisions

-- how many of the changes are in revisions up to this number
abbrev pub end_of : List Placed → ℕ → ℕ
end_of placed number = count_by (λ (p : Placed). nat_le p.revision number) placed

-- whether a change touches the path that has this rest after the change's own path: it does something at this path, or
-- its own path is above, and it deletes or copies there
abbrev pub touches_rest : Option NodePath → Change → Bool
touches_rest None c = false
touches_rest (Some []) c = c.deletes || is_some c.made || is_some c.props || is_some c.text
touches_rest (Some (name ∷ rest)) c = c.deletes || is_copied c.made

-- whether a change touches the path
abbrev pub touches_path : NodePath → Change → Bool
touches_path path c = touches_rest (below c.path path) c

-- whether there is such a change, and the test holds of it
abbrev pub holds_there : (Change → Bool) → Option Placed → Bool
holds_there test None = false
holds_there test (Some p) = test p.change

-- the place of the latest of the first changes, up to this many, of which a test holds
abbrev pub latest : (Change → Bool) → List Placed → ℕ → Option ℕ
latest test placed zero = None
latest test placed (suc count) =
    if holds_there test (slice_get placed count) then Some count else latest test placed count

-- where what exists at a path after a change comes from: nothing exists, or it is a new node, or it was there before,
-- or it was at a path of another revision
pub data Origin : Type 0 where
  Nowhere : Origin
  New : (node : Node) → Origin
  Before : Origin
  From : (number : ℕ) → (source : NodePath) → Origin

-- what a change that makes nothing leaves of what was there before
abbrev pub left_by : Bool → Origin
left_by true = Origin.Nowhere
left_by false = Origin.Before

-- where what exists after the change, at this rest of the change's own path, comes from
abbrev pub origin_of : Bool → Option Made → NodePath → Origin
origin_of deletes None rest = left_by deletes
origin_of deletes (Some Made.NewDirectory) [] = Origin.New (Node.Directory [])
origin_of deletes (Some Made.NewDirectory) (name ∷ rest) = left_by deletes
origin_of deletes (Some Made.NewFile) [] = Origin.New (Node.File [] [])
origin_of deletes (Some Made.NewFile) (name ∷ rest) = left_by deletes
origin_of deletes (Some (Made.Copied number source)) rest = Origin.From number (source ++ rest)

-- the node with the properties that a change sets
abbrev pub node_with_props : Option PropertyChange → Option Node → Option Node
node_with_props None node = node
node_with_props (Some change) node = option_map (with_props change) node

-- the node with the text that a change sets
abbrev pub node_with_text : Option TextChange → Option Node → Option Node
node_with_text None node = node
node_with_text (Some change) node = option_and_then (with_text change) node

-- the node with what a change sets at this rest of its path: its properties and its text at its own path, and below
-- that nothing
abbrev pub set_by : Change → NodePath → Option Node → Option Node
set_by c [] node = node_with_text c.text (node_with_props c.props node)
set_by c (name ∷ rest) node = node

-- the node of this origin, for the change at this place; a function returns what existed after a number of changes
abbrev pub looked_up : (ℕ → NodePath → Option Node) → List Placed → ℕ → NodePath → Origin → Option Node
looked_up earlier placed place path Origin.Nowhere = None
looked_up earlier placed place path (Origin.New node) = Some node
looked_up earlier placed place path Origin.Before = earlier place path
looked_up earlier placed place path (Origin.From number source) = earlier (end_of placed number) source

-- what exists after the change at this place, at the path that has this rest; without a rest, what existed before
abbrev pub left_at : (ℕ → NodePath → Option Node) → List Placed → ℕ → NodePath → Change → Option NodePath → Option Node
left_at earlier placed place path c None = earlier place path
left_at earlier placed place path c (Some rest) =
    set_by c rest (looked_up earlier placed place path (origin_of c.deletes c.made rest))

-- what exists at the path after the change at this place; nothing if there is no such change
abbrev pub left_there : (ℕ → NodePath → Option Node) → List Placed → ℕ → NodePath → Option Placed → Option Node
left_there earlier placed place path None = None
left_there earlier placed place path (Some p) = left_at earlier placed place path p.change (below p.change.path path)

-- what exists at the path after the latest change that touches it; if there is none, what exists in the first tree
abbrev pub look_behind : (ℕ → NodePath → Option Node) → Tree → List Placed → NodePath → Option ℕ → Option Node
look_behind earlier first placed path None = first path
look_behind earlier first placed path (Some place) = left_there earlier placed place path (slice_get placed place)

-- what exists at the path after this number of changes over a first tree, if the search makes no more than this many
-- steps
abbrev pub look_within : ℕ → Tree → List Placed → ℕ → NodePath → Option Node
look_within zero first placed count path = first path
look_within (suc more) first placed count path =
    look_behind (look_within more first placed) first placed path (latest (touches_path path) placed count)

-- What exists at the path after this number of changes over a first tree. If copies are of earlier revisions, each
-- step goes to fewer changes, so no more steps than changes are needed.
abbrev pub look : Tree → List Placed → ℕ → NodePath → Option Node
look first placed count path = look_within count first placed count path

-- if the first revisions load, the search finds after their changes what exists in their last tree. The last of them
-- may be cut short: the changes that follow can be of this revision and of later ones
abbrev pub LookFinds : Type 0
LookFinds = (first : Tree) (front : List (List Change)) (behind : List Placed) (trees : List Tree) (tree : Tree)
    (path : NodePath) →
    loaded_over first front ≡ Some trees → slice_get trees (length front) ≡ Some tree
    → IsTrue (list_all (λ (p : Placed). nat_le (length front) p.revision) behind)
    → look first (placed_from 1 front ++ behind) (length (placed_from 1 front)) path ≡ tree path

-- and at the end of each revision it finds what exists in this revision's tree
abbrev pub LookFindsEach : Type 0
LookFindsEach = (first : Tree) (revisions : List (List Change)) (trees : List Tree) (number : ℕ) (tree : Tree)
    (path : NodePath) →
    loaded_over first revisions ≡ Some trees → slice_get trees number ≡ Some tree
    → look first (placed_from 1 revisions) (end_of (placed_from 1 revisions) number) path ≡ tree path
