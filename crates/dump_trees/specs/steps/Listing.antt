-- Which names can exist in a directory after the first changes of a dump, found without building trees.
use Rattle.std.specs.Prelude.{◌≡◌, ℕ, zero, suc, List, [], ◌∷◌, ◌++◌, Option, Some, None, is_some, slice_get, bytes_eq, IsTrue}
use Rattle.std.specs.List.{list_any}
use Rattle.dump_trees.specs.Paths.{NodePath, below}
use Rattle.dump_trees.specs.Trees.{Tree, root_alone}
use Rattle.dump_trees.specs.Changes.{Made, Change}
use Rattle.dump_trees.specs.Revisions.{loaded_over}
use Rattle.dump_trees.specs.steps.Looking.{Placed, placed_from, end_of, touches_path, latest, Origin, origin_of}

-- the name, if the rest of a path is one name alone, and something is made there
abbrev pub name_made : Option NodePath → Option Made → List (List ℕ)
name_made None made = []
name_made (Some []) made = []
name_made (Some (name ∷ [])) None = []
name_made (Some (name ∷ [])) (Some made) = name ∷ []
name_made (Some (name ∷ next ∷ rest)) made = []

-- the name of what a change makes directly below the path
abbrev pub name_below : NodePath → Option Placed → List (List ℕ)
name_below path None = []
name_below path (Some p) = name_made (below path p.change.path) p.change.made

-- the names of what the first changes, up to this many, make directly below the path
abbrev pub names_made : List Placed → ℕ → NodePath → List (List ℕ)
names_made placed zero path = []
names_made placed (suc count) path = name_below path (slice_get placed count) ++ names_made placed count path

-- the names at this origin, for the change at this place; a function returns the names after a number of changes
abbrev pub names_from : (ℕ → NodePath → List (List ℕ)) → List Placed → ℕ → NodePath → Origin → List (List ℕ)
names_from earlier placed place path Origin.Nowhere = []
names_from earlier placed place path (Origin.New node) = []
names_from earlier placed place path Origin.Before = earlier place path
names_from earlier placed place path (Origin.From number source) = earlier (end_of placed number) source

-- the names that the change at this place leaves below the path that has this rest
abbrev pub names_left : (ℕ → NodePath → List (List ℕ)) → List Placed → ℕ → NodePath → Change → Option NodePath
    → List (List ℕ)
names_left earlier placed place path c None = []
names_left earlier placed place path c (Some rest) =
    names_from earlier placed place path (origin_of c.deletes c.made rest)

-- the names that the change at this place leaves; none if there is no such change
abbrev pub names_there : (ℕ → NodePath → List (List ℕ)) → List Placed → ℕ → NodePath → Option Placed → List (List ℕ)
names_there earlier placed place path None = []
names_there earlier placed place path (Some p) =
    names_left earlier placed place path p.change (below p.change.path path)

-- the names that the latest change that touches the path leaves; none if there is no such change
abbrev pub names_behind : (ℕ → NodePath → List (List ℕ)) → List Placed → NodePath → Option ℕ → List (List ℕ)
names_behind earlier placed path None = []
names_behind earlier placed path (Some place) = names_there earlier placed place path (slice_get placed place)

-- names that can exist directly below the path after this number of changes, if the search makes no more than this
-- many steps
abbrev pub names_within : ℕ → List Placed → ℕ → NodePath → List (List ℕ)
names_within zero placed count path = []
names_within (suc more) placed count path =
    names_made placed count path
    ++ names_behind (names_within more placed) placed path (latest (touches_path path) placed count)

-- names that can exist directly below the path after this number of changes of a new repository: those of what is made
-- there, and those at the source of a copy
abbrev pub names_look : List Placed → ℕ → NodePath → List (List ℕ)
names_look placed count path = names_within count placed count path

-- in the tree of each revision each name in a directory is among those that can exist there
abbrev pub NamesAreLooked : Type 0
NamesAreLooked = (revisions : List (List Change)) (trees : List Tree) (number : ℕ) (tree : Tree) (path : NodePath)
    (name : List ℕ) →
    loaded_over root_alone revisions ≡ Some trees → slice_get trees number ≡ Some tree
    → IsTrue (is_some (tree (path ++ name ∷ [])))
    → IsTrue (list_any (λ other. bytes_eq other name)
    (names_look (placed_from 1 revisions) (end_of (placed_from 1 revisions) number) path))
