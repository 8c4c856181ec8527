-- Siblings: what is excluded so that the included paths and the directories above them are kept. Siblings are in those
-- directories, and aren't in the cut.
use Rattle.std.specs.Prelude.{ℕ, Bool, not, ◌&&◌, List, [], ◌∷◌, is_some, bytes_eq}
use Rattle.std.specs.List.{list_all}
use Rattle.dump_trees.specs.Paths.{NodePath, is_name, below}

-- the cut

-- whether the path is the top or below it
abbrev pub is_within : NodePath → NodePath → Bool
is_within top path = is_some (below top path)

-- names

-- whether the text can be the name of a node: it isn't empty, has no slash, and isn't a dot
abbrev pub is_node_name : List ℕ → Bool
is_node_name name = is_name name && not (bytes_eq name (46 ∷ []))

-- whether each name of the path can be the name of a node
abbrev pub has_node_names : NodePath → Bool
has_node_names path = list_all is_node_name path
