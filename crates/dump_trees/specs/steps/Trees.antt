-- Trees of a repository.
use Rattle.std.specs.Prelude.{◌≡◌, ℕ, true, List, ◌∷◌, ◌++◌, Some}
use Rattle.dump_trees.specs.Paths.{NodePath}
use Rattle.dump_trees.specs.Trees.{Node, Tree, is_directory_node}

-- if a node exists at a path, a directory exists at each path above it
abbrev pub HasDirectories : Tree → Type 0
HasDirectories tree = (top : NodePath) (name : List ℕ) (rest : NodePath) (node : Node) →
    tree (top ++ name ∷ rest) ≡ Some node → is_directory_node (tree top) ≡ true
