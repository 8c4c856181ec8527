-- The texts of deletes.
use Rattle.std.specs.Prelude.{ℕ, List, [], ◌∷◌, ◌++◌}
use Rattle.dump_history.specs.WrittenNodes.{WrittenNode}
use Rattle.dump_history.specs.steps.WrittenNodes.{node_bytes}

-- the nodes that delete these paths, each after a line feed
abbrev pub delete_texts : List (List ℕ) → List ℕ
delete_texts [] = []
delete_texts (path ∷ paths) = 10 ∷ node_bytes (WrittenNode.Deletion path) ++ delete_texts paths
