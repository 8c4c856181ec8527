-- Prefixes as canonical paths: a prefix is read as the load reads paths, without empty names and names of one dot.
use Rattle.std.specs.Prelude.{ℕ, ◌==◌, List, map, filter}
use Rattle.std.specs.List.{slice_split}
use Rattle.dump_trees.specs.Paths.{NodePath}
use Rattle.dump_trees.specs.Siblings.{is_node_name}

-- the path that a prefix names: the names between its slashes, without empty ones and those of one dot
abbrev pub canonical_path : List ℕ → NodePath
canonical_path prefix = filter is_node_name (slice_split (λ c. c == 47) prefix)

-- the paths that prefixes name
abbrev pub canonical_paths : List (List ℕ) → List NodePath
canonical_paths prefixes = map canonical_path prefixes
