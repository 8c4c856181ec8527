-- Prefixes as canonical paths: a prefix is read as the load reads paths, without empty names and names of one dot.
use Rattle.std.specs.Prelude.{◌≡◌, ℕ, List, IsTrue}
use Rattle.std.specs.List.{list_all}
use Rattle.dump_trees.specs.Paths.{path_of, is_short}
use Rattle.dump_trees.specs.Siblings.{has_node_names}
use Rattle.dump_trees.specs.CanonicalPaths.{canonical_path, canonical_paths}

-- they have names of nodes, whatever the prefixes are
abbrev pub CanonicalPathsHaveNames : Type 0
CanonicalPathsHaveNames = (prefixes : List (List ℕ)) → IsTrue (list_all has_node_names (canonical_paths prefixes))

-- if the path that a text names is canonical, as `is_short` says, `canonical_path` gives this path
abbrev pub ShortPathsAreCanonical : Type 0
ShortPathsAreCanonical = (text : List ℕ) → IsTrue (is_short text) → canonical_path text ≡ path_of text
