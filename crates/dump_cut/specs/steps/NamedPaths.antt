-- Changes whose paths have names of nodes.
use Rattle.std.specs.Prelude.{Bool, true, ◌&&◌, Option, Some, None}
use Rattle.dump_trees.specs.Changes.{Made}
use Rattle.dump_trees.specs.Paths.{names_of}
use Rattle.dump_trees.specs.Siblings.{has_node_names}
use Rattle.dump_index.specs.steps.Listed.{Listed}

-- whether a copy's source has names of nodes
abbrev pub has_named_source : Option Made → Bool
has_named_source None = true
has_named_source (Some Made.NewDirectory) = true
has_named_source (Some Made.NewFile) = true
has_named_source (Some (Made.Copied number source)) = has_node_names source

-- whether the path of a change has names of nodes, and so has its source, if it copies
abbrev pub has_named_paths : Listed → Bool
has_named_paths l = has_node_names (names_of l.path) && has_named_source l.made
