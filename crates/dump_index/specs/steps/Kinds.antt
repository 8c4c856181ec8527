-- What exists at a path after the first changes: a directory, a file or nothing.
use Rattle.std.specs.Prelude.{ℕ, List, Option, option_map}
use Rattle.dump_trees.specs.Paths.{NodePath}
use Rattle.dump_trees.specs.Trees.{Node, root_alone}
use Rattle.dump_trees.specs.steps.Looking.{look}
use Rattle.dump_index.specs.steps.Listed.{Listed, all_placed}
use Rattle.dump_index.specs.declared.change.NodeKind.{NodeKind}
use Rattle.dump_index.specs.declared.change.NodeKind.TheVariants.{Directory, File}

-- the kind of a node
abbrev pub node_kind : Node → NodeKind
node_kind (Node.Directory props) = Directory
node_kind (Node.File props text) = File

-- the kind that is found at the path after this number of changes in a new repository
abbrev pub kind_look : List Listed → ℕ → NodePath → Option NodeKind
kind_look listed count path = option_map node_kind (look root_alone (all_placed listed) count path)
