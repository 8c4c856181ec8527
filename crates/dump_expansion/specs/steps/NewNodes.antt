-- The nodes that are written in place of others, as values of the format.
use Rattle.std.specs.Prelude.{map}
use Rattle.dump_history.specs.WrittenNodes as format
use Rattle.dump_index.specs.declared.change.NodeKind.{NodeKind}
use Rattle.dump_index.specs.declared.change.NodeKind.TheVariants as kinds
use Rattle.dump_changes.specs.steps.ChangedProperties.{as_property}
use Rattle.dump_changes.specs.steps.MadeTexts.{told_of_file}
use Rattle.dump_expansion.specs.declared.written_node.NewNode.{NewNode}
use Rattle.dump_expansion.specs.declared.written_node.NewNode.TheVariants as nodes

-- the kind that a copy says it has
abbrev pub written_kind : NodeKind → format.NodeKind
written_kind kinds.Directory = format.NodeKind.Dir
written_kind kinds.File = format.NodeKind.File

-- the node that the code writes, as such a value
abbrev pub written_of : NewNode → format.WrittenNode
written_of (nodes.Deletion path) = format.WrittenNode.Deletion path.items
written_of (nodes.Copy kind revision source path) =
    format.WrittenNode.Copy (written_kind kind) revision source.items path.items
written_of (nodes.Directory replaces path entries) =
    format.WrittenNode.Directory replaces path.items (map as_property entries.items)
written_of (nodes.File replaces path entries text) =
    let its = told_of_file text in
    format.WrittenNode.File replaces path.items (map as_property entries.items) its.text its.md5 its.sha1
