-- The nodes that an expanded dump has in place of others: deletions, copies, and directories and files that are written
-- as a whole. Which lines a node has, and what follows them (Subversion, notes/dump-load-format.txt).
use Rattle.std.specs.Prelude.{ℕ, ◌+◌, ◌<◌, Bool, List, ◌++◌, IsTrue}
use Rattle.dump_text.specs.HeaderBlock.{block_text}
use Rattle.dump_records.specs.RecordText.{BeginsWithRecord}
use Rattle.dump_trees.specs.Paths.{path_of}
use Rattle.dump_trees.specs.Changes.{Change}
use Rattle.dump_trees.specs.steps.WritingOut.{copy_of, directory_of, file_of}
use Rattle.dump_trees.specs.steps.ExpansionCases.{deletion_of}
use Rattle.dump_history.specs.RecordChanges.{Patching, MakesChange}
use Rattle.dump_history.specs.WrittenNodes.{WrittenNode, can_be_written, node_lines, node_props, node_record, node_text}

-- the node's bytes
abbrev pub node_bytes : WrittenNode → List ℕ
node_bytes w = block_text (node_lines w) ++ node_props w ++ node_text w

-- the change, which deletes first what is at its path if this says so
abbrev pub replacing : Bool → Change → Change
replacing replaces c = record {
  path = c.path;
  deletes = replaces;
  made = c.made;
  props = c.props;
  text = c.text;
}

-- the change that the node is written for
abbrev pub written_change : WrittenNode → Change
written_change (WrittenNode.Deletion path) = deletion_of (path_of path)
written_change (WrittenNode.Copy kind number source path) = copy_of number (path_of source) (path_of path)
written_change (WrittenNode.Directory replaces path entries) = replacing replaces (directory_of (path_of path) entries)
written_change (WrittenNode.File replaces path entries text md5 sha1) =
    replacing replaces (file_of (path_of path) entries text)

-- wherever such a node is after the first record of a dump, it is one record of it, which breaks no rule
abbrev pub WrittenNodesAreRecords : Type 0
WrittenNodesAreRecords = (w : WrittenNode) (number place version : ℕ) (after : List ℕ) →
    IsTrue (can_be_written w) → 0 < number
    → BeginsWithRecord number (node_bytes w ++ after) (node_record place version w) after

-- and it makes its change
abbrev pub WrittenNodesMakeChanges : Type 0
WrittenNodesMakeChanges = (patched : Patching) (w : WrittenNode) (place version : ℕ) →
    IsTrue (can_be_written w) → MakesChange patched (node_record place version w) (written_change w)
