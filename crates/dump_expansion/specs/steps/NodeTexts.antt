-- The texts of nodes, one after the other.
use Rattle.std.specs.Prelude.{ℕ, Bool, List, ◌++◌, ◌∷◌, [], codes, flat_map}
use Rattle.dump_text.specs.HeaderLine.{Header}
use Rattle.dump_text.specs.Names.{path_name, node_kind_name, action_name, property_length_name, text_length_name}
use Rattle.dump_records.specs.DumpText.{line_feeds}
use Rattle.dump_history.specs.WrittenNodes.{WrittenNode, line, making_word, number_line}
use Rattle.dump_history.specs.steps.WrittenNodes.{node_bytes}

-- how many line feeds are written after a node
abbrev pub lfs_after : WrittenNode → ℕ
lfs_after (WrittenNode.Deletion path) = 1
lfs_after (WrittenNode.Copy kind number source path) = 1
lfs_after (WrittenNode.Directory replaces path entries) = 2
lfs_after (WrittenNode.File replaces path entries text md5 sha1) = 2

-- the nodes, with line feeds after each
abbrev pub nodes_text : List WrittenNode → List ℕ
nodes_text nodes = flat_map (λ w. node_bytes w ++ line_feeds (lfs_after w)) nodes

-- the lines of a file at this path, to the length of its text
abbrev pub file_lines : Bool → List ℕ → ℕ → ℕ → List Header
file_lines replaces path block_size text_size =
    line path_name path
    ∷ line node_kind_name (codes "file")
    ∷ line action_name (making_word replaces)
    ∷ number_line property_length_name block_size
    ∷ number_line text_length_name text_size ∷ []
