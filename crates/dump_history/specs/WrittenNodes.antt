-- The nodes that an expanded dump has in place of others: deletions, copies, and directories and files that are written
-- as a whole. Which lines a node has, and what follows them (Subversion, notes/dump-load-format.txt).
use Rattle.std.specs.Prelude.{ℕ, ◌+◌, ◌^◌, Bool, true, false, not, ◌&&◌, nat_lt, List, [], ◌∷◌, ◌++◌, length, Option, Some, None, codes}
use Rattle.std.specs.List.{list_all}
use Rattle.dump_text.specs.Names.{path_name, node_kind_name, action_name, copy_revision_name, copy_path_name, property_length_name, text_length_name, content_length_name, md5_name, sha1_name}
use Rattle.dump_text.specs.HeaderLine.{Header, has_byte}
use Rattle.dump_text.specs.Number.{spelled_number}
use Rattle.dump_text.specs.PropertyList.{Property, has_deletes, property_block_text}
use Rattle.dump_records.specs.RecordText.{DumpRecord}
use Rattle.dump_trees.specs.Paths.{is_short}

-- what kind of node a copy says that it is; a load does not look at it
pub data NodeKind : Type 0 where
  Dir : NodeKind
  File : NodeKind

-- a node that is written; paths are given by their texts
pub data WrittenNode : Type 0 where
  -- what is at the path is deleted
  Deletion : (path : List ℕ) → WrittenNode
  -- the source, as it is in the revision of this number, is copied to the path
  Copy : (kind : NodeKind) → (number : ℕ) → (source : List ℕ) → (path : List ℕ) → WrittenNode
  -- a directory with the properties of these entries; it replaces what is at the path, or nothing is there
  Directory : (replaces : Bool) → (path : List ℕ) → (entries : List Property) → WrittenNode
  -- so a file with this text too, perhaps with digests of it
  File : (replaces : Bool) → (path : List ℕ) → (entries : List Property) → (text : List ℕ)
      → (md5 : Option (List ℕ)) → (sha1 : Option (List ℕ)) → WrittenNode

-- its lines

-- the line of this name and value
abbrev pub line : List ℕ → List ℕ → Header
line name value = record { name = name; value = value }

-- the line of this name and a number, without zeros before it
abbrev pub number_line : List ℕ → ℕ → Header
number_line name n = line name (spelled_number n)

-- the line of this name, if there is a value
abbrev pub line_of_some : List ℕ → Option (List ℕ) → List Header
line_of_some name None = []
line_of_some name (Some value) = line name value ∷ []

-- the word for a kind
abbrev pub kind_word : NodeKind → List ℕ
kind_word NodeKind.Dir = codes "dir"
kind_word NodeKind.File = codes "file"

-- the word for what makes something, and replaces what is there or not
abbrev pub making_word : Bool → List ℕ
making_word true = codes "replace"
making_word false = codes "add"

-- the node's lines
abbrev pub node_lines : WrittenNode → List Header
node_lines (WrittenNode.Deletion path) =
    line path_name path
    ∷ line action_name (codes "delete") ∷ []
node_lines (WrittenNode.Copy kind number source path) =
    line path_name path
    ∷ line node_kind_name (kind_word kind)
    ∷ line action_name (codes "add")
    ∷ number_line copy_revision_name number
    ∷ line copy_path_name source ∷ []
node_lines (WrittenNode.Directory replaces path entries) =
    line path_name path
    ∷ line node_kind_name (codes "dir")
    ∷ line action_name (making_word replaces)
    ∷ number_line property_length_name (length (property_block_text entries))
    ∷ number_line content_length_name (length (property_block_text entries)) ∷ []
node_lines (WrittenNode.File replaces path entries text md5 sha1) =
    line path_name path
    ∷ line node_kind_name (codes "file")
    ∷ line action_name (making_word replaces)
    ∷ number_line property_length_name (length (property_block_text entries))
    ∷ number_line text_length_name (length text)
    ∷ line_of_some md5_name md5
    ++ line_of_some sha1_name sha1
    ++ number_line content_length_name (length (property_block_text entries) + length text) ∷ []

-- what follows them

-- the node's property block, as it is spelled; a deletion and a copy have none
abbrev pub node_props : WrittenNode → List ℕ
node_props (WrittenNode.Deletion path) = []
node_props (WrittenNode.Copy kind number source path) = []
node_props (WrittenNode.Directory replaces path entries) = property_block_text entries
node_props (WrittenNode.File replaces path entries text md5 sha1) = property_block_text entries

-- the node's text
abbrev pub node_text : WrittenNode → List ℕ
node_text (WrittenNode.Deletion path) = []
node_text (WrittenNode.Copy kind number source path) = []
node_text (WrittenNode.Directory replaces path entries) = []
node_text (WrittenNode.File replaces path entries text md5 sha1) = text

-- the node as the record at this place of a dump, where this version is in force
abbrev pub node_record : ℕ → ℕ → WrittenNode → DumpRecord
node_record place version w = record {
  place = place;
  version = version;
  headers = node_lines w;
  props = node_props w;
  text = node_text w;
}

-- which of them can be written

-- whether the text can be a value that the load reads as it is: it has no LF and no zero byte
abbrev pub is_plain_value : List ℕ → Bool
is_plain_value text = not (has_byte 10 text) && not (has_byte 0 text)

-- whether there is such a text, or none
abbrev pub is_plain_option : Option (List ℕ) → Bool
is_plain_option None = true
is_plain_option (Some value) = is_plain_value value

-- whether the load takes the text for the path that it names
abbrev pub is_plain_path : List ℕ → Bool
is_plain_path path = is_plain_value path && is_short path

-- whether the entries set properties, and their names have no zero byte
abbrev pub are_plain_entries : List Property → Bool
are_plain_entries entries =
    list_all (λ (p : Property). not (has_byte 0 p.name)) entries && not (has_deletes entries)

-- whether a number can be read again
abbrev pub is_readable : ℕ → Bool
is_readable n = nat_lt n (10 ^ 18)

-- whether the node can be written, so that it means its change
abbrev pub can_be_written : WrittenNode → Bool
can_be_written (WrittenNode.Deletion path) = is_plain_path path
can_be_written (WrittenNode.Copy kind number source path) =
    is_plain_path path && is_plain_path source && is_readable number
can_be_written (WrittenNode.Directory replaces path entries) =
    is_plain_path path && are_plain_entries entries && is_readable (length (property_block_text entries))
can_be_written (WrittenNode.File replaces path entries text md5 sha1) =
    is_plain_path path && are_plain_entries entries
    && is_readable (length (property_block_text entries) + length text)
    && is_plain_option md5 && is_plain_option sha1
