-- The change that a node of a dump makes in a tree (Subversion, notes/dump-load-format.txt; where that says nothing, as
-- svnadmin load of Subversion 1.14 takes it, load.c and load-fs-vtable.c). The node's lines break no rule of dumps.
use Rattle.std.specs.Prelude.{◌≡◌, ℕ, Bool, not, ◌&&◌, ◌||◌, ◌==◌, List, [], ◌∷◌, Option, Some, None, unwrap_or, bytes_eq, codes, if◌then◌else◌, IsTrue}
use Rattle.std.specs.List.{list_all, list_any}
use Rattle.dump_text.specs.Names.{action_name, node_kind_name, copy_path_name, copy_revision_name, property_length_name, text_delta_name, prop_delta_name}
use Rattle.dump_text.specs.HeaderLine.{Header, has_byte, has_header, header_value}
use Rattle.dump_text.specs.PropertyList.{Property}
use Rattle.dump_records.specs.HeaderRules.{header_number, says_true}
use Rattle.dump_records.specs.RecordText.{DumpRecord, has_prop_delta, has_text_delta}
use Rattle.dump_digest.specs.RecordParts.{is_copy, has_text, node_path, HasPropertyList}
use Rattle.dump_trees.specs.Paths.{path_of, is_short}
use Rattle.dump_trees.specs.Changes.{Made, PropertyChange, TextChange, Change}

-- a reading of text deltas: what a delta makes of an old text, none if the load rejects it. Of their form (svndiff)
-- nothing is said here
abbrev pub Patching : Type 0
Patching = (delta old : List ℕ) → Option (List ℕ)

-- whether the header of this name has this value
abbrev pub says : List ℕ → List ℕ → DumpRecord → Bool
says name value r = bytes_eq (unwrap_or (header_value name r.headers) []) value

-- whether the node's action is this one
abbrev pub has_action : List ℕ → DumpRecord → Bool
has_action = says action_name

-- whether the node's action is one of the four that there are
abbrev pub has_known_action : DumpRecord → Bool
has_known_action r =
    list_any (λ action. has_action action r) (codes "add" ∷ codes "change" ∷ codes "delete" ∷ codes "replace" ∷ [])

-- whether the action deletes what is at the path
abbrev pub deletes : DumpRecord → Bool
deletes r = has_action (codes "delete") r || has_action (codes "replace") r

-- whether the action makes something at the path
abbrev pub makes : DumpRecord → Bool
makes r = has_action (codes "add") r || has_action (codes "replace") r

-- what is made of the node's kind; without one, or of an unknown one, nothing is made
abbrev pub made_by_kind : DumpRecord → Option Made
made_by_kind r =
    if says node_kind_name (codes "dir") r then Some Made.NewDirectory
    else if says node_kind_name (codes "file") r then Some Made.NewFile
    else None

-- the text of the path that the node is copied from
abbrev pub copy_path : DumpRecord → List ℕ
copy_path r = unwrap_or (header_value copy_path_name r.headers) []

-- the number of the revision that the node is copied from
abbrev pub copy_revision : DumpRecord → ℕ
copy_revision r = unwrap_or (header_number copy_revision_name r.headers) 0

-- the copy that the node states
abbrev pub copied_from : DumpRecord → Made
copied_from r = Made.Copied (copy_revision r) (path_of (copy_path r))

-- what the node makes; a copy's kind isn't asked, and a copy source counts if something is made
abbrev pub made_of : DumpRecord → Option Made
made_of r = if makes r then if is_copy r then Some (copied_from r) else made_by_kind r else None

-- what the node makes of properties, if there is a property length: its entries replace the old ones, also if there are
-- none; or under version 3, if they are a delta, they edit the old ones. What the load writes into mergeinfo isn't said
-- here
abbrev pub property_change_of : DumpRecord → List Property → Option PropertyChange
property_change_of r ps =
    if has_header property_length_name r.headers then
    Some (if has_prop_delta r then PropertyChange.Edited ps else PropertyChange.Replaced ps)
    else None

-- the text that the node sets, if there is a text length: its bytes, or under version 3, if they are a delta, what they
-- make of the old text
abbrev pub text_change_of : Patching → DumpRecord → Option TextChange
text_change_of patched r =
    if has_text r then
    Some (if has_text_delta r then TextChange.Patched (patched r.text) else TextChange.Replaced r.text)
    else None

-- whether the node says that its properties or its text are a delta, but version 3 isn't in force; the format has no
-- deltas there, but the load obeys it
abbrev pub has_undefined_delta : DumpRecord → Bool
has_undefined_delta r =
    not (r.version == 3) && (says_true prop_delta_name r.headers || says_true text_delta_name r.headers)

-- the change of a node with these entries in its property block; none without a known action, which the load rejects,
-- and none of a delta if version 3 isn't in force, which isn't modelled. The load also compares the digests that the
-- node states of texts, and rejects others; here such a node loads, so more loads here than there
abbrev pub change_of : Patching → DumpRecord → List Property → Option Change
change_of patched r ps =
    if has_known_action r && not (has_undefined_delta r) then Some record {
      path = path_of (node_path r);
      deletes = deletes r;
      made = made_of r;
      props = property_change_of r ps;
      text = text_change_of patched r;
    }
    else None

-- whether no zero byte is in the line; the load cuts a value at one, and rejects a name with one
abbrev pub is_plain_line : Header → Bool
is_plain_line h = not (has_byte 0 h.name) && not (has_byte 0 h.value)

-- whether the load reads the node's texts as they are: no zero byte in its lines and in the names of its properties,
-- and its paths in canonical form
abbrev pub loads_as_written : DumpRecord → List Property → Bool
loads_as_written r ps = list_all is_plain_line r.headers
    && list_all (λ (p : Property). not (has_byte 0 p.name)) ps
    && is_short (node_path r)
    && is_short (copy_path r)

-- the node makes this change
abbrev pub MakesChange : Patching → DumpRecord → Change → Type 0
MakesChange patched r c = (ps : List Property) × HasPropertyList r ps × IsTrue (loads_as_written r ps)
    × (change_of patched r ps ≡ Some c)
