-- The changes of a dump's revisions, as an index lists them.
use Rattle.std.specs.Prelude.{◌≡◌, ◌<◌, ◌&&◌, ℕ, Bool, true, false, List, [], ◌∷◌, Option, Some, None, ◌⊎◌, nat_lt, cond, ◌++◌, option_map}
use Rattle.dump_records.specs.RecordText.{DumpRecord}
use Rattle.dump_digest.specs.RecordParts.{is_node, is_revision_record}
use Rattle.dump_filter.specs.Groups.{revision_number, revision_numbers}
use Rattle.dump_trees.specs.Changes.{Change, Made}
use Rattle.dump_trees.specs.steps.Looking.{Placed}
use Rattle.dump_history.specs.RecordChanges.{MakesChange, Patching}
use Rattle.dump_index.specs.steps.IndexLaws.{AreListed}
use Rattle.dump_index.specs.declared.change.NodeChange.{NodeChange}
use Rattle.std.specs.List.{list_any}
use Rattle.dump_text.specs.Names.{revision_name}
use Rattle.dump_records.specs.HeaderRules.{header_number}
use Rattle.dump_history.specs.DumpChanges.{counts_from}
use Rattle.dump_index.specs.steps.Listed.{Listed}
use Rattle.dump_changes.specs.ListedDumps.{rise_from}

-- the nodes of these records make these changes, in order: a change has the number of the revision record before its node, or
-- this number, if there is none. No node is in revision 0, or in no revision
pub data NodesMake (patched : Patching) : Option ℕ → List DumpRecord → List Placed → Type 0 where
  NoRecord : (present : Option ℕ) → NodesMake patched present [] []
  RevisionRecord : (present : Option ℕ) (r : DumpRecord) (records : List DumpRecord) (placed : List Placed)
      → is_revision_record r ≡ true → is_node r ≡ false → NodesMake patched (Some (revision_number r)) records placed
      → NodesMake patched present (r ∷ records) placed
  NodeRecord : (number : ℕ) (r : DumpRecord) (records : List DumpRecord) (placed : List Placed) (c : Change)
      → is_revision_record r ≡ false → is_node r ≡ true → MakesChange patched r c → 0 < number
      → NodesMake patched (Some number) records placed
      → NodesMake patched (Some number) (r ∷ records) (record { revision = number; change = c } ∷ placed)
  OtherRecord : (present : Option ℕ) (r : DumpRecord) (records : List DumpRecord) (placed : List Placed)
      → is_revision_record r ≡ false → is_node r ≡ false → NodesMake patched None records placed
      → NodesMake patched present (r ∷ records) placed

-- the nodes of these records make these changes, as an index lists them, whatever text deltas make
abbrev pub AreListedIn : List DumpRecord → List NodeChange → Type 0
AreListedIn records changes =
    (patched : Patching) → (placed : List Placed) × NodesMake patched None records placed × AreListed changes placed

-- whether there are revisions, and they are numbered 0, 1, 2 and so on
abbrev pub are_numbered : List DumpRecord → Bool
are_numbered records = list_any is_revision_record records && counts_from 0 (revision_numbers records)

-- the revision to which a node after this record belongs, if to any; in place of the record, a node would belong to the present
-- one
abbrev pub revision_behind : DumpRecord → Option ℕ → Option ℕ
revision_behind r present = cond (is_revision_record r) (Some (revision_number r)) (cond (is_node r) present None)

-- the same after all of these records
abbrev pub present_behind : Option ℕ → List DumpRecord → Option ℕ
present_behind present [] = present
present_behind present (r ∷ records) = present_behind (revision_behind r present) records

-- whether there is a revision, and it can have nodes; revision 0 can't
abbrev pub takes_nodes : Option ℕ → Bool
takes_nodes None = false
takes_nodes (Some number) = nat_lt 0 number

-- after these records, the record is a node of revision 0 or of no revision; or it is a revision whose number isn't above those
-- before, or is the largest that there is
abbrev pub IsOutOfPlace : List DumpRecord → DumpRecord → Type 0
IsOutOfPlace records r = ((is_node r ≡ true) × (takes_nodes (present_behind None records) ≡ false))
    ⊎ ((is_revision_record r ≡ true) × ((number : ℕ) → header_number revision_name r.headers ≡ Some number
    → number < 18446744073709551615 → rise_from 0 (revision_numbers (records ++ r ∷ [])) ≡ false))

-- whether the change is a copy
abbrev pub is_listed_copy : Listed → Bool
is_listed_copy l = is_copied l.made
  where
    is_copied : Option Made → Bool
    is_copied None = false
    is_copied (Some Made.NewDirectory) = false
    is_copied (Some Made.NewFile) = false
    is_copied (Some (Made.Copied number source)) = true

-- a change, with 0 in place of the number of the revision from which it copies
abbrev pub without_number : Listed → Listed
without_number l = record l { made = option_map unnumbered l.made }
  where
    unnumbered : Made → Made
    unnumbered Made.NewDirectory = Made.NewDirectory
    unnumbered Made.NewFile = Made.NewFile
    unnumbered (Made.Copied number source) = Made.Copied 0 source
