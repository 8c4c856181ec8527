-- Records that are read one by one.
use Rattle.std.specs.Prelude.{◌≡◌, ◌<◌, ◌&&◌, ◌⊎◌, ⊤, ℕ, suc, Bool, true, false, List, [], ◌∷◌, Option, Some, None, nat_lt}
use Rattle.std.specs.Global.{Vec}
use Rattle.dump_text.specs.Names.{revision_name}
use Rattle.dump_records.specs.HeaderRules.{header_number}
use Rattle.dump_records.specs.RecordText.{DumpRecord}
use Rattle.dump_digest.specs.RecordParts.{is_revision_record, is_node}
use Rattle.dump_filter.specs.Groups.{revision_number, revision_numbers}
use Rattle.dump_trees.specs.Changes.{Change}
use Rattle.dump_trees.specs.steps.Looking.{Placed}
use Rattle.dump_history.specs.RecordChanges.{Patching, MakesChange}
use Rattle.dump_history.specs.DumpChanges.{counts_from}
use Rattle.dump_index.specs.steps.Listed.{listed_of}
use Rattle.dump_index.specs.steps.IndexLaws.{IsListed}
use Rattle.dump_index.specs.declared.change.NodeChange.{NodeChange}
use Rattle.dump_changes.specs.ListedDumps.{rise_from}
use Rattle.dump_changes.specs.steps.ListedDumps.{NodesMake, revision_behind, takes_nodes}
use Rattle.dump_changes.specs.declared.read.End.{End}
use Rattle.dump_changes.specs.declared.read.Position.{Position}
use Rattle.dump_changes.specs.declared.read.Reading.{Reading}
use Rattle.dump_changes.specs.declared.read.Step.{Step}
use Rattle.dump_changes.specs.declared.read.Step.TheVariants as steps

-- these records make these changes; their next revision has this number, and a node before that belongs to the present
-- revision, if there is one; at their end there has been at least one revision; revision 0 has no node
pub data Reads (patched : Patching) : ℕ → Option ℕ → List DumpRecord → List Placed → Type 0 where
  NoMore : (next : ℕ) (present : Option ℕ) → Reads patched (suc next) present [] []
  Revision : (next : ℕ) (present : Option ℕ) (r : DumpRecord) (records : List DumpRecord) (placed : List Placed)
      → is_revision_record r ≡ true → is_node r ≡ false → revision_number r ≡ next
      → Reads patched (suc next) (Some next) records placed → Reads patched next present (r ∷ records) placed
  Node : (next number : ℕ) (r : DumpRecord) (records : List DumpRecord) (placed : List Placed) (c : Change)
      → is_revision_record r ≡ false → is_node r ≡ true → MakesChange patched r c
      → Reads patched next (Some (suc number)) records placed
      → Reads patched next (Some (suc number)) (r ∷ records) (record { revision = suc number; change = c } ∷ placed)
  Other : (next : ℕ) (present : Option ℕ) (r : DumpRecord) (records : List DumpRecord) (placed : List Placed)
      → is_revision_record r ≡ false → is_node r ≡ false
      → Reads patched next None records placed → Reads patched next present (r ∷ records) placed

-- at the position, the record isn't in order: it is a node of revision 0 or of no revision, or a revision whose number
-- isn't above those before, or is the largest that there is
abbrev pub IsOutOfPlaceAt : DumpRecord → Position → Type 0
IsOutOfPlaceAt r at = ((is_node r ≡ true) × (takes_nodes at.present ≡ false))
    ⊎ ((is_revision_record r ≡ true) × ((number : ℕ) → header_number revision_name r.headers ≡ Some number
    → number < 18446744073709551615 → rise_from at.next (revision_numbers (r ∷ [])) ≡ false))

-- whether a revision has come before the next position: only if one has before this position, or the record is one
abbrev pub IsBeforeNext : DumpRecord → Position → Position → Type 0
IsBeforeNext r at next = (next.next ≡ 0 → (at.next ≡ 0) × (is_revision_record r ≡ false))
    × (at.next ≡ 0 → is_revision_record r ≡ false → next.next ≡ 0)

-- the same for the position after a step
abbrev pub IsBeforeFirst : DumpRecord → Position → Step → Type 0
IsBeforeFirst r at steps.NoChange = ⊤
IsBeforeFirst r at steps.OutOfOrder = ⊤
IsBeforeFirst r at (steps.Revision number next) = IsBeforeNext r at next
IsBeforeFirst r at (steps.Other next) = IsBeforeNext r at next
IsBeforeFirst r at (steps.Makes c) = is_revision_record r ≡ false

-- the records after this one make the same changes with it as without it
abbrev pub GoesOnFrom : DumpRecord → Position → Position → Type 0
GoesOnFrom r at next = (patched : Patching) (records : List DumpRecord) (placed : List Placed) →
    NodesMake patched next.present records placed → NodesMake patched at.present (r ∷ records) placed

-- the step says what the record adds to the changes of the records after it
abbrev pub IsReadingStep : DumpRecord → Position → Step → Type 0
IsReadingStep r at steps.NoChange = (is_node r ≡ true) × ((patched : Patching) (c : Change) → MakesChange patched r c → ⊥)
IsReadingStep r at steps.OutOfOrder = IsOutOfPlaceAt r at
IsReadingStep r at (steps.Revision number next) = GoesOnFrom r at next
IsReadingStep r at (steps.Other next) = GoesOnFrom r at next
IsReadingStep r at (steps.Makes c) = (patched : Patching) → (change : Change)
    × IsListed (listed_of c) (record { revision = c.revision; change = change })
    × ((records : List DumpRecord) (placed : List Placed) → NodesMake patched at.present records placed
    → NodesMake patched at.present (r ∷ records) (record { revision = c.revision; change = change } ∷ placed))

-- whether revisions are numbered one by one up to the position, and also in these records
abbrev pub counts_on : Position → List DumpRecord → Bool
counts_on at records = at.numbered && counts_from at.next (revision_numbers records)

-- they are numbered so with the record exactly if they are after it, from the next position on; and their numbers rise with it
-- exactly if they rise after it
abbrev pub CountsTo : DumpRecord → Position → Position → Type 0
CountsTo r at next = (records : List DumpRecord) → (counts_on at (r ∷ records) ≡ counts_on next records)
    × (rise_from at.next (revision_numbers (r ∷ records)) ≡ rise_from next.next (revision_numbers records))

-- the step says whether they are numbered so, and has the record's number if it is a revision
abbrev pub IsCountingStep : DumpRecord → Position → Step → Type 0
IsCountingStep r at steps.NoChange = ⊤
IsCountingStep r at steps.OutOfOrder = ⊤
IsCountingStep r at (steps.Revision number next) = CountsTo r at next
    × ((records : List DumpRecord) → revision_numbers (r ∷ records) ≡ number ∷ revision_numbers records)
IsCountingStep r at (steps.Other next) = CountsTo r at next
    × ((records : List DumpRecord) → revision_numbers (r ∷ records) ≡ revision_numbers records)
IsCountingStep r at (steps.Makes c) = CountsTo r at at
    × ((records : List DumpRecord) → revision_numbers (r ∷ records) ≡ revision_numbers records)

-- the step says to which revision a node after the record belongs
abbrev pub IsPresentStep : DumpRecord → Position → Step → Type 0
IsPresentStep r at steps.NoChange = ⊤
IsPresentStep r at steps.OutOfOrder = ⊤
IsPresentStep r at (steps.Revision number next) = revision_behind r at.present ≡ next.present
IsPresentStep r at (steps.Other next) = revision_behind r at.present ≡ next.present
IsPresentStep r at (steps.Makes c) = revision_behind r at.present ≡ at.present

-- the step says whether the record with this number is a node; the change of a node has this number
abbrev pub IsNumberedStep : DumpRecord → ℕ → Step → Type 0
IsNumberedStep r number steps.NoChange = ⊤
IsNumberedStep r number steps.OutOfOrder = ⊤
IsNumberedStep r number (steps.Revision its next) = is_node r ≡ false
IsNumberedStep r number (steps.Other next) = is_node r ≡ false
IsNumberedStep r number (steps.Makes c) = (is_node r ≡ true) × (c.record_number ≡ number)

-- what was read up to the position, if the reading ends in this way
abbrev pub EndsAt : Position → Vec NodeChange → Vec ℕ → End → Reading → Type 0
EndsAt at changes numbers end reading = (reading.changes ≡ changes) × (reading.numbers ≡ numbers)
    × (reading.numbered ≡ (at.numbered && nat_lt 0 at.next)) × (reading.end ≡ end)
