-- What is read from a dump.
use Rattle.std.specs.Prelude.{◌≡◌, ℕ, true, List, [], ◌∷◌, ◌++◌, length}
use Rattle.dump_records.specs.RecordText.{DumpRecord}
use Rattle.dump_records.specs.DumpText.{BeginsWithRecords, Ending, HasRecords}
use Rattle.dump_digest.specs.RecordParts.{is_node}
use Rattle.dump_filter.specs.Groups.{revision_numbers}
use Rattle.dump_trees.specs.Changes.{Change}
use Rattle.dump_history.specs.RecordChanges.{Patching, MakesChange}
use Rattle.dump_changes.specs.ListedDumps.{rise_from}
use Rattle.dump_changes.specs.steps.ListedDumps.{AreListedIn, IsOutOfPlace, are_numbered}
use Rattle.dump_changes.specs.steps.NodeProperties.{HaveNodeNumbers}
use Rattle.dump_changes.specs.declared.read.End.{End}
use Rattle.dump_changes.specs.declared.read.End.TheVariants.{Whole, NoChange, OutOfOrder, Broken}
use Rattle.dump_changes.specs.declared.read.Reading.{Reading}

-- the record after these has this number
abbrev pub IsNext : List ℕ → List DumpRecord → ℕ → DumpRecord → Type 0
IsNext dump records number r = BeginsWithRecords dump (records ++ r ∷ []) × (length records ≡ number)

-- the reading ends after these records in this way
abbrev pub EndsReading : List ℕ → List DumpRecord → End → Type 0
EndsReading dump records Whole = HasRecords dump records Ending.Whole
EndsReading dump records (NoChange number) = (r : DumpRecord) × IsNext dump records number r × (is_node r ≡ true)
    × ((patched : Patching) (c : Change) → MakesChange patched r c → ⊥)
EndsReading dump records (OutOfOrder number) = (r : DumpRecord) × IsNext dump records number r × IsOutOfPlace records r
EndsReading dump records (Broken kind place) = HasRecords dump records (Ending.Broken kind place)

-- the result of reading a dump
pub record IsReadingOfDump (dump : List ℕ) (reading : Reading) : Type 0 where
  pub records : List DumpRecord
  pub begins : BeginsWithRecords dump records
  pub numbers : reading.numbers.items ≡ revision_numbers records
  pub numbered : reading.numbered ≡ are_numbered records
  pub rise : rise_from 0 (revision_numbers records) ≡ true
  pub listed : AreListedIn records reading.changes.items
  pub nodes : HaveNodeNumbers records reading.changes.items
  pub ends : EndsReading dump records reading.end
