-- The records that were read from a dump so far.
use Rattle.std.specs.Prelude.{◌≡◌, ℕ, List, [], ◌∷◌, ◌++◌, length}
use Rattle.dump_records.specs.RecordText.{DumpRecord}
use Rattle.dump_records.specs.DumpText.{Ending, BeginsWithRecords, HasRecords}

-- the list of the dump's records has this many records, and ends in this way
abbrev pub EndsAfter : List ℕ → ℕ → Ending → Type 0
EndsAfter dump count ending =
    (records : List DumpRecord) × HasRecords dump records ending × (length records ≡ count)

-- the record with this number in the dump
abbrev pub IsRecordOf : List ℕ → ℕ → DumpRecord → Type 0
IsRecordOf dump number r =
    (before : List DumpRecord) × BeginsWithRecords dump (before ++ r ∷ []) × (length before ≡ number)
