-- What a visitor knows of the record that it is given.
use Rattle.std.specs.Prelude.{◌≡◌, List, [], ◌∷◌, ◌++◌, length}
use Rattle.dump_records.specs.RecordText.{DumpRecord}
use Rattle.dump_records.specs.DumpText.{BeginsWithRecords}
use Rattle.dump_records.specs.declared.record.Record.{Record}
use Rattle.dump_records.specs.steps.RecordViews.{record_dump, record_item, record_number}

-- the dump of the record begins with these records and this one
abbrev pub IsVisitedAfter : Record → List DumpRecord → Type 0
IsVisitedAfter item before = BeginsWithRecords (record_dump item) (before ++ record_item item ∷ [])
    × (length before ≡ record_number item)
