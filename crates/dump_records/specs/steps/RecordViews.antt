-- What contracts say of records and of the cutter.
use Rattle.std.specs.Prelude.{◌≡◌, ℕ, ◌+◌, List, Option, Some, None, if◌then◌else◌}
use Rattle.dump_text.specs.Names.{path_name}
use Rattle.dump_text.specs.HeaderLine.{has_header}
use Rattle.dump_text.specs.steps.ReadHeaders.{IsPartBetween}
use Rattle.dump_text.specs.steps.Views.{block_dump, block_place, block_after}
use Rattle.dump_records.specs.declared.record.Record.{Record}
use Rattle.dump_records.specs.declared.cutter.Cut.{Cut}
use Rattle.dump_records.specs.declared.cutter.Cut.TheVariants.{Item, Finished, Fault}
use Rattle.dump_records.specs.RecordText.{DumpRecord}
use Rattle.dump_records.specs.steps.RecordPlaces.{props_place, record_between}
use Rattle.dump_records.specs.DumpText.{Ending}
use Rattle.dump_records.specs.steps.CutterState.{CutterState, IsCutUpTo}
use Rattle.dump_records.specs.steps.CutRecords.{EndsAfter, IsRecordOf}

-- the dump that contains a record
abbrev pub record_dump : Record → List ℕ
record_dump r = block_dump r.block

-- its number there
abbrev pub record_number : Record → ℕ
record_number r = r.number

-- the record itself
abbrev pub record_item : Record → DumpRecord
record_item r =
    record_between (block_dump r.block) (block_place r.block) (block_after r.block) r.text_from r.after
    r.header.version

-- the bytes of a part, if the record has the length header for it
abbrev pub part_with : List ℕ → DumpRecord → List ℕ → Option (List ℕ)
part_with name r bytes = if has_header name r.headers then Some bytes else None

-- a part that a node alone has
abbrev pub part_of_node : {T : Type 0} → DumpRecord → Option T → Option T
part_of_node r part = if has_header path_name r.headers then part else None

-- the bytes are a part of the record's block
abbrev pub IsInBlock : Record → List ℕ → Type 0
IsInBlock r bytes = IsPartBetween (record_dump r) (record_item r).place (props_place (record_item r)) bytes

-- the record is the one with this number in the dump, and the dump is read up to its end
pub record IsNextRecord (dump : List ℕ) (number : ℕ) (r : Record) : Type 0 where
  pub dump_is : record_dump r ≡ dump
  pub number_is : record_number r ≡ number
  pub item : IsRecordOf dump number (record_item r)
  pub cut : IsCutUpTo dump (number + 1) r.after r.header.version

-- a cutter returns the next record, or how the list of records ends; then it returns the same at the next call
abbrev pub CutStep : CutterState → Cut → CutterState → Type 0
CutStep old (Item r) new = (record_dump r ≡ old.dump) × (record_number r ≡ old.number)
    × IsRecordOf old.dump old.number (record_item r) × (new ≡ record old { number = old.number + 1 })
CutStep old Finished new = EndsAfter old.dump old.number Ending.Whole × (new ≡ old)
CutStep old (Fault kind place) new = EndsAfter old.dump old.number (Ending.Broken kind place) × (new ≡ old)
