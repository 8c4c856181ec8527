-- The bytes of a record from one of its parts on.
use Rattle.std.specs.Prelude.{ℕ, List, ◌++◌}
use Rattle.dump_records.specs.RecordText.{DumpRecord, record_text}
use Rattle.dump_records.specs.declared.record.RecordPart.{RecordPart}
use Rattle.dump_records.specs.declared.record.RecordPart.TheVariants as parts

-- the bytes from this part on
abbrev pub bytes_from : RecordPart → DumpRecord → List ℕ
bytes_from parts.Block r = record_text r
bytes_from parts.Properties r = r.props ++ r.text
bytes_from parts.Text r = r.text
