-- Where the parts of a record are in its dump.
use Rattle.std.specs.Prelude.{ℕ, ◌+◌, List, length, slice_range}
use Rattle.dump_text.specs.HeaderBlock.{block_text}
use Rattle.dump_text.specs.steps.ReadHeaders.{headers_between}
use Rattle.dump_records.specs.RecordText.{DumpRecord}

-- the byte at which a record's properties begin
abbrev pub props_place : DumpRecord → ℕ
props_place r = r.place + length (block_text r.headers)

-- the byte at which its text begins
abbrev pub text_place : DumpRecord → ℕ
text_place r = props_place r + length r.props

-- the byte after it
abbrev pub place_after : DumpRecord → ℕ
place_after r = text_place r + length r.text

-- the record between these places of a dump, with its block, its properties and its text, under this version
abbrev pub record_between : List ℕ → ℕ → ℕ → ℕ → ℕ → ℕ → DumpRecord
record_between dump place props_from text_from after version = record {
  place = place;
  version = version;
  headers = headers_between dump place props_from;
  props = slice_range dump props_from text_from;
  text = slice_range dump text_from after;
}
