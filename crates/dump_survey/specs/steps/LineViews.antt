-- How the program's values for the lines of findings relate to the definitions, and which texts are shown as they are.
use Rattle.std.specs.Prelude.{ℕ, Bool, ◌&&◌, nat_le, nat_lt}
use Rattle.dump_survey.specs.FindingRows.{FindingRow, KindText}
use Rattle.dump_survey.specs.declared.report.finding_rows.Kind.{Kind}
use Rattle.dump_survey.specs.declared.report.finding_rows.Row.{Row}

-- the parts of the line that counts the findings of a kind
unfoldable pub kind_view : Kind → KindText
kind_view kind = record { what = kind.what.now; fault = kind.fault; advice = kind.advice.now }

-- what the lines say of a kind of finding
unfoldable pub row_view : Row → FindingRow
row_view row = record { words = row.words.now; states_source = row.states_source; kind = kind_view row.kind }

-- whether the byte is a printable ASCII character: it is shown as it is, whatever comes next
abbrev pub is_printable : ℕ → Bool
is_printable b = nat_le 32 b && nat_lt b 127
