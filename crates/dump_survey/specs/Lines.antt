-- The exact text of the lines of a survey.
use Rattle.std.specs.Prelude.{ℕ, Bool, ◌+◌, ◌/◌, ◌%◌, ◌||◌, ◌&&◌, ◌==◌, List, [], ◌∷◌, ◌++◌, Option, Some, None, nat_le, nat_lt, codes, decimal, if◌then◌else◌}
use Rattle.std.specs.List.{concat}
use Rattle.dump_text.specs.declared.fault.FaultKind.{FaultKind}
use Rattle.dump_text.specs.FaultTable.{fault_code}
use Rattle.dump_text.specs.FaultNames.{fault_name}
use Rattle.dump_records.specs.DumpText.{Ending}
use Rattle.dump_rules.specs.Prefix.{bare_path}
use Rattle.dump_survey.specs.declared.findings.places.Place.{Place}
use Rattle.dump_survey.specs.DumpReport.{DumpReport}
use Rattle.dump_survey.specs.FindingRows.{finding_row, dump_row}
use Rattle.dump_survey.specs.Reported.{NodeReport}

-- a hexadecimal digit, with small letters
abbrev pub small_digit : ℕ → ℕ
small_digit n = if nat_lt n 10 then 48 + n else 87 + n

-- a control character as it is shown: \x and the two digits of its number
unfoldable pub shown_control : ℕ → List ℕ
shown_control n = 92 ∷ 120 ∷ small_digit (n / 16) ∷ small_digit (n % 16) ∷ []

-- a byte as it is shown
unfoldable pub shown_byte : ℕ → List ℕ
shown_byte b = if nat_lt b 32 || b == 127 then shown_control b else b ∷ []

-- whether the two bytes are a control character from U+0080 to U+009F in UTF-8; the second one is its number
abbrev pub is_control_pair : ℕ → ℕ → Bool
is_control_pair first second = first == 194 && nat_le 128 second && nat_lt second 160

-- a text as it is shown
abbrev pub shown_text : List ℕ → List ℕ
shown_text [] = []
shown_text (first ∷ []) = shown_byte first
shown_text (first ∷ second ∷ rest) =
    if is_control_pair first second then shown_control second ++ shown_text rest
    else shown_byte first ++ shown_text (second ∷ rest)

-- a path as it is shown, with a leading slash, whether or not the dump has one
unfoldable pub shown_path : List ℕ → List ℕ
shown_path path = 47 ∷ shown_text (bare_path path)

-- the place of a record: its number, from 0, and the offset of its first byte
unfoldable pub place_text : ℕ → ℕ → List ℕ
place_text number place = concat (codes "record " ∷ decimal number ∷ codes ", byte " ∷ decimal place ∷ [])

-- the fault of a line and the place of its record, in parentheses at the end of the line, each if there is one
unfoldable pub fault_and_place : Option FaultKind → Option Place → List ℕ
fault_and_place None None = []
fault_and_place None (Some p) = concat (codes " (" ∷ place_text p.number p.place ∷ codes ")" ∷ [])
fault_and_place (Some kind) None = concat (codes " (fault " ∷ decimal (fault_code kind) ∷ codes ")" ∷ [])
fault_and_place (Some kind) (Some p) = concat (codes " (fault " ∷ decimal (fault_code kind) ∷ codes ", "
    ∷ place_text p.number p.place ∷ codes ")" ∷ [])

-- the copy source of a node
unfoldable pub source_text : NodeReport → List ℕ
source_text t = concat (codes ", copied from " ∷ shown_path t.copy_path
    ∷ codes "@" ∷ decimal t.copy_revision ∷ [])

-- the words about the prefix that cuts, which is shown as the caller gave it: without an additional slash
unfoldable pub cut_words : Option (List ℕ) → List ℕ
cut_words None = []
cut_words (Some prefix) = concat (codes ": prefix " ∷ shown_text prefix ∷ [])

-- the line of a finding in a node
unfoldable pub node_line : NodeReport → List ℕ
node_line t = concat (codes "r" ∷ decimal t.revision ∷ codes ": " ∷ shown_path t.path
    ∷ (if (finding_row t.finding).states_source then source_text t else []) ∷ codes ": "
    ∷ (finding_row t.finding).words ∷ cut_words t.prefix
    ∷ fault_and_place (finding_row t.finding).kind.fault (Some (record { number = t.number; place = t.place }))
    ∷ codes "\n" ∷ [])

-- the line of a finding in the dump as a whole, with the first record that causes it, if there is one
unfoldable pub dump_line : DumpReport → List ℕ
dump_line t = concat ((dump_row t.finding).words ∷ fault_and_place (dump_row t.finding).kind.fault t.at ∷ codes "\n" ∷ [])

-- the line of a fault: no record begins at this place
unfoldable pub broken_line : FaultKind → Place → List ℕ
broken_line kind at = concat (codes "the dump cannot be read from here on: " ∷ fault_name kind
    ∷ fault_and_place (Some kind) (Some at) ∷ codes "\n" ∷ [])

-- the line that says why the list of records ends before the dump does, after this number of records; empty if it
-- doesn't
abbrev pub ending_line : ℕ → Ending → List ℕ
ending_line count Ending.Whole = []
ending_line count (Ending.Broken kind place) = broken_line kind (record { number = count; place = place })
