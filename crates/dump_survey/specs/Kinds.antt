-- The exact text of the lines that count the findings, one line for each kind, with advice.
use Rattle.std.specs.Prelude.{ℕ, ◌==◌, List, [], ◌∷◌, ◌++◌, length, filter, flat_map, codes, decimal, None, if◌then◌else◌}
use Rattle.std.specs.List.{concat}
use Rattle.dump_records.specs.DumpText.{Ending}
use Rattle.dump_history.specs.Findings.{every_finding, finding_place}
use Rattle.dump_survey.specs.declared.findings.prefix_findings.PrefixFinding.{PrefixFinding}
use Rattle.dump_survey.specs.declared.findings.prefix_findings.PrefixFinding.TheVariants.{NotCanonical, Idle}
use Rattle.dump_survey.specs.FindingRows.{KindText, finding_row, dump_row}
use Rattle.dump_survey.specs.Lines.{fault_and_place}
use Rattle.dump_survey.specs.PrefixFindings.{PrefixReport}
use Rattle.dump_survey.specs.Reported.{NodeReport}
use Rattle.dump_history.specs.declared.findings.DumpFinding.{DumpFinding}
use Rattle.dump_history.specs.declared.findings.Finding.{Finding}

-- how often the finding is reported
abbrev pub times_reported : List NodeReport → Finding → ℕ
times_reported reported finding = length (filter (λ (t : NodeReport). finding_place t.finding == finding_place finding) reported)

-- the index of a finding in the list of all findings in prefixes
abbrev pub prefix_place : PrefixFinding → ℕ
prefix_place NotCanonical = 0
prefix_place Idle = 1

abbrev pub times_in_prefixes : List PrefixReport → PrefixFinding → ℕ
times_in_prefixes reported finding = length (filter (λ (t : PrefixReport). prefix_place t.finding == prefix_place finding) reported)

-- the line of a kind with its number of findings; empty if the number is 0
unfoldable pub kind_line : ℕ → KindText → List ℕ
kind_line times kind =
    if times == 0 then [] else concat (codes "total " ∷ decimal times ∷ codes ": " ∷ kind.what
    ∷ fault_and_place kind.fault None ∷ codes ": " ∷ kind.advice ∷ codes "\n" ∷ [])

-- the line of a finding in the dump as a whole; it counts one
abbrev pub dump_kind_line : DumpFinding → List ℕ
dump_kind_line f = kind_line 1 (dump_row f).kind

-- the parts of the line of a finding in prefixes
unfoldable pub prefix_kind : PrefixFinding → KindText
prefix_kind NotCanonical = record {
  what = codes "prefixes that are not in canonical form";
  fault = None;
  advice = codes "write them without empty names and without single dots";
}
prefix_kind Idle = record {
  what = codes "prefixes that match nothing in the dump";
  fault = None;
  advice = codes "check that they are spelled as in the dump";
}

-- the parts of the line that says that the list of records ends before the dump does
unfoldable pub broken_kind : KindText
broken_kind = record {
  what = codes "a dump that cannot be read to its end";
  fault = None;
  advice = codes "dump the repository again";
}

-- the line that says why the list of records ends before the dump does; empty if it doesn't
abbrev pub ending_kind_line : Ending → List ℕ
ending_kind_line Ending.Whole = []
ending_kind_line (Ending.Broken _ _) = kind_line 1 broken_kind

-- one line for each kind: first the findings in nodes, with their numbers, then those in the dump as a whole, then
-- those in prefixes, and at last the end of the list of records
abbrev pub kind_lines : (Finding → ℕ) → List DumpFinding → List PrefixReport → Ending → List ℕ
kind_lines times found prefixes ending = flat_map (λ f. kind_line (times f) (finding_row f).kind) every_finding
    ++ (flat_map dump_kind_line found
    ++ (kind_line (times_in_prefixes prefixes NotCanonical) (prefix_kind NotCanonical)
    ++ (kind_line (times_in_prefixes prefixes Idle) (prefix_kind Idle) ++ ending_kind_line ending)))
