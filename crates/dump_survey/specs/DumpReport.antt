-- What a survey reports of a dump as a whole: each finding, and the first record that causes it.
use Rattle.std.specs.Prelude.{◌≡◌, Bool, true, false, List, [], ◌∷◌, ◌++◌, length, map, Contains, Option, Some, None, IsTrue, MatchBool}
use Rattle.std.specs.List.{AllZip}
use Rattle.dump_records.specs.RecordText.{DumpRecord}
use Rattle.dump_rules.specs.Settings.{Settings}
use Rattle.dump_history.specs.Findings.{AreDumpFindingsOf}
use Rattle.dump_survey.specs.declared.findings.places.DumpPlaces.{DumpPlaces}
use Rattle.dump_survey.specs.declared.findings.places.Place.{Place}
use Rattle.dump_survey.specs.declared.findings.surveyor.SurveyEnd.{SurveyEnd}
use Rattle.dump_survey.specs.DumpFindings.{listed_findings}
use Rattle.dump_history.specs.declared.findings.DumpFinding.{DumpFinding}
use Rattle.dump_history.specs.declared.findings.DumpFinding.TheVariants as dump_wide

-- a finding, and the place of the first record that causes it, if there is one
pub record DumpReport : Type 0 where
  pub finding : DumpFinding
  pub at : Option Place

-- the place that the program has for a finding
abbrev pub place_in : DumpPlaces → DumpFinding → Option Place
place_in places dump_wide.NoRevision = None
place_in places dump_wide.OtherNumbers = places.other_numbers
place_in places dump_wide.NumberFalls = places.number_falls
place_in places dump_wide.UnreadRevision = places.unread_revision
place_in places dump_wide.NodeInFirst = places.node_in_first
place_in places dump_wide.SourceBefore = places.source_before
place_in places dump_wide.NodeOutside = places.node_outside
place_in places dump_wide.NumbersLeft = places.numbers_left

-- the report of a finding at the end of the survey, as the program represents it
abbrev pub reported_of_dump : SurveyEnd → DumpFinding → DumpReport
reported_of_dump end f = record { finding = f; at = place_in end.places f }

-- all reports of findings in the dump as a whole, at the end of the survey
abbrev pub reported_at_end : SurveyEnd → List DumpReport
reported_at_end end = map (reported_of_dump end) (listed_findings end.dump)

-- a dump with these records has this finding
abbrev pub IsDumpFinding : Settings → List DumpRecord → DumpFinding → Type 0
IsDumpFinding settings records f =
    (found : List DumpFinding) × AreDumpFindingsOf settings records found × Contains found f

-- whether a record causes the finding; none causes the finding that there is no revision
abbrev pub comes_up : DumpFinding → Bool
comes_up dump_wide.NoRevision = false
comes_up _ = true

-- neither these records nor any first part of them have the finding
abbrev pub IsNeverFound : Settings → List DumpRecord → DumpFinding → Type 0
IsNeverFound settings records f = (front rest : List DumpRecord) → records ≡ front ++ rest →
    ¬ IsDumpFinding settings front f

-- the record at this place is the first that causes the finding: the records up to it have the finding, and no shorter
-- first part has it
pub record ComesUpAt (settings : Settings) (records : List DumpRecord) (f : DumpFinding) (p : Place) : Type 0 where
  pub before : List DumpRecord
  pub r : DumpRecord
  pub after : List DumpRecord
  pub are : records ≡ before ++ r ∷ after
  pub none : IsNeverFound settings before f
  pub found : IsDumpFinding settings (before ++ r ∷ []) f
  pub is : p ≡ record { number = length before; place = r.place }

-- the record at this place is the first that causes the finding; if there is no place, no first part of the records
-- has the finding
abbrev pub CameUp : Settings → List DumpRecord → DumpFinding → Option Place → Type 0
CameUp settings records f None = IsNeverFound settings records f
CameUp settings records f (Some p) = ComesUpAt settings records f p

-- for each finding, the place is that of the first of these records that causes it
abbrev pub ArePlaces : Settings → List DumpRecord → DumpPlaces → Type 0
ArePlaces settings records places =
    (f : DumpFinding) → IsTrue (comes_up f) → CameUp settings records f (place_in places f)

-- this is what is reported of the finding
pub record IsDumpReport (settings : Settings) (records : List DumpRecord) (f : DumpFinding) (t : DumpReport) : Type 0 where
  pub finding : t.finding ≡ f
  pub at : MatchBool (comes_up f) ((p : Place) × (t.at ≡ Some p) × ComesUpAt settings records f p) (t.at ≡ None)

-- these are the reports for a dump with these records: one for each finding, in order
abbrev pub AreDumpReports : Settings → List DumpRecord → List DumpReport → Type 0
AreDumpReports settings records reported = (found : List DumpFinding) × AreDumpFindingsOf settings records found
    × AllZip (IsDumpReport settings records) found reported
