-- What a survey reports is what the definitions find in the dump's nodes, group by group. The laws also say what
-- follows if it reports nothing.
use Rattle.std.specs.Prelude.{◌≡◌, ℕ, Bool, true, false, not, List, [], ◌∷◌, ◌++◌, map, flat_map, None, is_some, IsTrue}
use Rattle.std.specs.List.{list_any}
use Rattle.dump_text.specs.declared.fault.FaultKind.{FaultKind}
use Rattle.dump_text.specs.declared.fault.FaultKind.TheVariants.{Md5, Sha1}
use Rattle.dump_records.specs.RecordText.{DumpRecord}
use Rattle.dump_records.specs.DumpText.{Ending, HasRecords}
use Rattle.dump_rules.specs.Settings.{Settings}
use Rattle.dump_filter.specs.FilterLaws.{LengthsFit}
use Rattle.dump_filter.specs.RecordFaults.{HoldsOfRecord}
use Rattle.dump_filter.specs.WholeText.{IsCleanText}
use Rattle.dump_history.specs.RecordChanges.{Patching}
use Rattle.dump_history.specs.Findings.{is_obstacle, is_alarm}
use Rattle.dump_history.specs.SurveyLaws.{FindingsByGroup, HaveFindings, DumpRestricts}
use Rattle.dump_survey.specs.declared.findings.survey.Survey.{Survey}
use Rattle.dump_survey.specs.DumpFindings.{listed_findings}
use Rattle.dump_survey.specs.Reported.{NodeReport, reported_view, AreReported}
use Rattle.dump_survey.specs.Surveys.{IsSurveyOf}
use Rattle.dump_survey.specs.SurveyText.{IsSurveyText}
use Rattle.dump_history.specs.declared.findings.Finding.{Finding}
use Rattle.dump_history.specs.declared.findings.Finding.TheVariants as findings

-- the findings of groups, node by node, as one list
abbrev pub all_findings : FindingsByGroup → List Finding
all_findings found = flat_map (λ fs. flat_map (λ node. node) fs) found

-- the reported findings are exactly the findings in the nodes of the dump's groups, in order
abbrev pub ReportsAreFindings : Type 0
ReportsAreFindings = (settings : Settings) (dump : List ℕ) (records : List DumpRecord) (ending : Ending)
    (reported : List NodeReport) → HasRecords dump records ending → AreReported settings [] None records reported
    → (found : FindingsByGroup) × HaveFindings settings records found
    × (map (λ (t : NodeReport). t.finding) reported ≡ all_findings found)

-- there is only one list of reports for a dump
abbrev pub ReportedOnce : Type 0
ReportedOnce = (settings : Settings) (records : List DumpRecord) (reported others : List NodeReport) →
    AreReported settings [] None records reported → AreReported settings [] None records others → others ≡ reported

-- whether the finding says that a copy is filtered differently from its source
abbrev pub tells_cut : Finding → Bool
tells_cut findings.CopyLoses = true
tells_cut findings.CopyLetsIn = true
tells_cut _ = false

-- each such finding is reported with a prefix that causes it, and no other finding is reported with a prefix
abbrev pub EachCutNamesPrefix : Type 0
EachCutNamesPrefix = (settings : Settings) (records : List DumpRecord) (reported : List NodeReport) →
    AreReported settings [] None records reported
    → map (λ (t : NodeReport). is_some t.prefix) reported ≡ map (λ (t : NodeReport). tells_cut t.finding) reported

-- whether no reported finding is of this kind
abbrev pub none_reported : (Finding → Bool) → List NodeReport → Bool
none_reported test reported = not (list_any test (map (λ (t : NodeReport). t.finding) reported))

-- Let the filter's answer be clean. If a survey reports nothing of the dump as a whole, and no obstacle and no alarm
-- in its nodes, loading commutes with filtering.
abbrev pub SilentSurveyRestricts : Type 0
SilentSurveyRestricts = (patched : Patching) (settings : Settings) (dump text : List ℕ) (records : List DumpRecord)
    (survey : Survey) →
    IsCleanText settings dump records text → LengthsFit settings records → IsSurveyOf settings dump survey
    → listed_findings survey.end.dump ≡ []
    → IsTrue (none_reported is_obstacle (map reported_view survey.reported.items))
    → IsTrue (none_reported is_alarm (map reported_view survey.reported.items))
    → DumpRestricts patched settings records text

-- the same is true if the text of a survey says that nothing is found
abbrev pub SilentTextRestricts : Type 0
SilentTextRestricts = (patched : Patching) (settings : Settings) (dump text said : List ℕ) (records : List DumpRecord) →
    IsCleanText settings dump records text → LengthsFit settings records → IsSurveyText settings dump said false
    → DumpRestricts patched settings records text

-- whether the fault is about a digest
abbrev pub is_digest_fault : FaultKind → Bool
is_digest_fault Md5 = true
is_digest_fault Sha1 = true
is_digest_fault _ = false

-- if the text of a survey says that nothing is found, the records reach the end of the dump, and none of them has a
-- fault that isn't about a digest
abbrev pub SilentTextLeavesDigests : Type 0
SilentTextLeavesDigests = (settings : Settings) (dump said : List ℕ) → IsSurveyText settings dump said false →
    (records : List DumpRecord) × HasRecords dump records Ending.Whole
    × ((before after : List DumpRecord) (r : DumpRecord) (kind : FaultKind) → records ≡ before ++ r ∷ after
    → HoldsOfRecord settings before r kind → IsTrue (is_digest_fault kind))
