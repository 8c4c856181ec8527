-- What a surveyor returns, call by call.
use Rattle.std.specs.Prelude.{◌≡◌, ◌⊎◌, ℕ, ◌+◌, true, false, List, [], ◌∷◌, ◌++◌, length, Option, Some, None, option_map}
use Rattle.dump_records.specs.declared.record.Record.{Record}
use Rattle.dump_records.specs.RecordText.{DumpRecord}
use Rattle.dump_records.specs.DumpText.{BeginsWithRecords, HasRecords}
use Rattle.dump_records.specs.steps.RecordViews.{record_item, record_number}
use Rattle.dump_rules.specs.Settings.{Settings}
use Rattle.dump_digest.specs.RecordParts.{is_node}
use Rattle.dump_survey.specs.declared.findings.tally.Present.{Present}
use Rattle.dump_survey.specs.declared.findings.tally.Tally.{Tally}
use Rattle.dump_survey.specs.declared.findings.surveyor.End.{End}
use Rattle.dump_survey.specs.declared.findings.surveyor.Known.{Known}
use Rattle.dump_survey.specs.declared.findings.surveyor.SurveyEnd.{SurveyEnd}
use Rattle.dump_survey.specs.declared.findings.surveyor.Step.{Step}
use Rattle.dump_survey.specs.declared.findings.surveyor.Step.TheVariants.{Node, Other, Finished}
use Rattle.dump_survey.specs.DumpFindings.{listed_findings}
use Rattle.dump_survey.specs.DumpReport.{reported_at_end, ArePlaces, AreDumpReports}
use Rattle.dump_survey.specs.steps.Found.{IsFoundIn}
use Rattle.dump_survey.specs.PrefixFindings.{PrefixReport, reported_prefixes}
use Rattle.dump_survey.specs.Reported.{present_after, IsReportedOf}
use Rattle.dump_survey.specs.steps.Surveyed.{reported_of_node}
use Rattle.dump_survey.specs.SurveyEnds.{survey_ending}
use Rattle.dump_survey.specs.steps.Surveying.{Surveying}
use Rattle.dump_survey.specs.steps.Tally.{numbers_of, tally_findings}

-- this is the step for this record; the tally describes the records before it
abbrev pub IsStepOf : Settings → Record → Tally → Step → Type 0
IsStepOf settings item tally (Node node) = (node.item ≡ item)
    × (is_node (record_item item) ≡ true)
    × (option_map (λ (p : Present). p.number) tally.present ≡ Some node.revision)
    × IsFoundIn settings (numbers_of tally node.revision) (record_item item) node.found
IsStepOf settings item tally Other = (tally.present ≡ None) ⊎ (is_node (record_item item) ≡ false)
IsStepOf settings item tally (Finished end) = ⊥

-- at this end the surveyor reports what it knows about the records: the findings in the dump as a whole, with their
-- places
abbrev pub ReportsEnd : Known → End → SurveyEnd → Type 0
ReportsEnd known end reported = (reported.end ≡ end) × (reported.places ≡ known.places)
    × (listed_findings reported.dump ≡ tally_findings known.tally known.numbers_left known.unread_revision)

-- the revision that a node belongs to if it comes after these records; before them, the present revision is this one
abbrev pub open_behind : Option ℕ → List DumpRecord → Option ℕ
open_behind present [] = present
open_behind present (r ∷ records) = open_behind (present_after present r) records

-- the record is the next one in the dump
pub record ComesNext (old : Surveying) (before : List DumpRecord) (r : DumpRecord) (new : Surveying) : Type 0 where
  pub begins : BeginsWithRecords old.dump (before ++ r ∷ [])
  pub count : length before ≡ old.number
  pub next : new ≡ record old { number = old.number + 1 }

-- the surveyor returns the findings in the next record; at the end it returns what it knows, and again so in each
-- later call
abbrev pub SurveyStep : Surveying → Step → Surveying → Type 0
SurveyStep old (Node node) new = (before : List DumpRecord) × ComesNext old before (record_item node.item) new
    × (record_number node.item ≡ old.number) × (is_node (record_item node.item) ≡ true)
    × IsReportedOf old.settings before (open_behind None before) (record_item node.item) (reported_of_node node)
SurveyStep old Other new = (before : List DumpRecord) × (r : DumpRecord) × ComesNext old before r new
    × IsReportedOf old.settings before (open_behind None before) r []
SurveyStep old (Finished end) new = (records : List DumpRecord) × HasRecords old.dump records (survey_ending end.end)
    × (length records ≡ old.number)
    × AreDumpReports old.settings records (reported_at_end end) × ArePlaces old.settings records end.places
    × (new ≡ old)

-- this is reported of the prefixes, as far as the records show that the surveyor has returned
abbrev pub ArePrefixesReported : Surveying → List PrefixReport → Type 0
ArePrefixesReported state reported = (before : List DumpRecord) × BeginsWithRecords state.dump before
    × (length before ≡ state.number) × (reported ≡ reported_prefixes before state.settings.prefixes)
