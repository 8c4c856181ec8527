-- The survey of a dump: the findings in its nodes, in the dump as a whole and in the prefixes, up to the end of its
-- list of records.
use Rattle.std.specs.Prelude.{◌≡◌, ℕ, List, [], map, None}
use Rattle.dump_records.specs.RecordText.{DumpRecord}
use Rattle.dump_records.specs.DumpText.{HasRecords}
use Rattle.dump_rules.specs.Settings.{Settings}
use Rattle.dump_survey.specs.declared.findings.survey.Survey.{Survey}
use Rattle.dump_survey.specs.DumpReport.{reported_at_end, ArePlaces, AreDumpReports}
use Rattle.dump_survey.specs.PrefixFindings.{prefix_view, reported_prefixes}
use Rattle.dump_survey.specs.SurveyEnds.{survey_ending}
use Rattle.dump_survey.specs.Reported.{reported_view, AreReported}

-- this is the survey of the dump: its reports are those for the dump's records
pub record IsSurveyOf (settings : Settings) (dump : List ℕ) (survey : Survey) : Type 0 where
  pub records : List DumpRecord
  pub has : HasRecords dump records (survey_ending survey.end.end)
  pub reported : AreReported settings [] None records (map reported_view survey.reported.items)
  pub found : AreDumpReports settings records (reported_at_end survey.end)
  pub places : ArePlaces settings records survey.end.places
  pub prefixes : map prefix_view survey.prefixes.items ≡ reported_prefixes records settings.prefixes
