-- What contracts know about a surveyor, and what the surveyor knows about the dump.
use Rattle.std.specs.Prelude.{◌≡◌, ◌↔◌, ℕ, List, length, map, IsTrue}
use Rattle.dump_records.specs.RecordText.{DumpRecord}
use Rattle.dump_records.specs.DumpText.{BeginsWithRecords}
use Rattle.dump_records.specs.steps.CutterState.{CutterState}
use Rattle.dump_rules.specs.Settings.{Settings}
use Rattle.dump_rules.specs.Prefix.{bare_prefix}
use Rattle.dump_history.specs.Findings.{HasUnreadRevision}
use Rattle.dump_survey.specs.declared.findings.surveyor.Known.{Known}
use Rattle.dump_survey.specs.steps.IdlePrefixes.{AreIdle}
use Rattle.dump_survey.specs.steps.NamedRevisions.{LeaveNumber}
use Rattle.dump_survey.specs.DumpReport.{ArePlaces}
use Rattle.dump_survey.specs.steps.Tally.{no_tally, tally_behind}

-- a surveyor: its dump, the filter's options, and how many records it has returned
pub record Surveying : Type 0 where
  pub dump : List ℕ
  pub settings : Settings
  pub number : ℕ

-- The surveyor holds the options' prefixes. About the records that the cutter has returned it knows the prefixes that
-- are idle and the tally. It knows whether the records leave numbers, and whether a revision has properties that can't
-- be read. It also knows which record causes each finding in the dump as a whole.
pub record Surveys (settings : Settings) (prefixes : List (List ℕ)) (known : Known) (cutter : CutterState) : Type 0 where
  pub prefixes_are : prefixes ≡ map bare_prefix settings.prefixes
  pub before : List DumpRecord
  pub begins : BeginsWithRecords cutter.dump before
  pub count : length before ≡ cutter.number
  pub idle_are : AreIdle before settings.prefixes known.idle
  pub tallied : known.tally ≡ tally_behind settings no_tally before
  pub left_is : LeaveNumber settings before known.numbers_left
  pub unread_is : IsTrue known.unread_revision ↔ HasUnreadRevision before
  pub places_are : ArePlaces settings before known.places
