-- What a survey writes: one line for each finding, in the dump's order, and after them one line for each kind.
use Rattle.std.specs.Prelude.{◌≡◌, ℕ, Bool, false, not, ◌==◌, List, [], ◌++◌, flat_map, length, map, Option, None}
use Rattle.std.specs.Io.KnownBytes.{Appends}
use Rattle.dump_records.specs.RecordText.{DumpRecord}
use Rattle.dump_records.specs.DumpText.{Ending, HasRecords}
use Rattle.dump_rules.specs.Settings.{Settings}
use Rattle.dump_writer.specs.SinkWords.{IsPrefixOf}
use Rattle.dump_survey.specs.DumpReport.{DumpReport, AreDumpReports}
use Rattle.dump_survey.specs.Reported.{NodeReport, AreReported}
use Rattle.dump_survey.specs.Kinds.{kind_lines, times_reported}
use Rattle.dump_survey.specs.Lines.{node_line, dump_line, ending_line}
use Rattle.dump_survey.specs.PrefixFindings.{reported_prefixes}
use Rattle.dump_survey.specs.PrefixLines.{prefix_lines}

-- First the lines of the findings in nodes, then those of the findings in the dump as a whole, and those of the
-- findings in prefixes. Then the line of the end of the list of records, and at last the lines of the kinds of all
-- these.
abbrev pub survey_lines : Settings → List NodeReport → List DumpReport → List DumpRecord → Ending → List ℕ
survey_lines settings reported of_dump records ending = flat_map node_line reported
    ++ (flat_map dump_line of_dump
    ++ (prefix_lines (reported_prefixes records settings.prefixes) ++ (ending_line (length records) ending
    ++ kind_lines (times_reported reported) (map (λ (t : DumpReport). t.finding) of_dump) (reported_prefixes records settings.prefixes) ending)))

-- this is the text of the survey of a dump, and this says whether the survey finds something
pub record IsSurveyText (settings : Settings) (dump text : List ℕ) (found : Bool) : Type 0 where
  pub records : List DumpRecord
  pub ending : Ending
  pub has : HasRecords dump records ending
  pub reported : List NodeReport
  pub are_reported : AreReported settings [] None records reported
  pub of_dump : List DumpReport
  pub are_of_dump : AreDumpReports settings records of_dump
  pub text_is : text ≡ survey_lines settings reported of_dump records ending
  pub found_is : found ≡ not (length text == 0)

-- the text of the survey of a dump says that nothing is found
abbrev pub FindsNothing : Settings → List ℕ → Type 0
FindsNothing settings dump = (text : List ℕ) × IsSurveyText settings dump text false

-- the sink took a first part of the text of the survey, possibly all of it
pub record BreaksOffSurvey (settings : Settings) (dump : List ℕ) (old new : Option (List ℕ)) : Type 0 where
  pub text : List ℕ
  pub found : Bool
  pub is : IsSurveyText settings dump text found
  pub part : List ℕ
  pub begins : IsPrefixOf part text
  pub appended : Appends old new part
