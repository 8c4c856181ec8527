-- How a survey ends.
use Rattle.dump_records.specs.DumpText.{Ending}
use Rattle.dump_survey.specs.declared.findings.surveyor.End.{End}
use Rattle.dump_survey.specs.declared.findings.surveyor.End.TheVariants as ends

-- the end of the list of records that a value of the program means
abbrev pub survey_ending : End → Ending
survey_ending ends.Whole = Ending.Whole
survey_ending (ends.Broken kind place) = Ending.Broken kind place
