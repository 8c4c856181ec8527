-- The result of a survey, and what its writer took.
use Rattle.std.specs.Prelude.{◌⊎◌, ℕ, Bool, List, [], Option, Result, Ok, Err}
use Rattle.std.specs.Io.KnownBytes.{Appends}
use Rattle.dump_rules.specs.Settings.{Settings}
use Rattle.dump_survey.specs.SurveyText.{IsSurveyText}
use Rattle.survey_cli.specs.Drive.{IsCallText, IsMapAskedFor, IsText, IsWholeText, finding_status}
use Rattle.survey_cli.specs.declared.words.Call.{Call}
use Rattle.dump_writer.specs.SinkWords.{TakesPart}

-- the writer took a first part of the text of a survey with the lines after its findings, or of the survey alone
abbrev pub FrontBreaksOff : Settings → List ℕ → Option (List ℕ) → Option (List ℕ) → Type 0
FrontBreaksOff settings dump old new = (text : List ℕ) × (found : Bool)
    × (IsSurveyText settings dump text found ⊎ IsWholeText settings dump text found) × TakesPart old new text

-- the writer took nothing, or a first part of the map for which the call asks
abbrev pub MapBreaksOff : Call → List ℕ → Option (List ℕ) → Option (List ℕ) → Type 0
MapBreaksOff call dump old new =
    Appends old new [] ⊎ ((text : List ℕ) × IsMapAskedFor call dump text × TakesPart old new text)

-- the writer took a first part of the whole text, or of the text of the survey alone
abbrev pub SurveyBreaksOff : Call → List ℕ → Option (List ℕ) → Option (List ℕ) → Type 0
SurveyBreaksOff call dump old new =
    (text : List ℕ) × (found : Bool) × IsText call dump text found × TakesPart old new text

-- if the text was completely written, the result says whether something was found; otherwise the writer took a first
-- part
abbrev pub Arrives : {E : Type 0} → Call → List ℕ → Option (List ℕ) → Option (List ℕ) → Result Bool E → Type 0
Arrives call dump old new (Ok found) =
    (text : List ℕ) × IsCallText call dump text found × Appends old new text
Arrives call dump old new (Err failure) = SurveyBreaksOff call dump old new

-- the exit status
abbrev pub answer_status : {E : Type 0} → Result Bool E → ℕ
answer_status (Ok found) = finding_status found
answer_status (Err failure) = 3
