-- What the program does with its arguments and its input.
use Rattle.std.specs.Prelude.{◌≡◌, ℕ, Bool, true, false, ◌⊎◌, List, [], ◌++◌, Option, Some, None, Result, Ok, Err, IfSome, MatchBool}
use Rattle.std.specs.Io.KnownBytes.{Keeps, Appends}
use Rattle.dump_rules.specs.Settings.{Settings}
use Rattle.dump_writer.specs.SinkWords.{TakesPart}
use Rattle.dump_survey.specs.AdviceLines.{AreAdviceLines}
use Rattle.dump_survey.specs.RevisionMap.{IsRevisionMap}
use Rattle.dump_survey.specs.SurveyText.{IsSurveyText}
use Rattle.survey_cli.specs.Words.{TellsCall}
use Rattle.survey_cli.specs.declared.texts.TheConstants.{HELP, VERSION}
use Rattle.survey_cli.specs.declared.words.Call.{Call}
use Rattle.cli_support.specs.Arguments.{refusal_status}
use Rattle.cli_support.specs.Info.{Prints}
use Rattle.cli_support.specs.declared.info.Info.{Info}
use Rattle.cli_support.specs.declared.info.Info.TheVariants.{Help, Version}
use Rattle.cli_support.specs.declared.usage.Usage.{Usage}

-- the status of a whole survey: whether something is found
abbrev pub finding_status : Bool → ℕ
finding_status false = 0
finding_status true = 1

-- this is the text of a survey, with the lines after its findings, and whether something is found
pub record IsWholeText (settings : Settings) (dump text : List ℕ) (found : Bool) : Type 0 where
  pub survey : List ℕ
  pub is_survey : IsSurveyText settings dump survey found
  pub behind : List ℕ
  pub are_behind : AreAdviceLines settings dump behind
  pub text_is : text ≡ survey ++ behind

-- this is the map of revisions if it is asked for, and nothing if it isn't
abbrev pub IsMapAskedFor : Call → List ℕ → List ℕ → Type 0
IsMapAskedFor call dump text = MatchBool call.map (IsRevisionMap call.options dump text) (text ≡ [])

-- this is all that the call asks for: the map of revisions, if it is asked for, follows all other lines
pub record IsCallText (call : Call) (dump text : List ℕ) (found : Bool) : Type 0 where
  pub front : List ℕ
  pub is_front : IsWholeText call.options dump front found
  pub revisions : List ℕ
  pub is_map : IsMapAskedFor call dump revisions
  pub all_is : text ≡ front ++ revisions

-- this is the text of a survey, alone or with all that follows its findings
abbrev pub IsText : Call → List ℕ → List ℕ → Bool → Type 0
IsText call dump text found = IsSurveyText call.options dump text found ⊎ IsCallText call dump text found

-- the writer took the whole text, and the status is the survey's own; or it took a first part of such a text, and the
-- status is that of a failure
abbrev pub SurveysDump : Call → List ℕ → Option (List ℕ) → Option (List ℕ) → ℕ → Type 0
SurveysDump call dump old new status = (text : List ℕ) × (found : Bool)
    × ((IsCallText call dump text found × Appends old new text × (status ≡ finding_status found))
    ⊎ (IsText call dump text found × TakesPart old new text × (status ≡ 3)))

-- the whole input is surveyed, or nothing is written, out of memory or without input
abbrev pub SurveysInput : Call → Option (List ℕ) → Option (List ℕ) → Option (List ℕ) → ℕ → Type 0
SurveysInput call input old new status =
    IfSome input (λ dump. SurveysDump call dump old new status) ⊎ (Keeps old new × (status ≡ 3))

-- arguments that were rejected write nothing, with the status 2, or 3 if memory ran out, and others are obeyed on the
-- input
abbrev pub SurveysOrRefuses : Result Call Usage → Option (List ℕ) → Option (List ℕ) → Option (List ℕ) → ℕ → Type 0
SurveysOrRefuses (Err usage) input old new status = Keeps old new × (status ≡ refusal_status 3 usage)
SurveysOrRefuses (Ok call) input old new status = SurveysInput call input old new status

-- arguments of this meaning have an answer, and it is obeyed
abbrev pub DrivesSurvey : Result Call Usage → Option (List ℕ) → Option (List ℕ) → Option (List ℕ) → ℕ → Type 0
DrivesSurvey meaning input old new status = (answer : Result Call Usage) × TellsCall meaning answer
    × SurveysOrRefuses answer input old new status

-- arguments that ask for a text in place of a survey get it, and the input isn't read; others are answered by their meaning
abbrev pub AnswersWords : Option Info → Result Call Usage → Option (List ℕ) → Option (List ℕ) → Option (List ℕ)
    → ℕ → Type 0
AnswersWords (Some Help) meaning input old new status = Prints 3 HELP.now old new status
AnswersWords (Some Version) meaning input old new status = Prints 3 VERSION.now old new status
AnswersWords None meaning input old new status = DrivesSurvey meaning input old new status
