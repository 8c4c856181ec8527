-- A dump has one text of a survey, and one map of revisions, under given settings.
use Rattle.std.specs.Prelude.{◌≡◌, Bool, List, ℕ}
use Rattle.dump_rules.specs.Settings.{Settings}
use Rattle.dump_survey.specs.SurveyText.{IsSurveyText}
use Rattle.dump_survey.specs.RevisionMap.{IsRevisionMap}

-- two texts of the survey of a dump are equal, and both say whether something is found
abbrev pub SurveyTextIsOnce : Type 0
SurveyTextIsOnce = (settings : Settings) (dump text other : List ℕ) (found also : Bool) →
    IsSurveyText settings dump text found → IsSurveyText settings dump other also → (other ≡ text) × (also ≡ found)

-- two maps of the revisions of a dump are equal
abbrev pub RevisionMapIsOnce : Type 0
RevisionMapIsOnce = (settings : Settings) (dump text other : List ℕ) →
    IsRevisionMap settings dump text → IsRevisionMap settings dump other → other ≡ text
