-- The survey reads a call as the filter reads it.
use Rattle.std.specs.Prelude.{◌≡◌, true, false, ◌||◌, List, ◌∷◌, ◌++◌, None, codes, drop}
use Rattle.std.specs.List.{list_any}
use Rattle.std.specs.Str.{bytes_eq}
use Rattle.clap.specs.Words.{Text}
use Rattle.cli_support.specs.FilterCalls.{filter_call_of}
use Rattle.survey_cli.specs.Words.{call_of_words, survey_of, place_of_map}

-- without --map the arguments ask for a survey with what they ask of the filter
abbrev pub ReadsAsFilter : Type 0
ReadsAsFilter = (words : List Text) → place_of_map (drop 1 words) ≡ None
    → call_of_words words ≡ survey_of false (filter_call_of (drop 1 words))

-- --map may be between any arguments of the filter, before its two minus signs; the map is asked for, and the rest is
-- read as the filter reads it
abbrev pub ReadsMapAnywhere : Type 0
ReadsMapAnywhere = (name : Text) (before after : List Text)
    → list_any (λ word. bytes_eq word (codes "--") || bytes_eq word (codes "--map")) before ≡ false
    → call_of_words (name ∷ before ++ codes "--map" ∷ after) ≡ survey_of true (filter_call_of (before ++ after))
