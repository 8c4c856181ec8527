-- What the program's arguments mean: the survey is called as the filter is, and may also be asked for the map.
use Rattle.std.specs.Prelude.{ℕ, suc, Bool, List, [], ◌∷◌, ◌++◌, ◌+◌, Option, Some, None, Result, Ok, Err, codes, drop, take, is_some, if◌then◌else◌}
use Rattle.std.specs.Option.{option_map}
use Rattle.std.specs.Str.{bytes_eq}
use Rattle.clap.specs.Words.{Text}
use Rattle.cli_support.specs.Arguments.{Answers}
use Rattle.cli_support.specs.FilterCalls.{filter_call_of}
use Rattle.cli_support.specs.declared.filter_call.FilterCall.{FilterCall}
use Rattle.cli_support.specs.declared.usage.Usage.{Usage}
use Rattle.survey_cli.specs.declared.words.Call.{Call}

-- the place of the first --map in a line; after two minus signs there are no options
abbrev pub place_of_map : List Text → Option ℕ
place_of_map [] = None
place_of_map (word ∷ others) = if bytes_eq word (codes "--") then None
    else (if bytes_eq word (codes "--map") then Some 0 else option_map suc (place_of_map others))

-- the line without the word at this place
abbrev pub without : Option ℕ → List Text → List Text
without None line = line
without (Some place) line = take place line ++ drop (place + 1) line

-- the line without --map, which is that of the filter
abbrev pub filter_line : List Text → List Text
filter_line line = without (place_of_map line) line

-- what a call of the filter asks of the survey, with the map or without it
abbrev pub survey_of : Bool → Result FilterCall Usage → Result Call Usage
survey_of has_map (Err usage) = Err usage
survey_of has_map (Ok call) = Ok (record { options = call.options; map = has_map })

-- what a line asks for
abbrev pub call_of_line : List Text → Result Call Usage
call_of_line line = survey_of (is_some (place_of_map line)) (filter_call_of (filter_line line))

-- what the arguments ask for; the first is the program's name
abbrev pub call_of_words : List Text → Result Call Usage
call_of_words words = call_of_line (drop 1 words)

-- the answer to arguments of this meaning: out of memory may hide it, and nothing else
abbrev pub TellsCall : Result Call Usage → Result Call Usage → Type 0
TellsCall meaning answer = Answers (λ call. call) meaning answer
