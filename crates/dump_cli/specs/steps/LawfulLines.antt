-- Which lists of arguments are calls of the program.
use Rattle.std.specs.Prelude.{Bool, List}
use Rattle.clap.specs.Words.{Text}
use Rattle.cli_support.specs.steps.LineReading.{is_call_of, is_taken_by}
use Rattle.cli_support.specs.FilterCommand.{filter_command}

-- after the program's name there is a side, and after it arguments that the filter's command accepts
abbrev pub is_call : List Text → Bool
is_call words = is_call_of filter_command words

-- the same by the test that clap makes
abbrev pub is_taken : List Text → Bool
is_taken words = is_taken_by filter_command words
