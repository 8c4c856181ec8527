-- Which lists of arguments are calls of the program.
use Rattle.std.specs.Prelude.{Bool, List, drop}
use Rattle.clap.specs.Words.{Text}
use Rattle.cli_support.specs.FilterCommand.{filter_command}
use Rattle.cli_support.specs.steps.LineReading.{is_line_of, is_line_taken_by}
use Rattle.survey_cli.specs.Words.{filter_line}

-- the arguments name a subcommand, and the filter's command accepts those after it, without --map
abbrev pub is_survey_call : List Text → Bool
is_survey_call words = is_line_of filter_command (filter_line (drop 1 words))

-- the same by the test that clap makes
abbrev pub is_taken_call : List Text → Bool
is_taken_call words = is_line_taken_by filter_command (filter_line (drop 1 words))
