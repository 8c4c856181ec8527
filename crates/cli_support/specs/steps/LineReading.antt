-- What a command finds in a line, and which lines it accepts.
use Rattle.std.specs.Prelude.{◌≡◌, Bool, false, ◌&&◌, List, [], drop, is_some, Result, Ok, Err, ⊤}
use Rattle.clap.specs.Walk.{is_empty}
use Rattle.clap.specs.Words.{App, Text, fault_of, found_of, matches_of, rows_of, takes}
use Rattle.clap.specs.declared.parser.matches.ArgMatches.{ArgMatches}
use Rattle.cli_support.specs.Arguments.{side_in}
use Rattle.cli_support.specs.declared.usage.Usage.{Usage}
use Rattle.cli_support.specs.declared.usage.Usage.TheVariants.{Words, BothDrops, Memory}

-- the command accepts the line and finds its rows, or it rejects the line; if an allocation fails, nothing is said of
-- the line
abbrev pub ReadsLine : App → List Text → Result ArgMatches Usage → Type 0
ReadsLine app line (Ok matches) = (fault_of app line ≡ []) × (rows_of (found_of matches) ≡ matches_of app line)
ReadsLine app line (Err Words) = is_empty (fault_of app line) ≡ false
ReadsLine app line (Err BothDrops) = ⊥
ReadsLine app line (Err Memory) = ⊤

-- a line begins with a side, and the command accepts the arguments after it
abbrev pub is_line_of : App → List Text → Bool
is_line_of app line = is_some (side_in line) && is_empty (fault_of app line)

-- the same by the test that clap makes
abbrev pub is_line_taken_by : App → List Text → Bool
is_line_taken_by app line = is_some (side_in line) && takes app line

-- after the program's name there is such a line
abbrev pub is_call_of : App → List Text → Bool
is_call_of app arguments = is_line_of app (drop 1 arguments)

-- the same by the test that clap makes
abbrev pub is_taken_by : App → List Text → Bool
is_taken_by app arguments = is_line_taken_by app (drop 1 arguments)
