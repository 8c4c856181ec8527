-- What the arguments of the filter mean, by the side and by what clap finds after it.
use Rattle.std.specs.Prelude.{List, Result, Ok, Err, codes}
use Rattle.clap.specs.Words.{Row, Text}
use Rattle.dump_rules.specs.Settings.{Settings}
use Rattle.dump_rules.specs.declared.options.Side.{Side}
use Rattle.cli_support.specs.Arguments.{flag_number, is_set, meaning_in, settings_of}
use Rattle.cli_support.specs.FilterCommand.{filter_command}
use Rattle.cli_support.specs.declared.filter_call.FilterCall.{FilterCall}
use Rattle.cli_support.specs.declared.usage.Usage.{Usage}

-- what settings and rows ask for
abbrev pub call_with : Result Settings Usage → List Row → Result FilterCall Usage
call_with (Err usage) rows = Err usage
call_with (Ok settings) rows = Ok (record {
  options = settings;
  workers = flag_number (codes "workers") rows;
  window = flag_number (codes "window") rows;
  quiet = is_set (codes "quiet") rows;
})

-- what a side and its rows ask for
abbrev pub call_of_side : Side → List Row → Result FilterCall Usage
call_of_side side rows = call_with (settings_of side rows) rows

-- what the arguments after the program's name ask for: only a lawful line asks for something, unless it asks for both
-- ways to drop revisions
abbrev pub filter_call_of : List Text → Result FilterCall Usage
filter_call_of line = meaning_in filter_command call_of_side line
