-- The options of the filter in a command that clap reads arguments by.
use Rattle.std.specs.Prelude.{ℕ, true, false, [], ◌∷◌, Some, codes}
use Rattle.clap.specs.Lexer.{usize_max}
use Rattle.clap.specs.Simple.{on_top}
use Rattle.clap.specs.Words.{App, Rule, Text, new_app, new_rule, with_rule}
use Rattle.clap.specs.declared.builder.action.ArgAction.TheVariants.{Append, Set, SetTrue}
use Rattle.clap.specs.declared.builder.value_parser.ValueParser.TheVariants as parsers

-- an option without a value
abbrev pub switch : Text → Rule
switch name = record (new_rule name) { long = Some name; action = Some SetTrue }

-- an option with a number from 1 up
abbrev pub number : Text → ℕ → Text → Rule
number name most default = record (new_rule name) {
  long = Some name;
  action = Some Set;
  parser = Some (parsers.Unsigned 1 most);
  defaults = default ∷ [];
}

-- one or more prefixes
abbrev pub prefixes : Rule
prefixes = record (new_rule (codes "PREFIX")) {
  required = true;
  range = Some (record { start_inclusive = 1; end_inclusive = usize_max });
}

-- any number of prefixes, also none
abbrev pub any_prefixes : Rule
any_prefixes = record prefixes { required = false }

-- an option with a value, which may be given again
abbrev pub repeated : Text → Rule
repeated name = record (new_rule name) { long = Some name; action = Some Append }

-- an option with a value, which may be given once
abbrev pub valued : Text → Rule
valued name = record (new_rule name) { long = Some name; action = Some Set }

-- a command of this name without help
abbrev pub bare_command : Text → App
bare_command name = on_top (λ s. record s { disable_help_flag = true }) (new_app name)

-- the filter's command: its options in any order, before, between and after the prefixes; the side is no argument of it
abbrev pub filter_command : App
filter_command =
    let drops = with_rule (with_rule (bare_command (codes "svndumpfilter")) (switch (codes "drop-empty-revs")))
    (switch (codes "drop-all-empty-revs")) in
    let numbers = with_rule (with_rule drops (switch (codes "renumber-revs"))) (switch (codes "preserve-revprops")) in
    let quiet = with_rule (with_rule numbers (switch (codes "skip-missing-merge-sources"))) (switch (codes "quiet")) in
    let plan = with_rule (with_rule quiet (number (codes "workers") 64 (codes "4")))
    (number (codes "window") 4096 (codes "64")) in
    with_rule plan prefixes
