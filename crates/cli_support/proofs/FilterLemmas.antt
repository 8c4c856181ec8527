-- What a line that the filter's command accepts gives.
use Rattle.cli_support.proofs.Prelude.{◌≡◌, true, refl, subst, codes, List, Option, Some, None, Result, Err, AreFilled, Empty, FilterCall, Side, Answers, call_of_side, call_with, empty_in, filter_command, settings_with, Usage, Words}
use Rattle.clap.specs.Built.{IsParsedFrom}
use Rattle.clap.specs.Matches.{found_of}
use Rattle.clap.specs.Simple.{app_of}
use Rattle.clap.specs.Walk.{rows_of}
use Rattle.clap.specs.Words.{Row, is_simple_and_free}
use Rattle.clap.specs.declared.builder.command.Command.{Command}
use Rattle.clap.specs.declared.parser.matches.ArgMatches.{ArgMatches}
use Rattle.clap.proofs.OnLiterals.{clap_on_literals}
use Rattle.cli_support.proofs.FilledLemmas.{HasNumber, filled_by, is_numbered}
use Rattle.cli_support.proofs.NumberLemmas.{Each}

-- the command is simple, and no argument of it has a rule on another
pub free : is_simple_and_free filter_command ≡ true
unfolding clap_on_literals
free = refl

each_simple : Each (λ r. r.is_simple ≡ true) filter_command.top.rules
each_simple = (refl, (refl, (refl, (refl, (refl, (refl, (refl, (refl, (refl, tt)))))))))

has_workers : HasNumber (codes "workers") 64 filter_command.top.rules
has_workers = record { each = (is_numbered (codes "workers") 64 (codes "4"), tt); there = refl }

has_window : HasNumber (codes "window") 4096 filter_command.top.rules
has_window = record { each = (is_numbered (codes "window") 4096 (codes "64"), tt); there = refl }

-- a parse of the command gives each number
pub filled : (c : Command) (m : ArgMatches) → app_of c ≡ filter_command → IsParsedFrom c m → AreFilled (rows_of (found_of m))
filled c m is parsed = filled_by filter_command c m is parsed refl each_simple has_workers has_window

never_with : (o : Option Empty) (side : Side) (rows : List Row) → call_with (settings_with o side rows) rows ≡ Err Words → ⊥
never_with None side rows e = cc
never_with (Some empty) side rows e = cc

-- rows after a side aren't rejected as wrong arguments
pub never_words : (side : Side) (rows : List Row) (r : Result FilterCall Usage)
    → Answers (λ call. call) (call_of_side side rows) r → r ≡ Err Words → ⊥
never_words side rows r answers is =
    never_with (empty_in rows) side rows (subst (Answers (λ call. call) (call_of_side side rows)) is answers)
