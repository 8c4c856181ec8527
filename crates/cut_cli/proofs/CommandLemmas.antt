-- The command of the cut.
use Rattle.std.proofs.Common.{◌≡◌, true, refl, codes}
use Rattle.clap.specs.Built.{IsParsedFrom}
use Rattle.clap.specs.Matches.{found_of}
use Rattle.clap.specs.Simple.{app_of}
use Rattle.clap.specs.Walk.{rows_of}
use Rattle.clap.specs.Words.{is_simple_and_free}
use Rattle.clap.specs.declared.builder.command.Command.{Command}
use Rattle.clap.specs.declared.parser.matches.ArgMatches.{ArgMatches}
use Rattle.clap.proofs.OnLiterals.{clap_on_literals}
use Rattle.cli_support.proofs.FilledLemmas.{HasNumber, filled_by, is_numbered}
use Rattle.cli_support.proofs.NumberLemmas.{Each}
use Rattle.cli_support.specs.steps.FilledFlags.{AreFilled}
use Rattle.cut_cli.specs.CommandLine.{cut_command}

-- the command is simple, and no argument of it has a rule on another
pub free : is_simple_and_free cut_command ≡ true
unfolding clap_on_literals
free = refl

each_simple : Each (λ r. r.is_simple ≡ true) cut_command.top.rules
each_simple = (refl, (refl, (refl, (refl, (refl, (refl, (refl, (refl, (refl, (refl, (refl, (refl, (refl, (refl, tt))))))))))))))

has_workers : HasNumber (codes "workers") 64 cut_command.top.rules
has_workers = record { each = (is_numbered (codes "workers") 64 (codes "4"), tt); there = refl }

has_window : HasNumber (codes "window") 4096 cut_command.top.rules
has_window = record { each = (is_numbered (codes "window") 4096 (codes "64"), tt); there = refl }

-- a parse of the command gives each number
pub filled : (c : Command) (m : ArgMatches) → app_of c ≡ cut_command → IsParsedFrom c m
    → AreFilled (rows_of (found_of m))
filled c m is parsed = filled_by cut_command c m is parsed refl each_simple has_workers has_window
