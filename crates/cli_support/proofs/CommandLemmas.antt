-- A command with one more argument.
use Rattle.std.proofs.Common.{ap₂, false, ◌≡◌, ◌∙◌}
use Rattle.clap.specs.Words.{AddsArg, App, Rule, app_of, rule_of, with_rule}
use Rattle.clap.specs.declared.builder.arg.Arg.{Arg}
use Rattle.clap.specs.declared.builder.command.Command.{Command}

-- one more argument that isn't global adds its rule to the command
pub one_more : (old : Command) (a : Arg) (new : Command) (app : App) (rule : Rule) → AddsArg old a new
    → a.global ≡ false → app_of old ≡ app → rule_of a ≡ rule
    → app_of new ≡ with_rule app rule
one_more old a new app rule adds local is_app is_rule = adds.shape local ∙ ap₂ with_rule is_app is_rule
