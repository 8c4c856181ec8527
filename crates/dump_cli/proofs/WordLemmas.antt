-- Rejected arguments.
use Rattle.dump_cli.proofs.Prelude.{Result, Err, AnswersTo, BothDrops, FilterCall, Usage, Words}
use Rattle.cli_support.specs.Arguments.{Answers}
use Rattle.cli_support.specs.declared.usage.Usage.TheVariants.{Memory}

-- arguments that the filter's reader rejects are rejected for the same reason
pub rejected_alike : (meaning : Result FilterCall Usage) (usage : Usage)
    → Answers (λ (call : FilterCall). call) meaning (Err usage) → AnswersTo meaning (Err usage)
rejected_alike meaning Words is = is
rejected_alike meaning BothDrops is = is
rejected_alike meaning Memory is = tt
