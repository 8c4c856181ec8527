-- What the program does with its words and its input.
use Rattle.std.specs.Prelude.{◌≡◌, ℕ, ◌⊎◌, List, Option, Result, Ok, Err, IfSome}
use Rattle.std.specs.Io.KnownBytes.{Keeps, Appends, GrowsBy}
use Rattle.dump_rules.specs.Settings.{Settings}
use Rattle.dump_writer.specs.SinkWords.{IsPrefixOf}
use Rattle.dump_pipeline.specs.declared.answer.Answer.{Answer}
use Rattle.dump_pipeline.specs.declared.answer.Answer.TheVariants.{Clean, Fault, Failed}
use Rattle.dump_pipeline.specs.declared.answer.Failure.TheVariants as failures
use Rattle.dump_pipeline.specs.RunAnswer.{IsRunAnswer}
use Rattle.cli_support.specs.declared.filter_call.FilterCall.{FilterCall}
use Rattle.dump_cli.specs.Words.{AnswersTo}
use Rattle.dump_cli.specs.declared.words.Order.{Order}
use Rattle.cli_support.specs.Arguments.{refusal_status}
use Rattle.cli_support.specs.declared.usage.Usage.{Usage}

abbrev pub status_of : Answer → ℕ
status_of (Clean _) = 0
status_of (Fault _ _ _) = 1
status_of (Failed _ _) = 1

-- the output broke off: the writer took the first of the bytes, perhaps all, and the answer is the failure with their
-- count
pub record BreaksOff (old new : Option (List ℕ)) (sent : List ℕ) (told : Answer) : Type 0 where
  pub part : List ℕ
  pub written : ℕ
  pub begins : IsPrefixOf part sent
  pub appended : Appends old new part
  pub counted : GrowsBy old new written
  pub told_is : told ≡ Failed failures.Sink written

-- a run on the input gave an answer and sent bytes: all of them reached the writer and the answer is reported, or the
-- output broke off
pub record Ran (settings : Settings) (input : List ℕ) (old new : Option (List ℕ)) (told : Answer) : Type 0 where
  pub answer : Answer
  pub sent : List ℕ
  pub answered : IsRunAnswer settings input sent answer
  pub arrived : (Appends old new sent × (told ≡ answer)) ⊎ BreaksOff old new sent told

-- an order is run on the whole input, or writes nothing, out of memory or without input
abbrev pub CarriesOut : Settings → Option (List ℕ) → Option (List ℕ) → Option (List ℕ) → ℕ → Type 0
CarriesOut settings input old new status =
    IfSome input (λ bytes. (told : Answer) × Ran settings bytes old new told × (status ≡ status_of told))
    ⊎ (Keeps old new × (status ≡ 1))

-- words that are no order have the status 2, and an order that is out of memory has the status 1
abbrev pub Obeys : Result Order Usage → Option (List ℕ) → Option (List ℕ) → Option (List ℕ) → ℕ → Type 0
Obeys (Err usage) input old new status = Keeps old new × (status ≡ refusal_status 1 usage)
Obeys (Ok order) input old new status = CarriesOut order.options input old new status

-- words of this meaning have an answer, and it is obeyed
abbrev pub Drives : Result FilterCall Usage → Option (List ℕ) → Option (List ℕ) → Option (List ℕ) → ℕ → Type 0
Drives meaning input old new status = (answer : Result Order Usage) × AnswersTo meaning answer
    × Obeys answer input old new status
