-- Laws of the filter's answers.
use Rattle.std.specs.Prelude.{◌≡◌, ℕ, List}
use Rattle.dump_rules.specs.Settings.{Settings}
use Rattle.dump_pipeline.specs.declared.answer.Answer.{Answer}
use Rattle.dump_pipeline.specs.FilterAnswer.{IsFilterAnswer}

-- under given options each dump has an answer of the filter and a text that it writes, and it has no others
abbrev pub EachDumpHasOneAnswer : Type 0
EachDumpHasOneAnswer = (settings : Settings) (dump : List ℕ) → (text : List ℕ) × (answer : Answer)
    × IsFilterAnswer settings dump text answer
    × ((other_text : List ℕ) (other : Answer) → IsFilterAnswer settings dump other_text other
    → (other_text ≡ text) × (other ≡ answer))
