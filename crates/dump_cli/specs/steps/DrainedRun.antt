-- What a run reports after it has written the bytes in its buffer.
use Rattle.std.specs.Prelude.{◌≡◌, ℕ, Bool, true, false, ◌⊎◌, []}
use Rattle.std.specs.Io.KnownBytes.{GrowsBy}
use Rattle.dump_writer.specs.steps.SinkStates.{LentState}
use Rattle.dump_pipeline.specs.declared.answer.Answer.{Answer}
use Rattle.dump_pipeline.specs.declared.answer.Answer.TheVariants.{Clean, Failed}
use Rattle.dump_pipeline.specs.declared.answer.Failure.TheVariants as failures
use Rattle.dump_pipeline.specs.RunAnswer.{SinkFailsOnly}

-- nothing is written for a run without a fault that is quiet
abbrev pub IsSilent : Answer → Bool → Type 0
IsSilent (Clean report) quiet = quiet ≡ true
IsSilent answer quiet = ⊥

-- whether an answer is the failure of the sink
abbrev pub is_sink_failure : Answer → Bool
is_sink_failure (Failed failures.Sink written) = true
is_sink_failure answer = false

-- what is reported after a run: its answer, if the buffer is empty; or the failure of the sink, with the number of
-- bytes that the writer took
abbrev pub TellsBehind : LentState → Answer → Answer → Type 0
TellsBehind sink ran told = ((told ≡ ran) × (sink.waiting ≡ []))
    ⊎ ((told ≡ Failed failures.Sink sink.out.written) × GrowsBy sink.out.start sink.out.taken sink.out.written)

-- the failure of the sink is reported only if the sink failed, in the run or after it
abbrev pub FailsOnlyBehind : ℕ → ℕ → Answer → Answer → Type 0
FailsOnlyBehind old new ran told = (first : ℕ) → SinkFailsOnly first old ran → SinkFailsOnly first new told
