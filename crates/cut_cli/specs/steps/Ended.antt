-- What a run reports after it has written its last bytes.
use Rattle.std.specs.Prelude.{◌≡◌, ◌⊎◌, Result, IsOk, [], ℕ}
use Rattle.std.specs.Io.KnownBytes.{GrowsBy}
use Rattle.dump_writer.specs.steps.SinkStates.{LentState}
use Rattle.dump_pipeline.specs.declared.answer.Answer.{Answer}
use Rattle.dump_pipeline.specs.declared.answer.Answer.TheVariants.{Failed}
use Rattle.dump_pipeline.specs.declared.answer.Failure.{Failure}
use Rattle.cut_cli.specs.steps.Drive.{cut_status}

-- the run's answer, if its last line is written and the buffer is empty; or a failure, with the number of bytes that
-- the writer took
abbrev pub TellsAfter : {A : Type 0} → LentState → Answer → Result A Failure → Answer → Type 0
TellsAfter sink ran ending told = ((told ≡ ran) × IsOk ending × (sink.waiting ≡ []))
    ⊎ ((failure : Failure) × (written : ℕ) × (told ≡ Failed failure written)
    × GrowsBy sink.out.start sink.out.taken written)

-- the run failed, and the writer took nothing
abbrev pub FailsFirst : Answer → Type 0
FailsFirst told = ((failure : Failure) × (told ≡ Failed failure 0)) × (cut_status told ≡ 1)
