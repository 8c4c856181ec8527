-- What the sink receives of a piece, and at the end of the dump.
use Rattle.std.specs.Prelude.{◌≡◌, ℕ, ◌+◌, ◌<◌, List, [], length, take, Option}
use Rattle.std.specs.Io.KnownBytes.{Appends}
use Rattle.dump_records.specs.RecordText.{DumpRecord}
use Rattle.dump_writer.specs.SinkWords.{capped}
use Rattle.dump_filter.specs.Counts.{report_of}
use Rattle.dump_filter.specs.steps.FilterState.{FilterState, AreAccepted, Finishes}
use Rattle.dump_pipeline.specs.declared.answer.Answer.{Answer}
use Rattle.dump_pipeline.specs.declared.answer.Answer.TheVariants.{Clean, Failed}
use Rattle.dump_pipeline.specs.declared.answer.Failure.TheVariants as failures

-- the sink received a piece after `before` bytes, and `count` is the count now
pub record Sends (old new : Option (List ℕ)) (piece : List ℕ) (before count : ℕ) : Type 0 where
  pub appended : Appends old new piece
  pub count_is : count ≡ capped (before + length piece)

-- the sink received only the first bytes of a piece
pub record StopsShort (old new : Option (List ℕ)) (piece : List ℕ) (before count : ℕ) : Type 0 where
  pub part : ℕ
  pub short : part < length piece
  pub appended : Appends old new (take part piece)
  pub count_is : count ≡ capped (before + part)

-- the end of a run: the sink received the last piece, or its first bytes, or nothing if memory ran out; and the counts
abbrev pub EndsRun : FilterState → Option (List ℕ) → Option (List ℕ) → ℕ → Answer → Type 0
EndsRun filter old new written (Clean report) = (piece : List ℕ) × Finishes filter piece × Appends old new piece
    × ((records : List DumpRecord) → AreAccepted filter records → report ≡ report_of filter.settings records)
EndsRun filter old new written (Failed failures.Sink count) = (piece : List ℕ) × Finishes filter piece
    × StopsShort old new piece written count
EndsRun filter old new written (Failed failures.Memory count) = Appends old new [] × (count ≡ written)
EndsRun filter old new written answer = ⊥
