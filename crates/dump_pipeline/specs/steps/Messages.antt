-- What contracts say of the messages between a run's threads.
use Rattle.std.specs.Prelude.{ℕ, List, map, flat_map, Result, Ok, Err}
use Rattle.dump_records.specs.steps.RecordViews.{record_number}
use Rattle.dump_digest.specs.steps.DoneViews.{done_record}
use Rattle.dump_pipeline.specs.declared.message.Run.{Ghosts}
use Rattle.dump_pipeline.specs.declared.message.Job.{Job}
use Rattle.dump_pipeline.specs.declared.message.LastWord.{LastWord}
use Rattle.dump_pipeline.specs.declared.message.Checked.{Checked}
use Rattle.dump_pipeline.specs.declared.message.NumberedPiece.{NumberedPiece}

-- the number of an item: that of its record, or that of the last word
abbrev pub numbered_by : {T : Type 0} → (T → ℕ) → Result T LastWord → ℕ
numbered_by number (Ok item) = number item
numbered_by number (Err last) = last.number

module _ {D : Type 0} {run : Ghosts D} where
  -- the number of a job
  abbrev pub job_number : Job D run → ℕ
  job_number job = numbered_by record_number job.what

  -- the number of a checked item
  abbrev pub checked_number : Checked D run → ℕ
  checked_number checked = numbered_by (λ done. record_number (done_record done)) checked.what

  -- the numbers of jobs
  abbrev pub job_numbers : List (Job D run) → List ℕ
  job_numbers jobs = map job_number jobs

  -- the numbers of checked items
  abbrev pub checked_numbers : List (Checked D run) → List ℕ
  checked_numbers all = map checked_number all

-- the numbers of pieces
abbrev pub piece_numbers : List NumberedPiece → List ℕ
piece_numbers pieces = map (λ (p : NumberedPiece). p.number.value) pieces

-- the text of pieces
abbrev pub text_of : List NumberedPiece → List ℕ
text_of pieces = flat_map (λ (p : NumberedPiece). p.piece) pieces
