-- Which items the threads took, by number, and what the sequencer returned.
use Rattle.std.specs.Prelude.{◌≡◌, ℕ, List, length}
use Rattle.dump_lanes.specs.Arrivals.{first_numbers}
use Rattle.dump_lanes.specs.steps.LaneViews.{sent, receiving}
use Rattle.dump_pipeline.specs.declared.join.Joined.{Joined}
use Rattle.dump_pipeline.specs.declared.message.Run.{Ghosts}
use Rattle.dump_pipeline.specs.declared.message.Job.{Job}
use Rattle.dump_pipeline.specs.declared.message.Checked.{Checked}
use Rattle.dump_pipeline.specs.declared.message.NumberedPiece.{NumberedPiece}
use Rattle.dump_pipeline.specs.declared.sequence.Sequenced.{Sequenced}
use Rattle.dump_pipeline.specs.steps.Messages.{piece_numbers}

-- the numbers are those of the dump's first items, each once and in order; the last word is an item too, and its
-- number follows those of the records
abbrev pub AreFirstItems : List ℕ → Type 0
AreFirstItems numbers = numbers ≡ first_numbers (length numbers)

module _ {D : Type 0} {run : Ghosts D} where
  -- what the sequencer returned
  abbrev pub sequenced_of : Joined D run → Sequenced (Job D run) (Checked D run) NumberedPiece
  sequenced_of joined = record {
    port = joined.sequencer;
    sent = joined.put.value;
    seat = joined.sequences;
    end = joined.end;
    stray = joined.stray;
  }

  -- the numbers of the items of which the sequencer made pieces, in order
  abbrev pub sequenced_numbers : Joined D run → List ℕ
  sequenced_numbers joined = piece_numbers (sent joined.put.value).put

  -- the numbers of the pieces that the writer took, in order
  abbrev pub written_numbers : Joined D run → List ℕ
  written_numbers joined = piece_numbers (receiving joined.taken.value).taken
