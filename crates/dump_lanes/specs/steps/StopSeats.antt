-- The stop word, and the seats from which threads raise and read it.
use Rattle.std.specs.Prelude.{◌≡◌, ℕ, ◌+◌, ◌/◌, Bool, false, ◌||◌, IsTrue}
use Rattle.atomic_table.specs.Seated.{TableId}

-- a seat: its word, whether it raised the stop, whether it saw it raised, and its share of the word's 4 parts
pub record Seat : Type 0 where
  pub word : TableId
  pub raised : Bool
  pub seen : Bool
  pub share : ℕ

-- the first seat of a word
abbrev pub first_seat : TableId → Seat
first_seat word = record { word = word; raised = false; seen = false; share = 4 }

-- each of the two seats of a split: the old marks and half the share
abbrev pub half_seat : Seat → Seat
half_seat seat = record seat { share = seat.share / 2 }

-- the seat of a join: the marks of both, and the sum of their shares
abbrev pub joined_seat : Seat → Seat → Seat
joined_seat a b = record {
  word = a.word;
  raised = a.raised || b.raised;
  seen = a.seen || b.seen;
  share = a.share + b.share;
}

-- a seat that has the whole word saw the stop only if it was raised
abbrev pub SeesOnlyRaised : Seat → Type 0
SeesOnlyRaised seat = seat.share ≡ 4 → IsTrue seat.seen → IsTrue seat.raised
