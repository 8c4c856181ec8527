-- How a call of a sink changes its count of failures and the bytes that it took.
use Rattle.std.specs.Prelude.{◌≡◌, ℕ, ◌+◌, ◌<◌, List, length, take, Option}
use base.Fml.{GName}
use Rattle.std.specs.Io.KnownBytes.{Appends}
use Rattle.dump_writer.specs.SinkWords.{capped}

-- one more failure is counted
abbrev pub CountsFailure : ℕ → ℕ → Type 0
CountsFailure old new = new ≡ capped (old + 1)

-- the sink took the first bytes of the text, fewer than all, and this is how many
abbrev pub TakesOnlyFirst : Option (List ℕ) → Option (List ℕ) → List ℕ → ℕ → Type 0
TakesOnlyFirst old new text written = (count : ℕ)
    × (count < length text) × Appends old new (take count text) × (written ≡ capped count)

-- a borrowed writer, and the bytes that it held at first, if they are known
pub record Loan : Type 0 where
  pub writer : GName
  pub held : Option (List ℕ)
