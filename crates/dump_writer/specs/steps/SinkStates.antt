-- What contracts say of a sink over a writer and of a sink in memory.
use Rattle.std.specs.Prelude.{◌≡◌, ℕ, ◌+◌, ◌-◌, ◌<◌, ◌==◌, Bool, min, List, ◌++◌, length, take, Option, Result, Ok, Err, if◌then◌else◌}
use base.Fml.{GName}
use Rattle.std.specs.Io.KnownBytes.{append_known}
use Rattle.dump_writer.specs.declared.memory_sink.Trouble.{Trouble}
use Rattle.dump_writer.specs.declared.memory_sink.Trouble.TheVariants.{Never, Once, From}
use Rattle.dump_writer.specs.declared.sink.SinkDown.{SinkDown}
use Rattle.dump_writer.specs.SinkWords.{capped}
use Rattle.dump_writer.specs.steps.SinkCalls.{Loan}

-- a sink over a writer: what the writer held at first and what it holds, if this is known, how many bytes the sink
-- took, and how often it failed
pub record OutState : Type 0 where
  pub start : Option (List ℕ)
  pub taken : Option (List ℕ)
  pub written : ℕ
  pub failures : ℕ

-- a sink over a writer before the first call
abbrev pub new_out_state : Option (List ℕ) → OutState
new_out_state contents = record { start = contents; taken = contents; written = 0; failures = 0 }

-- one call of a sink over a writer: it counts the bytes that it took, or one more failure; what the writer held at
-- first stays the same
abbrev pub OutStep : OutState → Result ℕ SinkDown → OutState → Type 0
OutStep old (Ok n) new = (new.start ≡ old.start) × (new.written ≡ capped (old.written + n))
    × (new.failures ≡ old.failures)
OutStep old (Err down) new = (new.start ≡ old.start) × (new.written ≡ old.written)
    × (new.failures ≡ capped (old.failures + 1))

-- a sink over a borrowed writer: the writer, the bytes in the buffer, and what the writer holds and took
pub record LentState : Type 0 where
  pub through : GName
  pub waiting : List ℕ
  pub out : OutState

-- its writer, and what this held at first
abbrev pub loan_of : LentState → Loan
loan_of sink = record { writer = sink.through; held = sink.out.start }

-- what such a sink took: what the writer holds, and what is in the buffer
abbrev pub lent_taken : LentState → Option (List ℕ)
lent_taken sink = append_known sink.out.taken sink.waiting

-- a sink in memory: what it took, how many bytes it takes at most in a call, its trouble, and how often it failed
pub record MemoryState : Type 0 where
  pub taken : List ℕ
  pub most : ℕ
  pub trouble : Trouble
  pub failures : ℕ

-- how many of `count` bytes come before the trouble, if `taken` bytes were taken
abbrev pub before_trouble : Trouble → ℕ → ℕ → ℕ
before_trouble Never taken count = count
before_trouble (Once total) taken count = min count (total - taken)
before_trouble (From total) taken count = min count (total - taken)

-- how many of `count` bytes a call takes, if no allocation fails
abbrev pub share_of : MemoryState → ℕ → ℕ
share_of state count = before_trouble state.trouble (length state.taken) (min count state.most)

-- the trouble after a failure; `own` says whether the trouble was the cause
abbrev pub trouble_after : Trouble → Bool → Trouble
trouble_after Never own = Never
trouble_after (Once total) own = if own then Never else Once total
trouble_after (From total) own = From total

-- one call of a sink in memory: it takes its share, or fails because of its trouble or of an allocation
abbrev pub MemoryStep : MemoryState → List ℕ → Result ℕ SinkDown → MemoryState → Type 0
MemoryStep old bytes (Ok n) new =
    (n ≡ share_of old (length bytes)) × (new ≡ record old { taken = old.taken ++ take n bytes })
MemoryStep old bytes (Err down) new = (0 < length bytes)
    × (new ≡ record old {
      trouble = trouble_after old.trouble (share_of old (length bytes) == 0);
      failures = capped (old.failures + 1);
    })
