-- Where the values of header lines are in a dump.
use Rattle.std.specs.Prelude.{◌≡◌, ◌==◌, ◌≤◌, ℕ, Bool, not, List, length, drop, slice_range, Option, Some, None, if◌then◌else◌}
use Rattle.std.specs.List.{before_first}
use Rattle.dump_text.specs.declared.value_place.ValuePlace.{ValuePlace}
use Rattle.dump_text.specs.declared.value_place.ValueSpan.{ValueSpan}

-- whether there is a value
abbrev pub is_there : ValuePlace → Bool
is_there place = not (place.byte == 0)

-- the place of no value
abbrev pub no_place : ValuePlace
no_place = record { byte = 0 }

-- the value at this place of a dump: it ends before the first LF
abbrev pub value_at : List ℕ → ValuePlace → Option (List ℕ)
value_at dump place = if is_there place then Some (before_first (λ b. b == 10) (drop place.byte dump)) else None

-- the place of no value, with an end
abbrev pub no_span : ValueSpan
no_span = record { place = no_place; after = 0 }

-- the bytes of a dump from a value's place up to its end
abbrev pub span_text : List ℕ → ValueSpan → Option (List ℕ)
span_text dump span =
    if is_there span.place then Some (slice_range dump span.place.byte span.after) else None

-- both the place and the span give this value in the dump, or both give none
pub record IsSpanOf (dump : List ℕ) (span : ValueSpan) (value : Option (List ℕ)) : Type 0 where
  pub stands : value_at dump span.place ≡ value
  pub ends : span_text dump span ≡ value
  pub rises : span.place.byte ≤ span.after
  pub inside : span.after ≤ length dump
