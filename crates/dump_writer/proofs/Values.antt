-- Worked values of the definitions, computed and proved by the kernel.
use Rattle.std.proofs.Common.{◌≡◌, ℕ, refl, ap, true, false, List, [], length, Some, Ok, Err, codes, inl, inr, arith, lit<}
use base.Fml.{GName}
use Rattle.dump_writer.specs.declared.memory_sink.Trouble.{Trouble}
use Rattle.dump_writer.specs.declared.memory_sink.Trouble.TheVariants.{Never, Once, From}
use Rattle.dump_writer.specs.declared.sink.SinkDown.{SinkDown}
use Rattle.dump_writer.specs.SinkWords.{greatest, capped, HasFailedSince, IsPrefixOf}
use Rattle.dump_writer.specs.steps.SinkCalls.{CountsFailure, TakesOnlyFirst}
use Rattle.dump_writer.specs.steps.SinkStates.{OutState, new_out_state, OutStep, LentState, loan_of, lent_taken, MemoryState, before_trouble, share_of, trouble_after, MemoryStep}

-- SinkWords

of_64_bits : greatest ≡ 18446744073709551615
of_64_bits = refl

small : capped 7 ≡ 7
small = refl

great : capped 18446744073709551616 ≡ 18446744073709551615
great = refl

one_more : CountsFailure 1 2
one_more = refl

two_more : ¬ CountsFailure 1 3
two_more e = omega arith

no_more_than_the_greatest : CountsFailure greatest greatest
no_more_than_the_greatest = refl

failed : HasFailedSince 1 2
failed = inl (lit< tt)

perhaps_failed : HasFailedSince greatest greatest
perhaps_failed = inr refl

has_not_failed : ¬ HasFailedSince 1 1
has_not_failed (inl less) = omega arith
has_not_failed (inr e) = omega arith

begins : IsPrefixOf (codes "ab") (codes "abc")
begins = (codes "c", refl)

longer : ¬ IsPrefixOf (codes "a") []
longer (rest, e) = let same = ap length e in omega arith

two_of_three : TakesOnlyFirst (Some (codes "x")) (Some (codes "xab")) (codes "abc") 2
two_of_three = (2, lit< tt, refl, refl)

not_of_none : ¬ TakesOnlyFirst (Some []) (Some []) [] 0
not_of_none (count, less, _, _) = omega arith

-- SinkStates

nothing_yet : new_out_state (Some (codes "x"))
    ≡ record { start = Some (codes "x"); taken = Some (codes "x"); written = 0; failures = 0 }
nothing_yet = refl

abbrev pub after_two : OutState
after_two = record { start = Some []; taken = Some (codes "ab"); written = 2; failures = 0 }

takes_two : OutStep (new_out_state (Some [])) (Ok 2) after_two
takes_two = (refl, refl, refl)

takes_three : ¬ OutStep (new_out_state (Some [])) (Ok 3) after_two
takes_three (_, e, _) = omega arith

fails_once : (down : SinkDown) → OutStep after_two (Err down) (record after_two { failures = 1 })
fails_once down = (refl, refl, refl)

-- a sink over a writer that is lent, with one byte waiting after two that the writer took
abbrev pub lent : GName → LentState
lent through = record { through = through; waiting = codes "c"; out = after_two }

with_what_waits : (through : GName) → lent_taken (lent through) ≡ Some (codes "abc")
with_what_waits through = refl

held_at_first : (through : GName) → loan_of (lent through) ≡ record { writer = through; held = Some [] }
held_at_first through = refl

-- two bytes a call at most, and trouble after the third
abbrev memory : List ℕ → Trouble → ℕ → MemoryState
memory taken trouble failures = record { taken = taken; most = 2; trouble = trouble; failures = failures }

no_trouble : before_trouble Never 100 7 ≡ 7
no_trouble = refl

one_is_left : before_trouble (Once 3) 2 7 ≡ 1
one_is_left = refl

none_is_left : before_trouble (From 3) 4 7 ≡ 0
none_is_left = refl

at_most_two : share_of (memory [] (From 3) 0) 7 ≡ 2
at_most_two = refl

one_before_trouble : share_of (memory (codes "ab") (From 3) 0) 7 ≡ 1
one_before_trouble = refl

over : trouble_after (Once 3) true ≡ Never
over = refl

not_over : trouble_after (Once 3) false ≡ Once 3
not_over = refl

lasting : trouble_after (From 3) true ≡ From 3
lasting = refl

takes_its_share : MemoryStep (memory [] (Once 3) 0) (codes "abc") (Ok 2) (memory (codes "ab") (Once 3) 0)
takes_its_share = (refl, refl)

takes_more : ¬ MemoryStep (memory [] (Once 3) 0) (codes "abc") (Ok 3) (memory (codes "abc") (Once 3) 0)
takes_more (e, _) = omega arith

fails_at_its_trouble : (down : SinkDown)
    → MemoryStep (memory (codes "abc") (Once 3) 0) (codes "d") (Err down) (memory (codes "abc") Never 1)
fails_at_its_trouble down = (lit< tt, refl)

fails_at_nothing : (down : SinkDown) → ¬ MemoryStep (memory [] Never 0) [] (Err down) (memory [] Never 1)
fails_at_nothing down (some, _) = omega arith
