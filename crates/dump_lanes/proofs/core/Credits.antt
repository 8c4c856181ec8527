-- The credits and the items under way add up to the window, after each event.
use Rattle.dump_lanes.proofs.Prelude.{◌≡◌, ℕ, ◌+◌, ◌<◌, Bool, true, ◌&&◌, List, ◌++◌, length, Option, Some, None, is_some, option_to_list, if◌then◌else◌, ap, arith, and_parts, not-true, ltb-true, length_push, PoolSize, World, opening, Event, is_enabled, after_event}
use Rattle.std.proofs.Common.{not, IsTrue}
use Rattle.dump_lanes.proofs.core.FirstEntry.{by_job, by_done, by_piece}

-- the credit that the cutter holds
abbrev pub held : Bool → ℕ
held b = if b then 1 else 0

-- the credits, the one that is held and the items cut add up to the window and the items finished
abbrev pub IsBounded : PoolSize → World → Type 0
IsBounded size w = w.credits + held w.holds_credit + w.cut ≡ size.window + length w.finished

-- a list that something joins is one longer
pub one_longer : {A : Type 0} (xs : List A) (o : Option A) → is_some o ≡ true
    → length (xs ++ option_to_list o) ≡ length xs + 1
one_longer xs None e = cc
one_longer xs (Some x) e = length_push xs x

-- where the cutter may draw, a credit is free, and it holds none
pub may_draw : (size : PoolSize) (w : World) → IsTrue (is_enabled size w Event.Draw)
    → (0 < w.credits) × (held w.holds_credit ≡ 0)
may_draw size w e =
    let tests = and_parts (not w.cutter_ended && not w.holds_credit) _ e in
    (ltb-true 0 w.credits tests.1, ap held (not-true w.holds_credit (and_parts (not w.cutter_ended) _ tests.0).1))

-- where it may cut, it holds one
pub may_cut : (size : PoolSize) (w : World) (last : Bool) → IsTrue (is_enabled size w (Event.Cut last))
    → held w.holds_credit ≡ 1
may_cut size w last e = ap held (and_parts w.holds_credit _ e).0

-- after a possible event, credits and items under way add up to the window
pub bounded_kept : (size : PoolSize) (w : World) (event : Event) → IsTrue (is_enabled size w event)
    → IsBounded size w → IsBounded size (after_event size w event)
bounded_kept size w Event.Draw e h = let may = may_draw size w e in omega arith
bounded_kept size w (Event.Cut last) e h = omega (arith, may_cut size w last e)
bounded_kept size w (Event.Take k) e h = by_job (IsBounded size) size w k w.jobs h (λ n rest. h) (λ rest. h)
bounded_kept size w Event.Arrive e h = by_done (IsBounded size) size w w.dones h (λ n rest. h) (λ rest. h)
bounded_kept size w Event.Write e h = by_piece (IsBounded size) size w w.lane h (λ n rest. h)
bounded_kept size w Event.Give e h = omega (arith, one_longer w.finished w.writing e)
bounded_kept size w event e h = h

-- at first the free credits are the window
pub bounded_first : (size : PoolSize) → IsBounded size (opening size)
bounded_first size = omega arith
