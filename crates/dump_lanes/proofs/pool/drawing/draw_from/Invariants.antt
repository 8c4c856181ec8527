use Rattle.dump_lanes.proofs.Prelude.{◌≡◌, false, Seat}
use Rattle.crossbeam_queue.specs.Passes.{view, IsSamePass}
use Rattle.dump_lanes.proofs.pool.drawing.draw_from.Given as goal

-- the seat, whether it has looked or not
abbrev unseen : Seat → Seat
unseen seat = record seat { seen = false }

abbrev pub invariant-loop : goal.invariant-loop
invariant-loop g l = IsSamePass l.initial.pass l.pass × (view l.pass ≡ view l.initial.pass)
    × (unseen l.seat ≡ unseen l.initial.seat)
