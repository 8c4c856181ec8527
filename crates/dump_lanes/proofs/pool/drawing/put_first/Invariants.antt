use Rattle.dump_lanes.proofs.Prelude.{◌≡◌, first_purse}
use Rattle.crossbeam_queue.specs.Passes.{view, IsSamePass}
use Rattle.dump_lanes.proofs.pool.drawing.put_first.Given as goal

abbrev pub invariant-loop : goal.invariant-loop
invariant-loop g l = IsSamePass l.initial.pass l.pass × (view l.pass ≡ first_purse l.counter)
