use Rattle.dump_lanes.proofs.Prelude.{◌≡◌, after_ends}
use Rattle.crossbeam_queue.specs.Passes.{view, IsSamePass}
use Rattle.dump_lanes.proofs.pool.cutter.put_ends.Given as goal

abbrev pub invariant-loop : goal.invariant-loop
invariant-loop g l = IsSamePass l.initial.pass l.pass × (view l.pass ≡ after_ends (view l.initial.pass) l.counter)
