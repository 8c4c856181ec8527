use Rattle.crossbeam_queue.specs.Passes.{view, IsPassOf}
use Rattle.dump_lanes.specs.steps.PortViews.{HasJobsOf, HasDonesOf}
use Rattle.dump_lanes.proofs.pool.settling.gather.Given as goal

abbrev pub invariant-loop-worker : goal.invariant-loop-worker
invariant-loop-worker g l =
    IsPassOf l.queues.jobs l.jobs
    × IsPassOf l.queues.dones l.dones
    × HasJobsOf l.yielded (view l.initial.jobs) (view l.jobs)
    × HasDonesOf l.yielded (view l.initial.dones) (view l.dones)
