use Rattle.dump_lanes.proofs.Prelude.{◌≡◌, ◌-◌, ◌≤◌, map, length, vec_len, vec_capacity, range_with_len, PARTS, leading, state_of, new_worker, worker_port}
use Rattle.crossbeam_queue.specs.Passes.{view, IsPassOf}
use Rattle.dump_lanes.proofs.pool.cutting.cut_workers.Given as goal

abbrev pub invariant-loop-share : goal.invariant-loop-share
invariant-loop-share g l =
    IsPassOf l.queues.jobs l.jobs
    × IsPassOf l.queues.dones l.dones
    × (view l.jobs ≡ leading (PARTS - length l.yielded) (length l.yielded))
    × (view l.dones ≡ leading (PARTS - length l.yielded) (length l.yielded))
    × (map (λ p. worker_port p) l.workers.items ≡ map (new_worker (state_of l.queues))
    (range_with_len 0 (length l.yielded)))
    × (vec_len l.workers ≡ length l.yielded)
    × (l.queues.workers ≤ vec_capacity l.workers)
