use Rattle.dump_lanes.proofs.Prelude.{◌≡◌, ◌≤◌, All, vec_len, vec_capacity, arc_value}
use Rattle.dump_lanes.proofs.pool.shares.share_with_workers.Given as goal

abbrev pub invariant-loop : goal.invariant-loop
invariant-loop g l =
    All (λ a. arc_value a ≡ arc_value l.queues) l.workers.items
    × (vec_len l.workers ≡ l.counter)
    × ((arc_value l.queues).workers ≤ vec_capacity l.workers)
