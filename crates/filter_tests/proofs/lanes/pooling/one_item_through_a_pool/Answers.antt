use Rattle.dump_lanes.specs.steps.PortViews.{pool_state}
use Rattle.dump_lanes.proofs.PortsTogether.{fresh_workers, none_closed}
use Rattle.filter_tests.proofs.lanes.pooling.one_item_through_a_pool.Goals as goal

pub pass_one-requires-clause-workers : goal.pass_one-requires-clause-workers
pass_one-requires-clause-workers g c = fresh_workers
    (pool_state c.in-Ok.pool) _ _ c.in-Ok-ports.ensures.cutter c.in-Ok-ports.ensures.workers

pub pass_one-requires-clause-fresh : goal.pass_one-requires-clause-fresh
pass_one-requires-clause-fresh g c = none_closed (pool_state c.in-Ok.pool) _ c.in-Ok-ports.ensures.workers
