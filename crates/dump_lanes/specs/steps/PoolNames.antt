-- The queues of a pool, and their first passes.
use Rattle.std.specs.Prelude.{◌≡◌, false, [], length, All}
use Rattle.std.specs.Arc.{arc_value}
use Rattle.crossbeam_queue.specs.Passes.{view, IsPassOf}
use Rattle.dump_lanes.specs.declared.passes.TheConstants.{PARTS}
use Rattle.dump_lanes.specs.declared.pool.queues.Queues.{Queues}
use Rattle.dump_lanes.specs.declared.pool.queues.Passes.{Passes}
use Rattle.dump_lanes.specs.declared.pool.shares.Shares.{Shares}
use Rattle.dump_lanes.specs.steps.CreditQueue.{first_purse}
use Rattle.dump_lanes.specs.steps.QueueRule.{leading}
use Rattle.dump_lanes.specs.steps.PortSides.{PoolName, PoolState}

module _ {J D : Type 0} where
  -- the name of the pool with these queues
  abbrev pub name_of : Queues J D → PoolName
  name_of q = record {
    jobs = q.jobs.table.shared.table_id;
    dones = q.dones.table.shared.table_id;
    credits = q.credits.table.shared.table_id;
  }

  -- a pool with these queues whose ports weren't made yet
  abbrev pub state_of : Queues J D → PoolState
  state_of q = record { name = name_of q; workers = q.workers; window = q.window; opened = false }

  -- the first passes of the queues, after the credits were put
  pub record AreFirst (q : Queues J D) (p : Passes J D) : Type 0 where
    pub of_jobs : IsPassOf q.jobs p.jobs
    pub of_dones : IsPassOf q.dones p.dones
    pub of_credits : IsPassOf q.credits p.credits
    pub jobs : view p.jobs ≡ leading PARTS 0
    pub dones : view p.dones ≡ leading PARTS 0
    pub credits : view p.credits ≡ first_purse q.window

  -- references to the queues, one for each port
  pub record AreShares (q : Queues J D) (s : Shares J D) : Type 0 where
    pub cutter : arc_value s.cutter ≡ q
    pub workers : All (λ a. arc_value a ≡ q) s.workers.items
    pub as_many : length s.workers.items ≡ q.workers
    pub sequencer : arc_value s.sequencer ≡ q
    pub writer : arc_value s.writer ≡ q
