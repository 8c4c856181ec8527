-- What contracts say of a pool and its ports.
use Rattle.std.specs.Prelude.{◌≡◌, ◌+◌, ◌==◌, true, false, List, [], ◌∷◌, ◌++◌, map, flat_map, length, Option, Some, None, is_none}
use Rattle.std.specs.Arc.{arc_value}
use Rattle.crossbeam_queue.specs.Passes.{view}
use Rattle.dump_lanes.specs.declared.pool.Pool.{Pool}
use Rattle.dump_lanes.specs.declared.pool.Ports.{Ports}
use Rattle.dump_lanes.specs.declared.pool.cutter.JobPort.{JobPort}
use Rattle.dump_lanes.specs.declared.pool.sequencer.DonePort.{DonePort}
use Rattle.dump_lanes.specs.declared.pool.worker.WorkerPort.{WorkerPort}
use Rattle.dump_lanes.specs.declared.pool.writer.CreditPort.{CreditPort}
use Rattle.dump_lanes.specs.declared.pool.drawing.Drawn.{Drawn}
use Rattle.dump_lanes.specs.declared.pool.drawing.Drawn.TheVariants as draws
use Rattle.dump_lanes.specs.declared.pool.dones.Note.{Note}
use Rattle.dump_lanes.specs.declared.protocol.Mark.{Mark}
use Rattle.dump_lanes.specs.declared.steps.Step.{Step}
use Rattle.dump_lanes.specs.declared.passes.View.{View}
use Rattle.dump_lanes.specs.steps.CreditViews.{credit_pool}
use Rattle.dump_lanes.specs.steps.LaneMarks.{items_of}
use Rattle.dump_lanes.specs.steps.PoolNames.{name_of, state_of}
use Rattle.dump_lanes.specs.steps.PoolPasses.{count_ends, marks_in}
use Rattle.dump_lanes.specs.steps.PortSides.{PoolState, CutterSide, WorkerSide, SequencerSide, WriterSide}

module _ {J D : Type 0} where
  -- the pool
  abbrev pub pool_state : Pool J D → PoolState
  pool_state p = record (state_of (arc_value p.queues)) { opened = is_none p.passes }

  -- the cutter's port
  abbrev pub job_port : JobPort J D → CutterSide J
  job_port p = record {
    pool = name_of (arc_value p.queues);
    workers = (arc_value p.queues).workers;
    put = items_of (view p.jobs).put;
    marks = count_ends (view p.jobs).put;
    drawn = (view p.credits).drawn;
  }

  -- a worker's port
  abbrev pub worker_port : WorkerPort J D → WorkerSide J D
  worker_port p = record {
    pool = name_of (arc_value p.queues);
    index = p.index;
    taken = items_of (view p.jobs).taken;
    ended = p.ended;
    given = items_of (marks_in (view p.dones).put);
    closed = p.closed;
  }

  -- the sequencer's port
  abbrev pub done_port : DonePort J D → SequencerSide D
  done_port p = record {
    pool = name_of (arc_value p.queues);
    taken = items_of
        (marks_in (view p.dones).taken);
    ended = p.left == 0;
  }

  -- the writer's port
  abbrev pub credit_port : CreditPort J D → WriterSide
  credit_port p = record {
    pool = name_of (arc_value p.queues);
    window = (arc_value p.queues).window;
    back =
        (view p.credits).back;
  }

  -- the workers' ports, in order
  abbrev pub worker_ports : Ports J D → List (WorkerSide J D)
  worker_ports ports = map (λ (p : WorkerPort J D). worker_port p) ports.workers.items

module _ {P E : Type 0} (pass_of : P → View E) where
  -- the steps that the passes of these ports made, the last one first
  abbrev pub steps_by : List P → List (Step E)
  steps_by [] = []
  steps_by (p ∷ ports) = steps_by ports ++ (pass_of p).steps

  -- the pass that leads, after it has joined those of these ports
  pub record HasTakenIn (ports : List P) (old new : View E) : Type 0 where
    pub leads : new.leads ≡ true
    pub parts : new.parts ≡ old.parts + length ports
    pub put : new.put ≡ old.put ++ flat_map (λ (p : P). (pass_of p).put) ports
    pub taken : new.taken ≡ old.taken ++ flat_map (λ (p : P). (pass_of p).taken) ports
    pub steps : new.steps ≡ steps_by ports ++ old.steps

module _ {J D : Type 0} where
  -- the steps on the jobs, and on the dones, that these workers made
  abbrev pub job_steps : List (WorkerPort J D) → List (Step (Mark J))
  job_steps = steps_by (λ (p : WorkerPort J D). view p.jobs)

  abbrev pub done_steps : List (WorkerPort J D) → List (Step (Note D))
  done_steps = steps_by (λ (p : WorkerPort J D). view p.dones)

  -- the cutter's pass for the jobs, and the sequencer's for the dones, after it has joined those of these workers
  abbrev pub HasJobsOf : List (WorkerPort J D) → View (Mark J) → View (Mark J) → Type 0
  HasJobsOf = HasTakenIn (λ (p : WorkerPort J D). view p.jobs)

  abbrev pub HasDonesOf : List (WorkerPort J D) → View (Note D) → View (Note D) → Type 0
  HasDonesOf = HasTakenIn (λ (p : WorkerPort J D). view p.dones)

-- one call of a worker: it takes one more job, or its end mark came in this call or earlier
abbrev pub JobStep : {J D : Type 0} → WorkerSide J D → Option J → WorkerSide J D → Type 0
JobStep old None new = new ≡ record old { ended = true }
JobStep old (Some job) new = (old.ended ≡ false) × (new ≡ record old { taken = old.taken ++ job ∷ [] })

-- one call of the sequencer: it takes one more item, or each worker's mark came in this call or earlier
abbrev pub DoneStep : {D : Type 0} → SequencerSide D → Option D → SequencerSide D → Type 0
DoneStep old None new = new ≡ record old { ended = true }
DoneStep old (Some done) new = (old.ended ≡ false) × (new ≡ record old { taken = old.taken ++ done ∷ [] })

-- one call that asks for a credit: it draws one of this pool, or sees the stop and draws none
abbrev pub DrawStep : {J : Type 0} → CutterSide J → Drawn → CutterSide J → Type 0
DrawStep old (draws.Credit credit) new = (credit_pool credit ≡ old.pool.credits)
    × (new ≡ record old { drawn = old.drawn + 1 })
DrawStep old draws.Stop new = new ≡ old
