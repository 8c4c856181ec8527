-- What the ports of a pool together say about the steps on its queues.
use Rattle.std.specs.Prelude.{◌≡◌, ℕ, List, ◌++◌}
use Rattle.crossbeam_queue.specs.Passes.{view}
use Rattle.dump_lanes.specs.declared.pool.Ports.{Ports}
use Rattle.dump_lanes.specs.declared.pool.dones.Note.{Note}
use Rattle.dump_lanes.specs.declared.protocol.Mark.{Mark}
use Rattle.dump_lanes.specs.declared.steps.Step.{Step}
use Rattle.dump_lanes.specs.PoolParts.{Thread}
use Rattle.dump_lanes.specs.PartSteps.{AreSteps, all_put, all_taken}
use Rattle.dump_lanes.specs.steps.OwnSteps.{steps_of}
use Rattle.dump_lanes.specs.CreditRule.{CreditStep, AreSteps as AreCreditSteps}
use Rattle.dump_lanes.specs.steps.CreditQueue.{drawn_in, back_in}
use Rattle.dump_lanes.specs.DoneRule.{dones_part}
use Rattle.dump_lanes.specs.JobRule.{jobs_part}
use Rattle.dump_lanes.specs.steps.PortViews.{job_port, credit_port, job_steps, done_steps}

module _ {J D : Type 0} (ports : Ports J D) where
  -- a history of the jobs leads to those that are left: it has what the cutter put, and of each thread exactly the
  -- steps that the ports made
  pub record HaveJobSteps : Type 0 where
    pub happened : List (Step (Mark J))
    pub left : List (Mark J)
    pub steps : AreSteps jobs_part happened left
    pub each : (thread : Thread) → steps_of thread
        (job_steps ports.workers.items ++ (view ports.cutter.jobs).steps) ≡ steps_of thread happened
    pub put_is : (view ports.cutter.jobs).put ≡ all_put jobs_part happened

  -- the same of the dones: the history has what the sequencer took
  pub record HaveDoneSteps : Type 0 where
    pub happened : List (Step (Note D))
    pub left : List (Note D)
    pub steps : AreSteps dones_part happened left
    pub each : (thread : Thread) → steps_of thread
        (done_steps ports.workers.items ++ (view ports.sequencer.dones).steps) ≡ steps_of thread happened
    pub taken_is : (view ports.sequencer.dones).taken ≡ all_taken dones_part happened

  -- the same of the credits: the history leads from those that the pool had at first to those that are free
  pub record HaveCreditSteps : Type 0 where
    pub happened : List CreditStep
    pub free : ℕ
    pub steps : AreCreditSteps (credit_port ports.writer).window happened free
    pub each : (thread : Thread) → steps_of thread
        ((view ports.writer.credits).steps ++ (view ports.cutter.credits).steps) ≡ steps_of thread happened
    pub drawn_is : (job_port ports.cutter).drawn ≡ drawn_in happened
    pub back_is : (credit_port ports.writer).back ≡ back_in happened

  -- the ports together made exactly the steps of one history of each queue, in the order of each thread
  pub record HaveSteps : Type 0 where
    pub jobs : HaveJobSteps
    pub dones : HaveDoneSteps
    pub credits : HaveCreditSteps
