-- Which steps a pass knows.
use Rattle.std.specs.Prelude.{◌≡◌, ◌≢◌, ℕ, ◌==◌, Bool, true, false, List, [], filter}
use Rattle.dump_lanes.specs.declared.steps.Step.{Step}
use Rattle.dump_lanes.specs.PoolParts.{Thread, thread_of}
use Rattle.dump_lanes.specs.PartSteps.{event_of}

-- whether two threads are the same
abbrev pub is_thread : Thread → Thread → Bool
is_thread Thread.Cutter Thread.Cutter = true
is_thread (Thread.Worker j) (Thread.Worker k) = j == k
is_thread Thread.Sequencer Thread.Sequencer = true
is_thread Thread.Writer Thread.Writer = true
is_thread other thread = false

module _ {E : Type 0} where
  -- the steps of one thread
  abbrev pub steps_of : Thread → List (Step E) → List (Step E)
  steps_of thread steps = filter (λ (s : Step E). is_thread thread (thread_of (event_of s.event))) steps

  -- a pass knows all steps of the threads to which it belongs, and none of other threads
  pub record Knows (owner : Thread → ℕ) (happened : List (Step E)) (pass : ℕ) (steps : List (Step E)) : Type 0 where
    pub own : (thread : Thread) → owner thread ≡ pass → steps_of thread steps ≡ steps_of thread happened
    pub others : (thread : Thread) → owner thread ≢ pass → steps_of thread steps ≡ []
