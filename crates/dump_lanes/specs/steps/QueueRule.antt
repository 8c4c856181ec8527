-- The rule that each call on a queue of the pool obeys, for each of the parts that are queues.
use Rattle.std.specs.Prelude.{◌≡◌, ◌≢◌, ◌≤◌, ◌<◌, ◌+◌, ◌-◌, ◌⊎◌, ℕ, true, false, List, [], ◌∷◌, ◌++◌, length, sum_by}
use mathlib.Core.Option.{some}
use lib.ListN.{get_elem?}
use Rattle.dump_lanes.specs.declared.passes.TheConstants.{PARTS}
use Rattle.dump_lanes.specs.declared.steps.Step.{Step}
use Rattle.dump_lanes.specs.declared.passes.View.{View}
use Rattle.dump_lanes.specs.PoolParts.{Thread}
use Rattle.dump_lanes.specs.PartSteps.{Part, AreSteps, all_put, all_taken}
use Rattle.dump_lanes.specs.steps.OwnSteps.{steps_of, Knows}

-- the threads that use a queue: the one whose pass leads, and those whose passes are split off it, in this order
pub record Crew : Type 0 where
  pub leader : Thread
  pub other : ℕ → Thread

module _ {E : Type 0} where
  -- the pass that leads, from which this many others were split off
  abbrev pub leading : ℕ → ℕ → View E
  leading parts made =
      record { parts = parts; leads = true; made = made; from = 0; put = []; taken = []; steps = [] }

  -- another thread's pass
  abbrev pub following : ℕ → View E
  following from =
      record { parts = 1; leads = false; made = 0; from = from; put = []; taken = []; steps = [] }

  abbrev pub spent : View E
  spent = record { parts = 0; leads = false; made = 0; from = 0; put = []; taken = []; steps = [] }

  -- the pass after a step that put its entry, or took it
  abbrev pub after_put : View E → Step E → View E
  after_put v s = record v { put = v.put ++ s.entry ∷ []; steps = s ∷ v.steps }

  abbrev pub after_take : View E → Step E → View E
  after_take v s = record v { taken = v.taken ++ s.entry ∷ []; steps = s ∷ v.steps }

  -- the pass that leads, after another was split off, and after it has joined one
  abbrev pub after_fork : View E → View E
  after_fork v = record v { parts = v.parts - 1; made = v.made + 1 }

  abbrev pub after_join : View E → View E → View E
  after_join v w = record v {
    parts = v.parts + w.parts;
    put = v.put ++ w.put;
    taken = v.taken ++ w.taken;
    steps = w.steps ++ v.steps;
  }

  -- a pass may make the steps of this thread
  abbrev pub May : Crew → View E → Thread → Type 0
  May crew v thread = ((v.leads ≡ true) × (thread ≡ crew.leader))
      ⊎ ((v.leads ≡ false) × (0 < v.parts) × (thread ≡ crew.other v.from))

module _ {E : Type 0} (part : Part E) (crew : Crew) where
  -- a pass knows exactly the steps of the threads to which it belongs, and what they put and took; the one that leads has its
  -- own thread, and all those whose passes aren't split off; another pass with parts has one thread
  pub record Fits (owner : Thread → ℕ) (happened : List (Step E)) (pass : ℕ) (v : View E) : Type 0 where
    pub knows : Knows owner happened pass v.steps
    pub put_is : v.put ≡ all_put part v.steps
    pub taken_is : v.taken ≡ all_taken part v.steps
    pub leads : v.leads ≡ true → owner crew.leader ≡ pass
    pub to_come : v.leads ≡ true → (k : ℕ) → v.made ≤ k → (owner (crew.other k) ≡ pass)
        × (steps_of (crew.other k) v.steps ≡ [])
    pub follows : v.leads ≡ false → 0 < v.parts → owner (crew.other v.from) ≡ pass
    pub spends : v.parts ≡ 0 → (v.steps ≡ []) × ((thread : Thread) → owner thread ≢ pass)

  -- there is one history: its steps are those of the pool's events on this part, and lead to what the queue holds;
  -- each pass knows the steps of its threads in it; and the passes together made its steps, each as often
  pub record IsQueueOf (items : List E) (views : List (View E)) : Type 0 where
    pub owner : Thread → ℕ
    pub happened : List (Step E)
    pub steps : AreSteps part happened items
    pub parts : sum_by (λ (v : View E). v.parts) views ≡ PARTS
    pub made : (weight : Step E → ℕ) → sum_by (λ (v : View E). sum_by weight v.steps) views ≡ sum_by weight happened
    pub owned : (thread : Thread) → owner thread < length views
    pub fits : (pass : ℕ) (v : View E) → get_elem? views pass ≡ some v → Fits owner happened pass v

  -- what a pass with all parts finds out: it knows each thread's steps, and each step as often as the history has it
  pub record KnowsSteps (v : View E) (items : List E) : Type 0 where
    pub happened : List (Step E)
    pub steps : AreSteps part happened items
    pub each : (thread : Thread) → steps_of thread v.steps ≡ steps_of thread happened
    pub made : (weight : Step E → ℕ) → sum_by weight v.steps ≡ sum_by weight happened
    pub put_is : v.put ≡ all_put part v.steps
    pub taken_is : v.taken ≡ all_taken part v.steps
