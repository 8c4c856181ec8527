-- The rule that each call on the pool's credits obeys.
use Rattle.std.specs.Prelude.{◌≡◌, ◌≢◌, ℕ, ◌+◌, Bool, true, false, List, [], ◌∷◌, ◌++◌, length}
use mathlib.Core.Option.{some}
use lib.ListN.{get_elem?}
use Rattle.dump_lanes.specs.declared.pool.credits.Purse.{Purse}
use Rattle.dump_lanes.specs.declared.steps.Move.TheVariants as move
use Rattle.dump_lanes.specs.PoolParts.{Thread}
use Rattle.dump_lanes.specs.PartSteps.{event_of}
use Rattle.dump_lanes.specs.steps.OwnSteps.{steps_of, Knows}
use Rattle.dump_lanes.specs.CreditRule.{CreditStep, put_by, taken_by, AreSteps}

abbrev pub draw_step : CreditStep
draw_step = record { event = move.Draw; entry = tt }

abbrev pub back_step : CreditStep
back_step = record { event = move.Give; entry = tt }

-- how many credits were drawn, and how many came back
abbrev pub drawn_in : List CreditStep → ℕ
drawn_in [] = 0
drawn_in (s ∷ before) = drawn_in before + taken_by (event_of s.event)

abbrev pub back_in : List CreditStep → ℕ
back_in [] = 0
back_in (s ∷ before) = back_in before + put_by (event_of s.event)

abbrev pub purse : Bool → Bool → ℕ → ℕ → ℕ → List CreditStep → Purse
purse draws gives first drawn back steps =
    record { draws = draws; gives = gives; first = first; drawn = drawn; back = back; steps = steps }

-- the pass that draws and gives back, before any credit was drawn: it knows how many were there at first
abbrev pub first_purse : ℕ → Purse
first_purse first = purse true true first 0 0 []

-- the pass after one more credit was put at first, after the cutter drew one, and after the writer gave one back
abbrev pub after_first : Purse → Purse
after_first v = purse v.draws v.gives (v.first + 1) v.drawn v.back v.steps

abbrev pub after_draw : Purse → Purse
after_draw v = purse v.draws v.gives v.first (v.drawn + 1) v.back (draw_step ∷ v.steps)

abbrev pub after_back : Purse → Purse
after_back v = purse v.draws v.gives v.first v.drawn (v.back + 1) (back_step ∷ v.steps)

-- the passes of the cutter and of the writer, after the first pass is split; and the pass that joins both
abbrev pub cutter_purse : Purse → Purse
cutter_purse v = purse true false 0 v.drawn 0 v.steps

abbrev pub writer_purse : Purse → Purse
writer_purse v = purse false true v.first 0 v.back []

abbrev pub joined_purse : Purse → Purse → Purse
joined_purse v w = purse true true w.first v.drawn w.back (w.steps ++ v.steps)

abbrev pub spent_purse : Purse
spent_purse = purse false false 0 0 0 []

-- a pass that may draw belongs to all threads except the writer, and knows how many credits were drawn; a pass that
-- gives back belongs to the writer, and knows how many were there at first and how many came back; each pass knows
-- exactly the steps of its threads
pub record Fits (owner : Thread → ℕ) (first : ℕ) (happened : List CreditStep) (pass : ℕ) (v : Purse) : Type 0 where
  pub draws : v.draws ≡ true → ((thread : Thread) → thread ≢ Thread.Writer → owner thread ≡ pass)
      × (v.drawn ≡ drawn_in happened)
  pub gives : v.gives ≡ true → (owner Thread.Writer ≡ pass) × (v.first ≡ first) × (v.back ≡ back_in happened)
  pub knows : Knows owner happened pass v.steps

-- there is one history: its steps are those of the pool's events on the credits, and lead from the credits that were
-- put at first to those that are free; each pass knows exactly the steps of its threads
pub record IsCreditQueue {T : Type 0} (items : List T) (views : List Purse) : Type 0 where
  pub owner : Thread → ℕ
  pub first : ℕ
  pub happened : List CreditStep
  pub steps : AreSteps first happened (length items)
  pub fits : (pass : ℕ) (v : Purse) → get_elem? views pass ≡ some v → Fits owner first happened pass v

-- what a pass that both draws and gives back finds out: all steps of each thread, and so how many credits were drawn
pub record KnowsSteps (v : Purse) (free : ℕ) : Type 0 where
  pub happened : List CreditStep
  pub steps : AreSteps v.first happened free
  pub each : (thread : Thread) → steps_of thread v.steps ≡ steps_of thread happened
  pub drawn_is : v.drawn ≡ drawn_in happened
  pub back_is : v.back ≡ back_in happened
