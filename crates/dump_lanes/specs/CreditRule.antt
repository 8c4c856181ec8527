-- The rule that each call on a pool's queue of credits keeps.
use Rattle.std.specs.Prelude.{◌≡◌, ℕ, ◌+◌, List, [], ◌∷◌, IsTrue}
use Rattle.dump_lanes.specs.declared.steps.Step.{Step}
use Rattle.dump_lanes.specs.PoolEvents.{Event}
use Rattle.dump_lanes.specs.PoolParts.{credits_share, credits_allow}
use Rattle.dump_lanes.specs.PartSteps.{event_of}

-- credits are all alike, so a step has no entry but its event
abbrev pub CreditStep : Type 0
CreditStep = Step (Unit {0})

-- how many credits an event puts, and how many it takes
abbrev pub put_by : Event → ℕ
put_by Event.Give = 1
put_by event = 0

abbrev pub taken_by : Event → ℕ
taken_by Event.Draw = 1
taken_by event = 0

-- a step turns so many free credits into so many: by the credits' share of its event, which they allow, and with one
-- credit
pub record IsStep (old : ℕ) (s : CreditStep) (new : ℕ) : Type 0 where
  pub one_credit : put_by (event_of s.event) + taken_by (event_of s.event) ≡ 1
  pub allowed : IsTrue (credits_allow old (event_of s.event))
  pub share : new ≡ credits_share old (event_of s.event)

-- these steps, the last of which comes first, lead from the free credits at first to those that are free
abbrev pub AreSteps : ℕ → List CreditStep → ℕ → Type 0
AreSteps first [] free = free ≡ first
AreSteps first (s ∷ before) free = (held : ℕ) × IsStep held s free × AreSteps first before held
