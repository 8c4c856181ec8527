-- What a step on each shared part of a pool can be: whose it is, and what it moves.
use Rattle.std.specs.Prelude.{◌≡◌, ◌⊎◌, ℕ, ◌+◌, Bool, true, List, [], ◌∷◌, ◌++◌}
use Rattle.dump_lanes.specs.declared.pool.dones.Note.{Note}
use Rattle.dump_lanes.specs.declared.protocol.Mark.{Mark}
use Rattle.dump_lanes.specs.declared.steps.Step.{Step}
use Rattle.dump_lanes.specs.declared.stop.protocol.WordStep.{WordStep}
use Rattle.dump_lanes.specs.declared.stop.protocol.WordStep.TheVariants as kind
use Rattle.dump_lanes.specs.PoolParts.{Thread, thread_of}
use Rattle.dump_lanes.specs.PartSteps.{event_of, IsStep}
use Rattle.dump_lanes.specs.CreditRule.{CreditStep, IsStep as IsCreditStep}
use Rattle.dump_lanes.specs.DoneRule.{dones_part}
use Rattle.dump_lanes.specs.JobRule.{jobs_part}
use Rattle.dump_lanes.specs.LaneRule.{lane_part}
use Rattle.dump_lanes.specs.StopRule.{IsStep as IsWordStep}

-- the thread that makes a step
abbrev pub stepper : {E : Type 0} → Step E → Thread
stepper s = thread_of (event_of s.event)

-- an entry joins at the back, or leaves at the front
abbrev pub Joins : {E : Type 0} → List E → E → List E → Type 0
Joins old entry new = new ≡ old ++ entry ∷ []

abbrev pub Leaves : {E : Type 0} → List E → E → List E → Type 0
Leaves old entry new = old ≡ entry ∷ new

-- the cutter puts one mark, or a worker takes one
abbrev pub JobsMoveOne : Type 0 → Type 0
JobsMoveOne T = (old new : List (Mark T)) (s : Step (Mark T)) → IsStep jobs_part old s new →
    ((stepper s ≡ Thread.Cutter) × Joins old s.entry new)
    ⊎ ((worker : ℕ) × (stepper s ≡ Thread.Worker worker) × Leaves old s.entry new)

-- a worker puts one note of its own, or the sequencer takes one
abbrev pub DonesMoveOne : Type 0 → Type 0
DonesMoveOne T = (old new : List (Note T)) (s : Step (Note T)) → IsStep dones_part old s new →
    ((stepper s ≡ Thread.Worker s.entry.from) × Joins old s.entry new)
    ⊎ ((stepper s ≡ Thread.Sequencer) × Leaves old s.entry new)

-- the sequencer puts one piece, or the writer takes one
abbrev pub PiecesMoveOne : Type 0 → Type 0
PiecesMoveOne T = (old new : List T) (s : Step T) → IsStep lane_part old s new →
    ((stepper s ≡ Thread.Sequencer) × Joins old s.entry new) ⊎ ((stepper s ≡ Thread.Writer) × Leaves old s.entry new)

-- the cutter draws one credit, or the writer gives one back
abbrev pub CreditsMoveOne : Type 0
CreditsMoveOne = (old new : ℕ) (s : CreditStep) → IsCreditStep old s new →
    ((stepper s ≡ Thread.Cutter) × (old ≡ new + 1)) ⊎ ((stepper s ≡ Thread.Writer) × (new ≡ old + 1))

-- a raise puts the word up, and a look finds what it is and leaves it
abbrev pub WordOnlyRises : Type 0
WordOnlyRises = (was up : Bool) (step : WordStep) → IsWordStep was step up →
    ((step ≡ kind.Raise) × (up ≡ true)) ⊎ ((step ≡ kind.Look up) × (up ≡ was))
