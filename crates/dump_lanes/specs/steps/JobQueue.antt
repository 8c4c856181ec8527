-- The rule that each call on a pool's queue of jobs obeys.
use Rattle.std.specs.Prelude.{ℕ, List, ◌++◌, replicate}
use Rattle.dump_lanes.specs.declared.protocol.Mark.{Mark}
use Rattle.dump_lanes.specs.declared.protocol.Mark.TheVariants.{Item, End}
use Rattle.dump_lanes.specs.declared.steps.Move.{Move}
use Rattle.dump_lanes.specs.declared.steps.Move.TheVariants as move
use Rattle.dump_lanes.specs.declared.steps.Step.{Step}
use Rattle.dump_lanes.specs.declared.passes.View.{View}
use Rattle.dump_lanes.specs.PoolParts.{Thread}
use Rattle.dump_lanes.specs.steps.QueueRule.{Crew, after_take, IsQueueOf}
use Rattle.dump_lanes.specs.JobRule.{jobs_part}

-- the threads that use the jobs
abbrev pub cutter_crew : Crew
cutter_crew = record { leader = Thread.Cutter; other = Thread.Worker }

module _ {T : Type 0} where
  -- the event in which the cutter puts a mark
  abbrev pub cut_event : Mark T → Move
  cut_event (Item x) = move.Cut
  cut_event End = move.CutMark

  abbrev pub put_step : Mark T → Step (Mark T)
  put_step x = record { event = cut_event x; entry = x }

  abbrev pub take_step : ℕ → Mark T → Step (Mark T)
  take_step worker x = record { event = move.Take worker; entry = x }

  -- the cutter's pass leads, and the others are the workers'
  abbrev pub IsJobQueue : List (Mark T) → List (View (Mark T)) → Type 0
  IsJobQueue = IsQueueOf jobs_part cutter_crew

  -- the pass after a worker has taken a mark
  abbrev pub after_job : View (Mark T) → Mark T → View (Mark T)
  after_job v x = after_take v (take_step v.from x)

  -- the pass after the cutter has put this many end marks
  abbrev pub after_ends : View (Mark T) → ℕ → View (Mark T)
  after_ends v n = record v { put = v.put ++ replicate n End; steps = replicate n (put_step End) ++ v.steps }
