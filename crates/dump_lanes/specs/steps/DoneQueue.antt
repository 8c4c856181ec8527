-- The rule that each call on a pool's queue of dones obeys.
use Rattle.std.specs.Prelude.{List}
use Rattle.dump_lanes.specs.declared.pool.dones.Note.{Note}
use Rattle.dump_lanes.specs.declared.steps.Move.TheVariants as move
use Rattle.dump_lanes.specs.declared.steps.Step.{Step}
use Rattle.dump_lanes.specs.declared.passes.View.{View}
use Rattle.dump_lanes.specs.PoolParts.{Thread}
use Rattle.dump_lanes.specs.steps.QueueRule.{Crew, IsQueueOf}
use Rattle.dump_lanes.specs.DoneRule.{dones_part}

-- the threads that use the dones
abbrev pub sequencer_crew : Crew
sequencer_crew = record { leader = Thread.Sequencer; other = Thread.Worker }

module _ {T : Type 0} where
  abbrev pub give_step : Note T → Step (Note T)
  give_step n = record { event = move.Put n.from; entry = n }

  abbrev pub arrive_step : Note T → Step (Note T)
  arrive_step n = record { event = move.Arrive; entry = n }

  -- the sequencer's pass leads, and the others are the workers'
  abbrev pub IsDoneQueue : List (Note T) → List (View (Note T)) → Type 0
  IsDoneQueue = IsQueueOf dones_part sequencer_crew
