-- The rule that each call on the lane of pieces obeys.
use Rattle.std.specs.Prelude.{ℕ, zero, suc, List, [], ◌∷◌, ◌++◌}
use Rattle.dump_lanes.specs.declared.passes.View.{View}
use Rattle.dump_lanes.specs.declared.protocol.Mark.{Mark}
use Rattle.dump_lanes.specs.declared.protocol.Mark.TheVariants.{Item, End}
use Rattle.dump_lanes.specs.declared.steps.Move.{Move}
use Rattle.dump_lanes.specs.declared.steps.Move.TheVariants as move
use Rattle.dump_lanes.specs.declared.steps.Step.{Step}
use Rattle.dump_lanes.specs.PoolParts.{Thread}
use Rattle.dump_lanes.specs.steps.QueueRule.{Crew, IsQueueOf}
use Rattle.dump_lanes.specs.LaneRule.{lane_part}

-- the threads that use a lane: the sequencer sends and the writer receives; no worker ever uses it
abbrev pub receiver_first : ℕ → Thread
receiver_first zero = Thread.Writer
receiver_first (suc k) = Thread.Worker k

abbrev pub sender_crew : Crew
sender_crew = record { leader = Thread.Sequencer; other = receiver_first }

module _ {T : Type 0} where
  -- the step of the sender, and of the receiver, with a mark
  abbrev pub put_step : Mark T → Step (Mark T)
  put_step m = record { event = move.Release; entry = m }

  abbrev pub take_step : Mark T → Step (Mark T)
  take_step m = record { event = move.Write; entry = m }

  -- the steps of the lane of pieces among these: the end mark is no item, so its steps are excluded
  abbrev pub item_step : Move → Mark T → List (Step T)
  item_step event (Item x) = record { event = event; entry = x } ∷ []
  item_step event End = []

  abbrev pub item_steps : List (Step (Mark T)) → List (Step T)
  item_steps [] = []
  item_steps (s ∷ before) = item_step s.event s.entry ++ item_steps before

  -- the sender's pass leads, and the other is the receiver's
  abbrev pub IsInOrder : List (Mark T) → List (View (Mark T)) → Type 0
  IsInOrder = IsQueueOf lane_part sender_crew
