-- The rule that each call on a lane's channel keeps.
use Rattle.std.specs.Prelude.{List, [], ◌∷◌}
use Rattle.dump_lanes.specs.PoolEvents.{Event}
use Rattle.dump_lanes.specs.PoolParts.{lane_share, lane_allow}
use Rattle.dump_lanes.specs.PartSteps.{event_of, Part}

module _ {T : Type 0} where
  -- what an event puts into the lane of pieces: one where the sequencer releases it; and what it takes
  abbrev pub put_by : Event → T → List T
  put_by Event.Release x = x ∷ []
  put_by event x = []

  abbrev pub taken_by : Event → T → List T
  taken_by Event.Write x = x ∷ []
  taken_by event x = []

  abbrev pub lane_part : Part T
  lane_part = record {
    puts = λ s. put_by (event_of s.event) s.entry;
    takes = λ s. taken_by (event_of s.event) s.entry;
    share = lane_share;
    allow = lane_allow;
  }

-- a lane's channel is such a part with marks for its entries
