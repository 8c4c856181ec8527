-- The rule that each call on a pool's queue of dones keeps.
use Rattle.std.specs.Prelude.{◌==◌, List, [], ◌∷◌, cond}
use Rattle.dump_lanes.specs.declared.pool.dones.Note.{Note}
use Rattle.dump_lanes.specs.PoolEvents.{Event}
use Rattle.dump_lanes.specs.PoolParts.{dones_share, dones_allow}
use Rattle.dump_lanes.specs.PartSteps.{event_of, Part}

module _ {T : Type 0} where
  -- what an event puts into the dones: one note of the worker that steps; and what it takes
  abbrev pub put_by : Event → Note T → List (Note T)
  put_by (Event.Put worker) n = cond (n.from == worker) (n ∷ []) []
  put_by event n = []

  abbrev pub taken_by : Event → Note T → List (Note T)
  taken_by Event.Arrive n = n ∷ []
  taken_by event n = []

  abbrev pub dones_part : Part (Note T)
  dones_part = record {
    puts = λ s. put_by (event_of s.event) s.entry;
    takes = λ s. taken_by (event_of s.event) s.entry;
    share = dones_share;
    allow = dones_allow;
  }
