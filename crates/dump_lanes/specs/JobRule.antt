-- The rule that each call on a pool's queue of jobs keeps.
use Rattle.std.specs.Prelude.{List, [], ◌∷◌}
use Rattle.dump_lanes.specs.declared.protocol.Mark.{Mark}
use Rattle.dump_lanes.specs.declared.protocol.Mark.TheVariants.{Item, End}
use Rattle.dump_lanes.specs.PoolEvents.{Event}
use Rattle.dump_lanes.specs.PoolParts.{jobs_share, jobs_allow}
use Rattle.dump_lanes.specs.PartSteps.{event_of, Part}

module _ {T : Type 0} where
  -- what an event puts into the jobs: an item where the cutter cuts one, and an end mark where it puts one
  abbrev pub put_by : Event → Mark T → List (Mark T)
  put_by (Event.Cut last) (Item x) = Item x ∷ []
  put_by Event.CutMark End = End ∷ []
  put_by event mark = []

  -- what an event takes
  abbrev pub taken_by : Event → Mark T → List (Mark T)
  taken_by (Event.Take worker) mark = mark ∷ []
  taken_by event mark = []

  abbrev pub jobs_part : Part (Mark T)
  jobs_part = record {
    puts = λ s. put_by (event_of s.event) s.entry;
    takes = λ s. taken_by (event_of s.event) s.entry;
    share = jobs_share;
    allow = jobs_allow;
  }
