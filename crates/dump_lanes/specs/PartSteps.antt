-- How a queue of a pool comes to hold what it holds: each step on it is its part's share of one event.
use Rattle.std.specs.Prelude.{◌≡◌, Bool, false, List, [], ◌∷◌, ◌++◌, IsTrue}
use Rattle.dump_lanes.specs.declared.steps.Move.{Move}
use Rattle.dump_lanes.specs.declared.steps.Move.TheVariants as move
use Rattle.dump_lanes.specs.declared.steps.Step.{Step}
use Rattle.dump_lanes.specs.PoolEvents.{Event}

-- the event that a pass notes; whether an item is the last changes no queue
abbrev pub event_of : Move → Event
event_of move.Cut = Event.Cut false
event_of move.CutMark = Event.CutMark
event_of (move.Take worker) = Event.Take worker
event_of (move.Put worker) = Event.Put worker
event_of move.Arrive = Event.Arrive
event_of move.Draw = Event.Draw
event_of move.Give = Event.Give
event_of move.Release = Event.Release
event_of move.Write = Event.Write

-- a part that is a queue: what joins it in a step, what leaves it, and its share of each event
pub record Part (E : Type 0) : Type 0 where
  pub puts : Step E → List E
  pub takes : Step E → List E
  pub share : List E → List E → Event → List E
  pub allow : List E → Event → Bool

module _ {E : Type 0} where
  -- a step turns what the queue held into what it holds: by the part's share of its event, which it allows, and with
  -- that one entry
  pub record IsStep (part : Part E) (old : List E) (s : Step E) (new : List E) : Type 0 where
    pub one_entry : part.puts s ++ part.takes s ≡ s.entry ∷ []
    pub allowed : IsTrue (part.allow old (event_of s.event))
    pub share : new ≡ part.share old (part.puts s) (event_of s.event)
    pub in_turn : old ++ part.puts s ≡ part.takes s ++ new

  -- these steps, the last of which comes first, lead from the empty queue to what it holds
  abbrev pub AreSteps : Part E → List (Step E) → List E → Type 0
  AreSteps part [] items = items ≡ []
  AreSteps part (s ∷ before) items = (held : List E) × IsStep part held s items × AreSteps part before held

  -- what joined in these steps, in order, and what left
  abbrev pub all_put : Part E → List (Step E) → List E
  all_put part [] = []
  all_put part (s ∷ before) = all_put part before ++ part.puts s

  abbrev pub all_taken : Part E → List (Step E) → List E
  all_taken part [] = []
  all_taken part (s ∷ before) = all_taken part before ++ part.takes s
