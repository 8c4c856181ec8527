-- The rule that each step on the stop word keeps.
use Rattle.std.specs.Prelude.{◌≡◌, Bool, true, false, List, [], ◌∷◌, IsTrue}
use Rattle.dump_lanes.specs.declared.stop.protocol.WordStep.{WordStep}
use Rattle.dump_lanes.specs.declared.stop.protocol.WordStep.TheVariants as kind
use Rattle.dump_lanes.specs.PoolEvents.{Event}
use Rattle.dump_lanes.specs.PoolParts.{stop_share}

-- the events that a step may be: a raise is the sequencer's or the writer's, and the word isn't told whose
abbrev pub is_event : WordStep → Event → Bool
is_event kind.Raise Event.SequencerRaises = true
is_event kind.Raise Event.WriterRaises = true
is_event (kind.Look found) Event.Look = true
is_event step event = false

-- what a step says of the word after it
abbrev pub says_of : WordStep → Bool
says_of kind.Raise = true
says_of (kind.Look found) = found

-- a step turns the word into what it is: by the word's share of its event, whichever that is, and it says what the word
-- is
pub record IsStep (old : Bool) (step : WordStep) (new : Bool) : Type 0 where
  pub event : Event
  pub named : IsTrue (is_event step event)
  pub share : (event : Event) → IsTrue (is_event step event) → new ≡ stop_share old event
  pub says : says_of step ≡ new

-- these steps, the last of which comes first, lead from a word that is not up to this one
abbrev pub AreSteps : List WordStep → Bool → Type 0
AreSteps [] up = up ≡ false
AreSteps (step ∷ before) up = (was : Bool) × IsStep was step up × AreSteps before was
