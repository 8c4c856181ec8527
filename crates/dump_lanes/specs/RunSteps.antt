-- The steps that a run of the pool makes on each part that its threads share.
use Rattle.std.specs.Prelude.{◌≡◌, ℕ, Bool, false, List, [], ◌∷◌, ◌++◌, map, ⊤, IsTrue}
use Rattle.dump_lanes.specs.declared.pool.dones.Note.{Note}
use Rattle.dump_lanes.specs.declared.protocol.Mark.{Mark}
use Rattle.dump_lanes.specs.declared.protocol.Mark.TheVariants.{Item, End}
use Rattle.dump_lanes.specs.declared.steps.Step.{Step}
use Rattle.dump_lanes.specs.declared.stop.protocol.WordStep.{WordStep}
use Rattle.dump_lanes.specs.PoolEvents.{Event, IsRun}
use Rattle.dump_lanes.specs.PoolWorld.{PoolSize, Entry, World, opening}
use Rattle.dump_lanes.specs.PartSteps.{event_of, AreSteps}
use Rattle.dump_lanes.specs.CreditRule.{CreditStep, AreSteps as AreCreditSteps}
use Rattle.dump_lanes.specs.DoneRule.{dones_part}
use Rattle.dump_lanes.specs.JobRule.{jobs_part}
use Rattle.dump_lanes.specs.LaneRule.{lane_part}
use Rattle.dump_lanes.specs.StopRule.{is_event, AreSteps as AreWordSteps}

-- an entry of the core's queues, as a queue holds it
abbrev pub mark_of : Entry → Mark ℕ
mark_of (Entry.Item number) = Item number
mark_of Entry.Mark = End

-- these events, the last one first, before them those that came earlier
abbrev pub last_first : List Event → List Event → List Event
last_first before [] = before
last_first before (event ∷ events) = last_first (event ∷ before) events

-- the events on a part, as a pass notes them: whether an item is the last changes no queue
abbrev pub on_credits : Event → List Event
on_credits Event.Draw = Event.Draw ∷ []
on_credits Event.Give = Event.Give ∷ []
on_credits event = []

abbrev pub on_jobs : Event → List Event
on_jobs (Event.Cut last) = Event.Cut false ∷ []
on_jobs Event.CutMark = Event.CutMark ∷ []
on_jobs (Event.Take worker) = Event.Take worker ∷ []
on_jobs event = []

abbrev pub on_dones : Event → List Event
on_dones (Event.Put worker) = Event.Put worker ∷ []
on_dones Event.Arrive = Event.Arrive ∷ []
on_dones event = []

abbrev pub on_lane : Event → List Event
on_lane Event.Release = Event.Release ∷ []
on_lane Event.Write = Event.Write ∷ []
on_lane event = []

abbrev pub on_word : Event → List Event
on_word Event.SequencerRaises = Event.SequencerRaises ∷ []
on_word Event.WriterRaises = Event.WriterRaises ∷ []
on_word Event.Look = Event.Look ∷ []
on_word event = []

abbrev pub events_on : (Event → List Event) → List Event → List Event
events_on on [] = []
events_on on (event ∷ before) = on event ++ events_on on before

-- the events of steps
abbrev pub events_of : {E : Type 0} → List (Step E) → List Event
events_of [] = []
events_of (s ∷ before) = event_of s.event ∷ events_of before

-- steps on the stop word, and their events
abbrev pub AreEventsOf : List WordStep → List Event → Type 0
AreEventsOf [] [] = ⊤
AreEventsOf [] (event ∷ events) = ⊥
AreEventsOf (step ∷ steps) [] = ⊥
AreEventsOf (step ∷ steps) (event ∷ events) = IsTrue (is_event step event) × AreEventsOf steps events

-- a history of a part, one step for each event on it, that leads to what the part is
abbrev pub CreditsAt : ℕ → List Event → ℕ → Type 0
CreditsAt first before free =
    (happened : List CreditStep) × AreCreditSteps first happened free
    × (events_of happened ≡ events_on on_credits before)

abbrev pub JobsAt : List Event → List Entry → Type 0
JobsAt before jobs =
    (happened : List (Step (Mark ℕ))) × AreSteps jobs_part happened (map mark_of jobs)
    × (events_of happened ≡ events_on on_jobs before)

-- a note has beside its mark the worker that put it
abbrev pub DonesAt : List Event → List Entry → Type 0
DonesAt before dones =
    (notes : List (Note ℕ)) × (map (λ (n : Note ℕ). n.mark) notes ≡ map mark_of dones)
    × (happened : List (Step (Note ℕ))) × AreSteps dones_part happened notes
    × (events_of happened ≡ events_on on_dones before)

abbrev pub LaneAt : List Event → List ℕ → Type 0
LaneAt before lane =
    (happened : List (Step ℕ)) × AreSteps lane_part happened lane × (events_of happened ≡ events_on on_lane before)

abbrev pub WordAt : List Event → Bool → Type 0
WordAt before up =
    (happened : List WordStep) × AreWordSteps happened up × AreEventsOf happened (events_on on_word before)

-- what a run with these events, the last one first, has made of each part
pub record MakesSteps (size : PoolSize) (before : List Event) (w : World) : Type 0 where
  pub credits : CreditsAt size.window before w.credits
  pub jobs : JobsAt before w.jobs
  pub dones : DonesAt before w.dones
  pub lane : LaneAt before w.lane
  pub word : WordAt before w.stop_up

-- every run of the pool makes steps that the rules of the queues and of the word allow
abbrev pub EveryRunMakesSteps : Type 0
EveryRunMakesSteps = (size : PoolSize) (events : List Event) (w : World) →
    IsRun size events (opening size) w → MakesSteps size (last_first [] events) w
