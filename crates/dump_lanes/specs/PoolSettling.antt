-- What a pool does once the stop is up or the cutter has ended, and that no event but a move keeps anyone.
use Rattle.std.specs.Prelude.{◌≡◌, ◌+◌, ◌<◌, ◌≤◌, Bool, true, false, ◌&&◌, List, [], ◌∷◌, ◌++◌, IsTrue, None}
use Rattle.dump_lanes.specs.PoolWorld.{PoolSize, World, opening}
use Rattle.dump_lanes.specs.PoolEvents.{Event, is_enabled, after_event, IsRun}

-- whether the cutter looks at the stop before each draw, and behind its draw and its cut before that; looked: whether
-- it looked just before these events
abbrev pub looks_before_draws : (looked : Bool) → List Event → Bool
looks_before_draws looked [] = true
looks_before_draws looked (Event.Draw ∷ events) = looked && looks_before_draws false events
looks_before_draws looked (Event.Cut last ∷ events) = looks_before_draws false events
looks_before_draws looked (Event.Look ∷ events) = looks_before_draws true events
looks_before_draws looked (event ∷ events) = looks_before_draws looked events

-- in a run whose cutter looks before each draw, at most one item is cut once the stop is up
abbrev pub AfterAStop : Type 0
AfterAStop = (size : PoolSize) (before after : List Event) (w new : World) →
    IsRun size before (opening size) w → IsTrue w.stop_up → IsRun size after w new →
    IsTrue (looks_before_draws false (before ++ after)) → new.cut ≤ w.cut + 1

-- once the cutter has ended nothing is cut; so nothing ever, where it is shut before it began: then nothing is put
-- into the lane, and no move of a writer is wanted
pub record EndedCutsNothing : Type 0 where
  pub ended : (size : PoolSize) (events : List Event) (old new : World) →
      IsTrue old.cutter_ended → IsRun size events old new → new.cut ≡ old.cut
  pub shut : (size : PoolSize) (events : List Event) (w : World) →
      IsRun size (Event.Shut ∷ events) (opening size) w → w.cut ≡ 0
  pub no_writer : (size : PoolSize) (events : List Event) (w : World) → 0 < size.workers → 0 < size.window →
      IsRun size (Event.Shut ∷ events) (opening size) w → (w.lane ≡ []) × (w.writing ≡ None)

-- whether an event notes a failure or raises the stop
abbrev pub is_signal : Event → Bool
is_signal Event.SequencerNotes = true
is_signal Event.WriterNotes = true
is_signal Event.SequencerRaises = true
is_signal Event.WriterRaises = true
is_signal event = false

-- each event that is no move changes something at most once: a note or a raise, and the end of the cutter
pub record IdleEventsSettle : Type 0 where
  pub signal : (size : PoolSize) (events : List Event) (w new : World) (event : Event) → IsTrue (is_signal event) →
      IsRun size events (after_event size w event) new → after_event size new event ≡ new
  pub idle_look : (size : PoolSize) (w : World) → IsTrue (is_enabled size w Event.Look) →
      w.stop_up ≡ false → after_event size w Event.Look ≡ w
  pub last_look : (size : PoolSize) (w : World) → IsTrue w.stop_up →
      IsTrue (after_event size w Event.Look).cutter_ended
  pub ended : (size : PoolSize) (events : List Event) (old new : World) →
      IsTrue old.cutter_ended → IsRun size events old new →
      (is_enabled size new Event.Look ≡ false) × (is_enabled size new Event.Shut ≡ false)
