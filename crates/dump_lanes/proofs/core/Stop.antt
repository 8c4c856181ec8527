-- A stop that was seen is raised, and one that is raised has a cause, after each event.
use Rattle.dump_lanes.proofs.Prelude.{◌⊎◌, inl, inr, ⊎_elim, Bool, refl, or_cases, PoolSize, World, opening, Event, is_enabled, after_event}
use Rattle.std.proofs.Common.{IsTrue}
use Rattle.dump_lanes.proofs.core.FirstEntry.{by_job, by_done, by_piece}

-- the stop word, and what was stored about it
pub record HasCause (up seen sequencer writer : Bool) : Type 0 where
  pub seen_up : IsTrue seen → IsTrue up
  pub up_failed : IsTrue up → IsTrue sequencer ⊎ IsTrue writer

-- a stop that was seen in the state is raised, and one that is raised has a cause
abbrev pub HasStopCause : World → Type 0
HasStopCause w = HasCause w.stop_up w.stop_seen w.sequencer_failed w.writer_failed

-- after an event that may happen a stop that was seen is up, and one that is up has a cause
pub stop_kept : (size : PoolSize) (w : World) (event : Event) → IsTrue (is_enabled size w event)
    → HasStopCause w → HasStopCause (after_event size w event)
stop_kept size w (Event.Take k) e h = by_job HasStopCause size w k w.jobs h (λ n rest. h) (λ rest. h)
stop_kept size w Event.Arrive e h = by_done HasStopCause size w w.dones h (λ n rest. h) (λ rest. h)
stop_kept size w Event.SequencerNotes e h = record { seen_up = h.seen_up; up_failed = λ up. inl refl }
stop_kept size w Event.WriterNotes e h = record { seen_up = h.seen_up; up_failed = λ up. inr refl }
stop_kept size w Event.Write e h = by_piece HasStopCause size w w.lane h (λ n rest. h)
stop_kept size w Event.SequencerRaises e h = record { seen_up = λ seen. refl; up_failed = λ up. inl e }
stop_kept size w Event.WriterRaises e h = record { seen_up = λ seen. refl; up_failed = λ up. inr e }
stop_kept size w Event.Look e h = record {
  seen_up = λ seen. ⊎_elim h.seen_up (λ (up : IsTrue w.stop_up). up) (or_cases w.stop_seen w.stop_up seen);
  up_failed = h.up_failed;
}
stop_kept size w event e h = h

-- at the beginning the stop isn't raised, and wasn't seen
pub stop_first : (size : PoolSize) → HasStopCause (opening size)
stop_first size = record { seen_up = λ seen. absurd (cc); up_failed = λ up. absurd (cc) }
