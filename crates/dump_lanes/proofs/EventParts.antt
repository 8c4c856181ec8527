-- What a step of one thread leaves unchanged for the others, and what its shared parts allow.
use Rattle.dump_lanes.proofs.Prelude.{◌≢◌, ℕ, ap, refl, true, false, ◌&&◌, nat_lt, List, [], ◌∷◌, Some, None, PoolSize, Entry, World, Event, is_enabled, Thread, IsSameFor, LeavesOthers, PartsAllow, length, and_parts, credits_allow, jobs_allow, lane_allow}
use Rattle.std.proofs.lemmas.List.{get_or-set_other}
use Rattle.std.specs.Prelude.{IsTrue, not}
use Rattle.dump_lanes.specs.PoolEvents.{taken_by}
use Rattle.dump_lanes.specs.PoolParts.{dones_allow}
use Rattle.dump_lanes.proofs.core.FirstEntry.{by_done, by_piece}

-- another worker has another number
other_number : (k worker : ℕ) → Thread.Worker k ≢ Thread.Worker worker → k ≢ worker
other_number k worker h e = h (ap Thread.Worker e)

same_own : (t : Thread) (w : World) → IsSameFor t w w
same_own Thread.Cutter w = (refl, refl, refl, refl, refl)
same_own (Thread.Worker k) w = (refl, refl)
same_own Thread.Sequencer w = (refl, refl, refl, refl)
same_own Thread.Writer w = (refl, refl, refl)

-- a worker that takes a job
take_leaves : (w : World) (worker : ℕ) (jobs : List Entry) (other : Thread) → other ≢ Thread.Worker worker
    → IsSameFor other w (taken_by w worker jobs)
take_leaves w worker [] other h = same_own other w
take_leaves w worker (Entry.Item n ∷ rest) (Thread.Worker k) h =
    (get_or-set_other w.hands worker k (Some (Entry.Item n)) None (other_number k worker h), refl)
take_leaves w worker (Entry.Item n ∷ rest) other h = same_own other w
take_leaves w worker (Entry.Mark ∷ rest) (Thread.Worker k) h = (
  get_or-set_other w.hands worker k (Some Entry.Mark) None (other_number k worker h),
  get_or-set_other w.marks_taken worker k true false (other_number k worker h),
)
take_leaves w worker (Entry.Mark ∷ rest) other h = same_own other w

-- each event leaves unchanged what the other threads own
pub leaves : (size : PoolSize) (w : World) (event : Event) → LeavesOthers size w event
leaves size w (Event.Take worker) other h = take_leaves w worker w.jobs other h
leaves size w (Event.Put worker) (Thread.Worker k) h =
    (get_or-set_other w.hands worker k None None (other_number k worker h), refl)
leaves size w Event.Draw Thread.Cutter h = absurd (h refl)
leaves size w (Event.Cut last) Thread.Cutter h = absurd (h refl)
leaves size w Event.CutMark Thread.Cutter h = absurd (h refl)
leaves size w Event.Look Thread.Cutter h = absurd (h refl)
leaves size w Event.Shut Thread.Cutter h = absurd (h refl)
leaves size w Event.Arrive Thread.Sequencer h = absurd (h refl)
leaves size w Event.SequencerNotes Thread.Sequencer h = absurd (h refl)
leaves size w Event.Release Thread.Sequencer h = absurd (h refl)
leaves size w Event.SequencerRaises Thread.Sequencer h = absurd (h refl)
leaves size w Event.WriterNotes Thread.Writer h = absurd (h refl)
leaves size w Event.Write Thread.Writer h = absurd (h refl)
leaves size w Event.Give Thread.Writer h = absurd (h refl)
leaves size w Event.WriterRaises Thread.Writer h = absurd (h refl)
leaves size w Event.Arrive other h =
    let same = same_own other w in by_done (IsSameFor other w) size w w.dones same (λ n rest. same) (λ rest. same)
leaves size w Event.Write other h =
    by_piece (IsSameFor other w) size w w.lane (same_own other w) (λ n rest. same_own other w)
leaves size w event other h = same_own other w

parts_allow : {w : World} {event : Event} → IsTrue (credits_allow w.credits event) → IsTrue (jobs_allow w.jobs event)
    → IsTrue (dones_allow w.dones event) → IsTrue (lane_allow w.lane event) → PartsAllow w event
parts_allow credits jobs dones lane = record { credits = credits; jobs = jobs; dones = dones; lane = lane }

-- an event that may happen is allowed by each part
pub allows : (size : PoolSize) (w : World) (event : Event) → IsTrue (is_enabled size w event) → PartsAllow w event
allows size w Event.Draw h = parts_allow (and_parts (not w.cutter_ended && not w.holds_credit) _ h).1 refl refl refl
allows size w (Event.Take worker) h = parts_allow refl (and_parts _ (nat_lt 0 (length w.jobs)) h).1 refl refl
allows size w Event.Arrive h = parts_allow refl refl h refl
allows size w Event.Write h = parts_allow refl refl refl (and_parts (nat_lt 0 (length w.lane)) _ h).0
allows size w event h = parts_allow refl refl refl refl
