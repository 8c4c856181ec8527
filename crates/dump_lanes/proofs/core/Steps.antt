-- Every run of the pool makes steps that the rules of its queues and of its stop word allow.
use Rattle.dump_lanes.proofs.Prelude.{◌≡◌, ℕ, Bool, true≢false, nat_lt, List, [], ◌∷◌, ◌++◌, length, drop, map, Option, Some, None, is_some, option_to_list, sym, refl, ap, ◌∙◌, subst, arith, map-append, Note, Mark, Item, End, Step, Event, is_enabled, after_event, IsRun, credits_share, credits_allow, jobs_share, jobs_allow, dones_share, lane_share, lane_allow, stop_share, cutter_puts, worker_puts, sequencer_puts, PoolSize, Entry, World, opening, hand_of, draw_step, back_step, dones_part, give_step, arrive_step, jobs_part, last_first, on_dones, events_on, events_of, CreditsAt, JobsAt, DonesAt, LaneAt, WordAt, MakesSteps, EveryRunMakesSteps, Part, event_of}
use Rattle.std.proofs.Common.{IsTrue}
use Rattle.dump_lanes.specs.declared.stop.protocol.WordStep.TheVariants as kind
use Rattle.dump_lanes.specs.PartSteps.{AreSteps, IsStep}
use Rattle.dump_lanes.specs.steps.JobQueue.{put_step, take_step}
use Rattle.dump_lanes.specs.RunSteps.{mark_of}
use Rattle.dump_lanes.proofs.DoneSteps.{give_is_step, arrive_is_step}
use Rattle.dump_lanes.proofs.EventParts.{allows}
use Rattle.dump_lanes.proofs.EventShares.{shares}
use Rattle.dump_lanes.proofs.JobSteps.{cut_is_step, take_is_step}
use Rattle.dump_lanes.proofs.Moves.{release, write, release_is_step, write_is_step}
use Rattle.dump_lanes.proofs.StopSteps.{raise_is_step, look_is_step}

credits_step : (size : PoolSize) (free : ℕ) (event : Event) (before : List Event) → IsTrue (credits_allow free event)
    → CreditsAt size.window before free → CreditsAt size.window (event ∷ before) (credits_share free event)
credits_step size free Event.Draw before may h = (
  draw_step ∷ h.0,
  (free, record { one_credit = refl; allowed = may; share = refl }, h.1),
  ap (λ l. Event.Draw ∷ l) h.2,
)
credits_step size free Event.Give before may h = (
  back_step ∷ h.0,
  (free, record { one_credit = refl; allowed = refl; share = refl }, h.1),
  ap (λ l. Event.Give ∷ l) h.2,
)
credits_step size free event before may h = h

-- one more step of a queue, after those that led to what it held
one_more : {E : Type 0} {part : Part E} {old new : List E} {events : List Event} (s : Step E) → IsStep part old s new
    → ((happened : List (Step E)) × AreSteps part happened old × (events_of happened ≡ events))
    → (happened : List (Step E)) × AreSteps part happened new × (events_of happened ≡ event_of s.event ∷ events)
one_more {old = old} s is h = (s ∷ h.0, (old, is, h.1), ap (λ l. event_of s.event ∷ l) h.2)

put_is_step : (jobs : List Entry) (x : Entry)
    → IsStep jobs_part (map mark_of jobs) (put_step (mark_of x)) (map mark_of (jobs ++ x ∷ []))
put_is_step jobs x =
    subst (IsStep jobs_part (map mark_of jobs) (put_step (mark_of x))) (sym (map-append mark_of jobs (x ∷ [])))
    (cut_is_step (mark_of x) (map mark_of jobs))

take_jobs : (k : ℕ) (jobs : List Entry) (before : List Event) → IsTrue (nat_lt 0 (length jobs)) → JobsAt before jobs
    → JobsAt (Event.Take k ∷ before) (drop 1 jobs)
take_jobs k [] before may h = absurd (true≢false (sym may))
take_jobs k (x ∷ rest) before may h =
    one_more (take_step k (mark_of x)) (take_is_step k (mark_of x) (map mark_of rest)) h

jobs_step : (w : World) (event : Event) (before : List Event) → IsTrue (jobs_allow w.jobs event) → JobsAt before w.jobs
    → JobsAt (event ∷ before) (jobs_share w.jobs (cutter_puts w event) event)
jobs_step w (Event.Cut last) before may h = one_more (put_step (Item w.cut)) (put_is_step w.jobs (Entry.Item w.cut)) h
jobs_step w Event.CutMark before may h = one_more (put_step End) (put_is_step w.jobs Entry.Mark) h
jobs_step w (Event.Take k) before may h = take_jobs k w.jobs before may h
jobs_step w event before may h = h

put_done : (k : ℕ) (hand : Option Entry) (dones : List Entry) (before : List Event) → IsTrue (is_some hand)
    → DonesAt before dones
    → DonesAt (Event.Put k ∷ before) (dones ++ option_to_list hand)
put_done k None dones before may h = absurd (true≢false (sym may))
put_done k (Some x) dones before may h =
    let n : Note ℕ = record { from = k; mark = mark_of x } in
    let marks : map (λ (n : Note ℕ). n.mark) (h.0 ++ n ∷ []) ≡ map mark_of (dones ++ x ∷ []) =
    map-append (λ (n : Note ℕ). n.mark) h.0 (n ∷ [])
    ∙ (ap (λ l. l ++ mark_of x ∷ []) h.1 ∙ sym (map-append mark_of dones (x ∷ []))) in
    (h.0 ++ n ∷ [], marks, give_step n ∷ h.2, (h.0, give_is_step n h.0, h.3), ap (λ l. Event.Put k ∷ l) h.4)

first_note : (notes : List (Note ℕ)) (happened : List (Step (Note ℕ))) (x : Entry) (rest : List Entry)
    (before : List Event)
    → map (λ (n : Note ℕ). n.mark) notes ≡ map mark_of (x ∷ rest) → AreSteps dones_part happened notes
    → events_of happened ≡ events_on on_dones before → DonesAt (Event.Arrive ∷ before) rest
first_note [] happened x rest before e h t = absurd (let l = ap length e in omega arith)
first_note (n ∷ notes) happened x rest before e h t = (
  notes,
  ap (λ l. drop 1 l) e,
  arrive_step n ∷ happened,
  (n ∷ notes, arrive_is_step n notes, h),
  ap (λ l. Event.Arrive ∷ l) t,
)

arrive_done : (dones : List Entry) (before : List Event) → IsTrue (nat_lt 0 (length dones)) → DonesAt before dones
    → DonesAt (Event.Arrive ∷ before) (drop 1 dones)
arrive_done [] before may h = absurd (true≢false (sym may))
arrive_done (x ∷ rest) before may h = first_note h.0 h.2 x rest before h.1 h.3 h.4

dones_step : (size : PoolSize) (w : World) (event : Event) (before : List Event) → IsTrue (is_enabled size w event)
    → DonesAt before w.dones
    → DonesAt (event ∷ before) (dones_share w.dones (worker_puts w event) event)
dones_step size w (Event.Put k) before may h = put_done k (hand_of w k) w.dones before may h
dones_step size w Event.Arrive before may h = arrive_done w.dones before may h
dones_step size w event before may h = h

write_lane : (lane : List ℕ) (before : List Event) → IsTrue (nat_lt 0 (length lane)) → LaneAt before lane
    → LaneAt (Event.Write ∷ before) (drop 1 lane)
write_lane [] before may h = absurd (true≢false (sym may))
write_lane (x ∷ rest) before may h = one_more (write x) (write_is_step x rest) h

lane_step : (w : World) (event : Event) (before : List Event) → IsTrue (lane_allow w.lane event) → LaneAt before w.lane
    → LaneAt (event ∷ before) (lane_share w.lane (sequencer_puts w event) event)
lane_step w Event.Release before may h = one_more (release w.released) (release_is_step w.released w.lane) h
lane_step w Event.Write before may h = write_lane w.lane before may h
lane_step w event before may h = h

word_step : (up : Bool) (event : Event) (before : List Event) → WordAt before up
    → WordAt (event ∷ before) (stop_share up event)
word_step up Event.SequencerRaises before h = (kind.Raise ∷ h.0, (up, raise_is_step up, h.1), (refl, h.2))
word_step up Event.WriterRaises before h = (kind.Raise ∷ h.0, (up, raise_is_step up, h.1), (refl, h.2))
word_step up Event.Look before h = (kind.Look up ∷ h.0, (up, look_is_step up up refl, h.1), (refl, h.2))
word_step up event before h = h

step_makes : (size : PoolSize) (w : World) (event : Event) (before : List Event) → IsTrue (is_enabled size w event)
    → MakesSteps size before w → MakesSteps size (event ∷ before) (after_event size w event)
step_makes size w event before may h =
    let s = shares size w event in
    let a = allows size w event may in record {
      credits = subst (λ n. CreditsAt size.window (event ∷ before) n) (sym s.credits)
          (credits_step size w.credits event before a.credits h.credits);
      jobs = subst (λ l. JobsAt (event ∷ before) l) (sym s.jobs) (jobs_step w event before a.jobs h.jobs);
      dones = subst (λ l. DonesAt (event ∷ before) l) (sym s.dones) (dones_step size w event before may h.dones);
      lane = subst (λ l. LaneAt (event ∷ before) l) (sym s.lane) (lane_step w event before a.lane h.lane);
      word = subst (λ b. WordAt (event ∷ before) b) (sym s.stop) (word_step w.stop_up event before h.word);
    }

run_makes : (size : PoolSize) (events before : List Event) (u w : World) → IsRun size events u w
    → MakesSteps size before u
    → MakesSteps size (last_first before events) w
run_makes size [] before u w run h = subst (MakesSteps size before) (sym run) h
run_makes size (event ∷ events) before u w run h =
    run_makes size events (event ∷ before) (after_event size u event) w run.1 (step_makes size u event before run.0 h)

-- every run of the pool makes steps that the rules of its queues and of the stop word allow
pub every_run_makes_steps : EveryRunMakesSteps
every_run_makes_steps size events w run =
    run_makes size events [] (opening size) w run record {
      credits = ([], refl, refl);
      jobs = ([], refl, refl);
      dones = ([], refl, [], refl, refl);
      lane = ([], refl, refl);
      word = ([], refl, tt);
    }
