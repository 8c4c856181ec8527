-- Once the stop is raised at most one item is cut, and none once the cutter has ended; and a fact that has settled
-- stays true.
use Rattle.dump_lanes.proofs.Prelude.{◌≡◌, ◌⊎◌, inl, inr, ℕ, ◌+◌, ◌<◌, ◌≤◌, Bool, true, false, ◌&&◌, ◌||◌, cond, List, [], ◌∷◌, ◌++◌, Option, Some, None, option_to_list, sym, refl, ap, ◌∙◌, subst, arith, true≢false, and_parts, not-true, not_from_true, or_right, PoolSize, World, opening, Event, is_enabled, after_event, IsRun, looks_before_draws, AfterAStop, EndedCutsNothing, is_signal, IdleEventsSettle}
use Rattle.std.proofs.Common.{not, IsTrue}
use Rattle.dump_lanes.proofs.core.FirstEntry.{by_job, by_done, by_piece}
use Rattle.dump_lanes.proofs.core.Progress.{totals}
use Rattle.dump_lanes.proofs.core.Weights.{weigh, each}
use Rattle.dump_lanes.proofs.core.Runs.{Holds, run_holds, first_holds}

-- the fact that a stop was seen, that it is raised, or that the cutter has ended
abbrev Flags : Type 0
Flags = Bool × Bool × Bool × Bool

abbrev flags : World → Flags
flags w = (w.sequencer_failed, w.writer_failed, w.stop_up, w.cutter_ended)

-- it stays true
record AreKept (old new : Flags) : Type 0 where
  sequencer : IsTrue old.0 → IsTrue new.0
  writer : IsTrue old.1 → IsTrue new.1
  up : IsTrue old.2 → IsTrue new.2
  ended : IsTrue old.3 → IsTrue new.3

abbrev Stays : World → World → Type 0
Stays old new = AreKept (flags old) (flags new)

same_stays : (w : World) → Stays w w
same_stays w = record { sequencer = λ x. x; writer = λ x. x; up = λ x. x; ended = λ x. x }

-- a cutter that may cut, look or be closed hasn't ended
going : (w : World) → not w.cutter_ended ≡ true → w.cutter_ended ≡ true → ⊥
going w e x = true≢false (sym x ∙ not-true w.cutter_ended e)

step_stays : (size : PoolSize) (w : World) (event : Event) → IsTrue (is_enabled size w event)
    → Stays w (after_event size w event)
step_stays size w (Event.Cut last) e =
    record {
      sequencer = λ x. x;
      writer = λ x. x;
      up = λ x. x;
      ended = λ x. absurd (going w (and_parts w.holds_credit _ e).1 x);
    }
step_stays size w (Event.Take k) e =
    by_job (Stays w) size w k w.jobs (same_stays w) (λ n rest. same_stays w) (λ rest. same_stays w)
step_stays size w Event.Arrive e =
    by_done (Stays w) size w w.dones (same_stays w) (λ n rest. same_stays w) (λ rest. same_stays w)
step_stays size w Event.SequencerNotes e =
    record { sequencer = λ x. refl; writer = λ x. x; up = λ x. x; ended = λ x. x }
step_stays size w Event.WriterNotes e = record { sequencer = λ x. x; writer = λ x. refl; up = λ x. x; ended = λ x. x }
step_stays size w Event.Write e = by_piece (Stays w) size w w.lane (same_stays w) (λ n rest. same_stays w)
step_stays size w Event.SequencerRaises e =
    record { sequencer = λ x. x; writer = λ x. x; up = λ x. refl; ended = λ x. x }
step_stays size w Event.WriterRaises e = record { sequencer = λ x. x; writer = λ x. x; up = λ x. refl; ended = λ x. x }
step_stays size w Event.Look e =
    record { sequencer = λ x. x; writer = λ x. x; up = λ x. x; ended = λ x. absurd (going w e x) }
step_stays size w Event.Shut e = record { sequencer = λ x. x; writer = λ x. x; up = λ x. x; ended = λ x. refl }
step_stays size w event e = same_stays w

run_stays : (size : PoolSize) (events : List Event) (u w : World) → IsRun size events u w → Stays u w
run_stays size [] u w run = subst (λ (v : World). Stays u v) (sym run) (same_stays u)
run_stays size (event ∷ events) u w run =
    let one : Stays u (after_event size u event) = step_stays size u event run.0 in
    let more : Stays (after_event size u event) w = run_stays size events (after_event size u event) w run.1 in record {
      sequencer = λ x. more.sequencer (one.sequencer x);
      writer = λ x. more.writer (one.writer x);
      up = λ x. more.up (one.up x);
      ended = λ x. more.ended (one.ended x);
    }

-- a look or a raise that comes again changes nothing
again : (size : PoolSize) (w new : World) (event : Event) → IsTrue (is_signal event)
    → Stays (after_event size w event) new
    → after_event size new event ≡ new
again size w new Event.SequencerNotes m s =
    ap (λ (b : Bool). record new { sequencer_failed = b }) (sym (s.sequencer refl))
again size w new Event.WriterNotes m s = ap (λ (b : Bool). record new { writer_failed = b }) (sym (s.writer refl))
again size w new Event.SequencerRaises m s = ap (λ (b : Bool). record new { stop_up = b }) (sym (s.up refl))
again size w new Event.WriterRaises m s = ap (λ (b : Bool). record new { stop_up = b }) (sym (s.up refl))
again size w new event m s = absurd (true≢false (sym m))

seen_none : (seen up : Bool) → up ≡ false → (seen || up) ≡ seen
seen_none true up e = refl
seen_none false up e = e

look_idle : (w : World) → w.cutter_ended ≡ false → w.stop_up ≡ false
    → record w { stop_seen = w.stop_seen || w.stop_up; cutter_ended = w.stop_up } ≡ w
look_idle w a b =
    ap (λ (s : Bool). record w { stop_seen = s; cutter_ended = w.stop_up }) (seen_none w.stop_seen w.stop_up b)
    ∙ ap (λ (e : Bool). record w { cutter_ended = e }) (b ∙ sym a)

-- each event that is no move changes something at most once
pub idle_events_settle : IdleEventsSettle
idle_events_settle = record {
  signal = λ size events w new event m run. again size w new event m
      (run_stays size events (after_event size w event) new run);
  idle_look = λ size w e down. look_idle w (not-true w.cutter_ended e) down;
  last_look = λ size w up. up;
  ended = λ size events old new e run.
      let shut : IsTrue new.cutter_ended = (run_stays size events old new run).ended e in
      (not_from_true new.cutter_ended shut, not_from_true new.cutter_ended shut);
}

-- how many items may still be cut under a stop: one where a credit is held, or where the cutter has just looked
abbrev may_cut : Bool → Bool → Bool → ℕ
may_cut ended looked holds = cond ended 0 (cond (looked || holds) 1 0)

may_cut_one : (ended looked holds : Bool) → may_cut ended looked holds ≤ 1
may_cut_one true looked holds = omega arith
may_cut_one false true holds = omega arith
may_cut_one false false true = omega arith
may_cut_one false false false = omega arith

-- whether the cutter has just looked, after an event
abbrev then_looked : Bool → Event → Bool
then_looked looked Event.Draw = false
then_looked looked (Event.Cut last) = false
then_looked looked Event.Look = true
then_looked looked event = looked

looks_on : (looked : Bool) (event : Event) (events : List Event) → IsTrue (looks_before_draws looked (event ∷ events))
    → IsTrue (looks_before_draws (then_looked looked event) events)
looks_on looked Event.Draw events l = (and_parts looked _ l).1
looks_on looked event events l = l

looks_after : (looked : Bool) (before after : List Event) → IsTrue (looks_before_draws looked (before ++ after))
    → (then' : Bool) × IsTrue (looks_before_draws then' after)
looks_after looked [] after l = (looked, l)
looks_after looked (event ∷ before) after l =
    looks_after (then_looked looked event) before after (looks_on looked event (before ++ after) l)

-- the items cut after a state, and those that may still be cut there
abbrev cut_most : Bool → World → ℕ
cut_most looked w = w.cut + may_cut w.cutter_ended looked w.holds_credit

may_one : (ended looked holds : Bool) → ended ≡ false → (looked ≡ true) ⊎ (holds ≡ true)
    → may_cut ended looked holds ≡ 1
may_one ended looked holds e (inl a) =
    ap (λ (b : Bool). may_cut b looked holds) e ∙ ap (λ (b : Bool). may_cut false b holds) a
may_one ended looked holds e (inr a) =
    ap (λ (b : Bool). may_cut b looked holds) e
    ∙ (ap (λ (b : Bool). may_cut false looked b) a ∙ ap (λ (b : Bool). cond {A = ℕ} b 1 0) (or_right looked true refl))

may_none : (ended looked holds : Bool) → ended ≡ true → may_cut ended looked holds ≡ 0
may_none ended looked holds e = ap (λ (b : Bool). may_cut b looked holds) e

cut_none : (last : Bool) → may_cut last false false ≡ 0
cut_none true = refl
cut_none false = refl

both_le : (a b c : ℕ) → a ≤ b → b ≤ c → a ≤ c
both_le a b c x y = omega arith

draw_cuts : (size : PoolSize) (looked : Bool) (w : World) → IsTrue (is_enabled size w Event.Draw) → IsTrue looked
    → cut_most false (after_event size w Event.Draw) ≤ cut_most looked w
draw_cuts size looked w e l =
    let a = (and_parts (not w.cutter_ended && not w.holds_credit) _ e).0 in
    let open' : w.cutter_ended ≡ false = not-true w.cutter_ended (and_parts (not w.cutter_ended) _ a).0 in
    omega (arith, may_one w.cutter_ended looked w.holds_credit open' (inl l), may_cut_one w.cutter_ended false true)

cut_cuts : (size : PoolSize) (looked last : Bool) (w : World) → IsTrue (is_enabled size w (Event.Cut last))
    → cut_most false (after_event size w (Event.Cut last)) ≤ cut_most looked w
cut_cuts size looked last w e =
    let a = and_parts w.holds_credit _ e in
    omega (arith, may_one w.cutter_ended looked w.holds_credit (not-true w.cutter_ended a.1) (inr a.0), cut_none last)

-- after a stop no event raises the number of items that may be cut
step_cuts : (size : PoolSize) (looked : Bool) (w : World) (event : Event) (events : List Event) → IsTrue w.stop_up
    → IsTrue (is_enabled size w event) → IsTrue (looks_before_draws looked (event ∷ events))
    → cut_most (then_looked looked event) (after_event size w event) ≤ cut_most looked w
step_cuts size looked w Event.Draw events up e l = draw_cuts size looked w e (and_parts looked _ l).0
step_cuts size looked w (Event.Cut last) events up e l = cut_cuts size looked last w e
step_cuts size looked w (Event.Take k) events up e l =
    let same : cut_most looked w ≤ cut_most looked w = omega arith in
    by_job (λ v. cut_most looked v ≤ cut_most looked w) size w k w.jobs same (λ n rest. same) (λ rest. same)
step_cuts size looked w Event.Arrive events up e l =
    let same : cut_most looked w ≤ cut_most looked w = omega arith in
    by_done (λ v. cut_most looked v ≤ cut_most looked w) size w w.dones same (λ n rest. same) (λ rest. same)
step_cuts size looked w Event.Write events up e l =
    let same : cut_most looked w ≤ cut_most looked w = omega arith in
    by_piece (λ v. cut_most looked v ≤ cut_most looked w) size w w.lane same (λ n rest. same)
step_cuts size looked w Event.Look events up e l = omega (arith, may_none w.stop_up true w.holds_credit up)
step_cuts size looked w event events up e l = omega arith

run_cuts : (size : PoolSize) (looked : Bool) (events : List Event) (w new : World) → IsTrue w.stop_up
    → IsRun size events w new
    → IsTrue (looks_before_draws looked events) → new.cut ≤ cut_most looked w
run_cuts size looked [] w new up run l = omega (arith, ap (λ (v : World). v.cut) run)
run_cuts size looked (event ∷ events) w new up run l =
    let v : World = after_event size w event in
    let still : IsTrue v.stop_up = (step_stays size w event run.0).up up in
    let step : cut_most (then_looked looked event) v ≤ cut_most looked w =
    step_cuts size looked w event events up run.0 l in
    let more : new.cut ≤ cut_most (then_looked looked event) v =
    run_cuts size (then_looked looked event) events v new still run.1 (looks_on looked event events l) in
    both_le new.cut (cut_most (then_looked looked event) v) (cut_most looked w) more step

-- in a run whose cutter looks before each draw, at most one item is cut once the stop is raised
pub after_a_stop : AfterAStop
after_a_stop size before after w new run up more l =
    let rest = looks_after false before after l in
    omega (arith, run_cuts size rest.0 after w new up more rest.1, may_cut_one w.cutter_ended rest.0 w.holds_credit)

-- once the cutter has ended nothing is cut
step_ended : (size : PoolSize) (w : World) (event : Event) → IsTrue w.cutter_ended → IsTrue (is_enabled size w event)
    → (after_event size w event).cut ≡ w.cut
step_ended size w (Event.Cut last) x e = absurd (going w (and_parts w.holds_credit _ e).1 x)
step_ended size w (Event.Take k) x e =
    by_job (λ v. v.cut ≡ w.cut) size w k w.jobs refl (λ n rest. refl) (λ rest. refl)
step_ended size w Event.Arrive x e = by_done (λ v. v.cut ≡ w.cut) size w w.dones refl (λ n rest. refl) (λ rest. refl)
step_ended size w Event.Write x e = by_piece (λ v. v.cut ≡ w.cut) size w w.lane refl (λ n rest. refl)
step_ended size w event x e = refl

run_ended : (size : PoolSize) (events : List Event) (old new : World) → IsTrue old.cutter_ended
    → IsRun size events old new → new.cut ≡ old.cut
run_ended size [] old new x run = ap (λ (v : World). v.cut) run
run_ended size (event ∷ events) old new x run =
    run_ended size events (after_event size old event) new ((step_stays size old event run.0).ended x) run.1
    ∙ step_ended size old event x run.0

shut_cuts : (size : PoolSize) (events : List Event) (w : World) → IsRun size (Event.Shut ∷ events) (opening size) w
    → w.cut ≡ 0
shut_cuts size events w run = run_ended size events (after_event size (opening size) Event.Shut) w refl run.1

no_piece : (lane : List ℕ) → weigh each lane ≤ 0 → lane ≡ []
no_piece [] le = refl
no_piece (n ∷ lane) le = absurd (omega (arith, le))

no_writing : (o : Option ℕ) → weigh each (option_to_list o) ≤ 0 → o ≡ None
no_writing None le = refl
no_writing (Some n) le = absurd (omega (arith, le))

shut_writes : (size : PoolSize) (events : List Event) (w : World) → 0 < size.workers → 0 < size.window
    → IsRun size (Event.Shut ∷ events) (opening size) w → (w.lane ≡ []) × (w.writing ≡ None)
shut_writes size events w some_worker some_slot run =
    let h : Holds size w =
    run_holds size (Event.Shut ∷ events) (opening size) w run (first_holds size some_worker some_slot) in
    let none : weigh each w.lane + weigh each (option_to_list w.writing) ≡ 0 =
    omega (arith, (totals size w h).items, shut_cuts size events w run) in
    (no_piece w.lane (omega (arith, none)), no_writing w.writing (omega (arith, none)))

-- a pool whose cutter has ended cuts nothing more, and one whose cutter is closed at the beginning never cuts an item
pub ended_cuts_nothing : EndedCutsNothing
ended_cuts_nothing = record { ended = run_ended; shut = shut_cuts; no_writer = shut_writes }
