-- Each move counts, and nothing else does: the state after a run says how many moves the run had.
use Rattle.dump_lanes.proofs.Prelude.{◌≡◌, ℕ, ◌+◌, ◌-◌, ◌*◌, ◌<◌, ◌≤◌, Bool, true, false, nat_lt, List, [], ◌∷◌, length, count_by, Option, Some, None, is_some, option_to_list, sym, refl, ap, ◌∙◌, arith, concat, and_parts, ltb-true, length_push, sum_by-cons, PoolSize, Entry, World, opening, hand_of, items_in_hands, Event, is_enabled, after_event, arrived, written_next, IsRun, is_move, IsReached, marks_in_hands, progress, count_move, most_moves, moves_left, HasRoom, FindsPlace, NeverFull, EveryMoveCounts, NoEndlessWay}
use Rattle.std.proofs.Common.{IsTrue}
use Rattle.dump_lanes.specs.PoolWorld.{items_of}
use Rattle.dump_lanes.specs.PoolEvents.{taken_by}
use Rattle.dump_lanes.specs.PoolProgress.{marks}
use Rattle.dump_lanes.proofs.core.Weights.{weigh, each, weigh-append, weigh_entries, weigh_hand, hands_set, no_hands, no_slots, length_is}
use Rattle.dump_lanes.proofs.core.Marks.{marks-append, hand_set, no_marks_in_hands}
use Rattle.dump_lanes.proofs.core.Places.{IsSized, may_take, hand_within, is_none_from, is_next, arrival_weight, release_weight}
use Rattle.dump_lanes.proofs.core.Credits.{held, one_longer, may_draw, may_cut}
use Rattle.dump_lanes.proofs.core.Runs.{Holds, run_holds, step_holds, first_holds, range_each}

-- the number of moves so far, from the weights of the items
abbrev pub weighed : World → ℕ
weighed w =
    2 * weigh each (items_of w.jobs) + 3 * weigh each (items_in_hands w.hands) + 4 * weigh each (items_of w.dones)
    + 5 * weigh each (concat w.slots) + 6 * weigh each w.lane + 7 * weigh each (option_to_list w.writing)
    + 8 * weigh each w.finished
    + (marks w.jobs + 2 * marks_in_hands w.hands + 3 * marks w.dones + 4 * w.marks_arrived) + held w.holds_credit

pub progress_is : (w : World) → progress w ≡ weighed w
progress_is w = omega (arith, length_is)

-- an option with something in it weighs one
one_in : (o : Option ℕ) → is_some o ≡ true → weigh each (option_to_list o) ≡ 1
one_in None e = cc
one_in (Some n) e = omega arith

one_in_hand : (o : Option Entry) → is_some o ≡ true → weigh_hand each o + marks (option_to_list o) ≡ 1
one_in_hand None e = cc
one_in_hand (Some (Entry.Item n)) e = omega arith
one_in_hand (Some Entry.Mark) e = omega arith

take_counts : (w : World) (k : ℕ) (jobs : List Entry) → 0 < length jobs → k < length w.hands → hand_of w k ≡ None
    → weighed (taken_by (record w { jobs = jobs }) k jobs) ≡ weighed (record w { jobs = jobs }) + 1
take_counts w k [] some lt free = absurd (omega (arith, some))
take_counts w k (Entry.Item n ∷ rest) some lt free =
    let bare : marks (option_to_list (hand_of w k)) ≡ 0 = ap (λ (o : Option Entry). marks (option_to_list o)) free in
    omega (arith, ap (weigh_hand each) free, hands_set, hand_set)
take_counts w k (Entry.Mark ∷ rest) some lt free =
    let bare : marks (option_to_list (hand_of w k)) ≡ 0 = ap (λ (o : Option Entry). marks (option_to_list o)) free in
    omega (arith, ap (weigh_hand each) free, hands_set, hand_set)

arrive_counts : (size : PoolSize) (w : World) (dones : List Entry) → 0 < length dones → IsSized size w
    → weighed (arrived size (record w { dones = dones }) dones) ≡ weighed (record w { dones = dones }) + 1
arrive_counts size w [] some s = absurd (omega (arith, some))
arrive_counts size w (Entry.Item n ∷ rest) some s = omega (arith, arrival_weight each size w n s)
arrive_counts size w (Entry.Mark ∷ rest) some s = omega arith

write_counts : (w : World) (lane : List ℕ) → 0 < length lane → w.writing ≡ None
    → weighed (written_next (record w { lane = lane }) lane) ≡ weighed (record w { lane = lane }) + 1
write_counts w [] some free = absurd (omega (arith, some))
write_counts w (n ∷ rest) some free = omega (arith, ap (λ (o : Option ℕ). weigh each (option_to_list o)) free)

-- each event
step_weighs : (size : PoolSize) (w : World) (event : Event) → IsTrue (is_enabled size w event) → Holds size w
    → weighed (after_event size w event) ≡ weighed w + count_move event
step_weighs size w Event.Draw e h = let may = may_draw size w e in omega arith
step_weighs size w (Event.Cut last) e h =
    let one = may_cut size w last e in
    omega (arith, weigh_entries, marks-append)
step_weighs size w Event.CutMark e h = omega (arith, weigh_entries, marks-append)
step_weighs size w (Event.Take k) e h =
    let may = may_take size w k e in
    take_counts w k w.jobs (ltb-true 0 (length w.jobs) (and_parts _ (nat_lt 0 (length w.jobs)) e).1)
    (omega (arith, may.within, h.sized.each_hand)) may.empty
step_weighs size w (Event.Put k) e h =
    let lt : k < length w.hands = hand_within w.hands k e in
    let one : weigh_hand each (hand_of w k) + marks (option_to_list (hand_of w k)) ≡ 1 = one_in_hand (hand_of w k) e in
    omega (arith, weigh_entries, marks-append, hands_set, hand_set)
step_weighs size w Event.Arrive e h = arrive_counts size w w.dones (ltb-true 0 (length w.dones) e) h.sized
step_weighs size w Event.Release e h =
    omega (arith, release_weight each size w (is_next size w h.once e) h.sized, weigh-append)
step_weighs size w Event.Write e h =
    let tests = and_parts (nat_lt 0 (length w.lane)) _ e in
    write_counts w w.lane (ltb-true 0 (length w.lane) tests.0) (is_none_from w.writing tests.1)
step_weighs size w Event.Give e h = omega (arith, weigh-append, one_in w.writing e)
step_weighs size w event e h = omega arith

-- a move adds one to the number of moves, and another event adds none
pub step_counts : (size : PoolSize) (w : World) (event : Event) → IsTrue (is_enabled size w event) → Holds size w
    → progress (after_event size w event) ≡ progress w + count_move event
step_counts size w event e h =
    let new : progress (after_event size w event) ≡ weighed (after_event size w event) =
    progress_is (after_event size w event) in
    let step : weighed (after_event size w event) ≡ weighed w + count_move event = step_weighs size w event e h in
    new ∙ (step ∙ ap (λ (n : ℕ). n + count_move event) (sym (progress_is w)))

count_cons : (event : Event) (events : List Event)
    → count_by is_move (event ∷ events) ≡ count_move event + count_by is_move events
count_cons event events = sum_by-cons count_move event events

more_counts : (all one rest u v w : ℕ) → all ≡ one + rest → v ≡ u + one → rest + v ≡ w → all + u ≡ w
more_counts all one rest u v w a b c = omega arith

run_counts : (size : PoolSize) (events : List Event) (u w : World) → IsRun size events u w → Holds size u
    → count_by is_move events + progress u ≡ progress w
run_counts size [] u w run h =
    let same : progress w ≡ progress u = ap progress run in
    let none : count_by is_move [] ≡ 0 = refl in
    ap (λ (n : ℕ). n + progress u) none ∙ (omega arith ∙ sym same)
run_counts size (event ∷ events) u w run h =
    let v : World = after_event size u event in
    let more : count_by is_move events + progress v ≡ progress w =
    run_counts size events v w run.1 (step_holds size u event run.0 h) in
    let step : progress v ≡ progress u + count_move event = step_counts size u event run.0 h in
    more_counts (count_by is_move (event ∷ events)) (count_move event) (count_by is_move events) (progress u)
    (progress v) (progress w) (count_cons event events) step more

-- the state that a run leads to
pub reached_holds : (size : PoolSize) (w : World) → IsReached size w → Holds size w
reached_holds size w r = run_holds size r.events (opening size) w r.run (first_holds size r.some_worker r.some_slot)

none_behind : (size : PoolSize) → progress (opening size) ≡ 0
none_behind size =
    let hands = ap (weigh each) (no_hands size.workers) in
    let slots = ap (weigh each) (no_slots size.window) in
    omega (arith, progress_is (opening size), no_marks_in_hands size.workers)

counts_all : (size : PoolSize) (events : List Event) (w : World) → 0 < size.workers → 0 < size.window
    → IsRun size events (opening size) w → count_by is_move events ≡ progress w
counts_all size events w some_worker some_slot run =
    let h = first_holds size some_worker some_slot in
    omega (arith, none_behind size, run_counts size events (opening size) w run h)

-- the state after a run says how many moves the run had
pub every_move_counts : EveryMoveCounts
every_move_counts = record {
  of_run = counts_all;
  of_event = λ size w event r e. step_counts size w event e (reached_holds size w r);
}

-- how many entries are in a list
pub entries_are : (es : List Entry) → length es ≡ weigh each (items_of es) + marks es
entries_are [] = omega arith
entries_are (Entry.Item n ∷ es) = let more = entries_are es in omega arith
entries_are (Entry.Mark ∷ es) = let more = entries_are es in omega arith

held_one : (b : Bool) → held b ≤ 1
held_one true = omega arith
held_one false = omega arith

-- the items and the end marks of a state, all together
pub record Totals (size : PoolSize) (w : World) : Type 0 where
  pub items : weigh each (items_of w.jobs) + weigh each (items_in_hands w.hands) + weigh each (items_of w.dones)
      + weigh each (concat w.slots) + weigh each w.finished + weigh each (option_to_list w.writing)
      + weigh each w.lane ≡ w.cut
  pub flight : w.credits + held w.holds_credit + w.cut ≡ size.window + weigh each w.finished
  pub marks : marks w.jobs + marks_in_hands w.hands + marks w.dones + w.marks_arrived ≡ w.marks_put
  pub put : w.marks_put ≤ size.workers

-- the items in all places are as many as are cut, and the end marks as many as were put
pub totals : (size : PoolSize) (w : World) → Holds size w → Totals size w
totals size w h = record {
  items = h.once each ∙ range_each w.cut;
  flight = h.bounded ∙ ap (λ (n : ℕ). size.window + n) (length_is w.finished);
  marks = omega (arith, h.ending.0.in_queue, h.ending.1.on_the_way);
  put = h.ending.0.enough;
}

has_room : (size : PoolSize) (w : World) → Holds size w → HasRoom size w
has_room size w h =
    let t = totals size w h in record {
      jobs = omega (arith, t.items, t.flight, t.marks, t.put, entries_are w.jobs);
      dones = omega (arith, t.items, t.flight, t.marks, t.put, entries_are w.dones);
      lane = omega (arith, t.items, t.flight, length_is w.lane);
      credits = omega (arith, t.items, t.flight);
    }

-- the state after a put has room for what was put
has_place : (size : PoolSize) (w : World) (event : Event) → IsTrue (is_enabled size w event)
    → HasRoom size (after_event size w event) → FindsPlace size w event
has_place size w (Event.Cut last) e r = omega (arith, r.jobs, length_push w.jobs (Entry.Item w.cut))
has_place size w Event.CutMark e r = omega (arith, r.jobs, length_push w.jobs Entry.Mark)
has_place size w (Event.Put k) e r = omega (arith, r.dones, one_longer w.dones (hand_of w k) e)
has_place size w Event.Release e r = omega (arith, r.lane, length_push w.lane w.released)
has_place size w Event.Give e r = omega (arith, r.credits)
has_place size w event e r = tt

-- in each state that a run reaches no queue holds more than there is room for
pub never_full : NeverFull
never_full = record {
  room = λ size w r. has_room size w (reached_holds size w r);
  place = λ size w event r e. has_place size w event e
      (has_room size (after_event size w event) (step_holds size w event e (reached_holds size w r)));
}

-- there are no more moves than the items and end marks of the state can make
pub progress_within : (size : PoolSize) (w : World) → Holds size w → progress w ≤ most_moves w.cut size
progress_within size w h =
    let t = totals size w h in
    omega (arith, progress_is w, t.items, t.marks, t.put, held_one w.holds_credit)

within_more : (size : PoolSize) (w : World) (cut : ℕ) → Holds size w → w.cut ≤ cut → progress w ≤ most_moves cut size
within_more size w cut h le = omega (arith, progress_within size w h)

counts_within : (size : PoolSize) (events : List Event) (w : World) (cut : ℕ) → 0 < size.workers → 0 < size.window
    → IsRun size events (opening size) w → w.cut ≤ cut → count_by is_move events ≤ most_moves cut size
counts_within size events w cut some_worker some_slot run le =
    let h = run_holds size events (opening size) w run (first_holds size some_worker some_slot) in
    omega (arith, counts_all size events w some_worker some_slot run, within_more size w cut h le)

fewer_left : (most old new one : ℕ) → new ≡ old + one → new ≤ most → most - old ≡ most - new + one
fewer_left most old new one a b = omega arith

falls : (size : PoolSize) (w : World) (event : Event) (cut : ℕ) → IsReached size w → IsTrue (is_enabled size w event)
    → (after_event size w event).cut ≤ cut
    → moves_left cut size w ≡ moves_left cut size (after_event size w event) + count_move event
falls size w event cut r e le =
    let h : Holds size w = reached_holds size w r in
    fewer_left (most_moves cut size) (progress w) (progress (after_event size w event)) (count_move event)
    (step_counts size w event e h) (within_more size (after_event size w event) cut (step_holds size w event e h) le)

-- no run is endless unless items are cut for ever
pub no_endless_way : NoEndlessWay
no_endless_way = record {
  within = λ size w r. progress_within size w (reached_holds size w r);
  most = counts_within;
  falls = falls;
}
