-- In each state before the end a next move is possible, and the next moves in turn lead to the end.
use Rattle.dump_lanes.proofs.Prelude.{◌≡◌, ◌⊎◌, inl, inr, ℕ, zero, suc, ◌+◌, ◌-◌, ◌<◌, ◌≤◌, Bool, true, false, cond, List, [], ◌∷◌, ◌++◌, map, find, length, get_or, Option, Some, sym, refl, ap, ◌∙◌, subst, arith, unwrap_or, range_with_len, and_parts, not-true, cases_Bool, length-range_with_len, get_or-range_with_len, PoolSize, World, Event, is_enabled, after_event, IsRun, is_move, all_moves, next_move, IsAllDone, IsReached, StandsStill, NoDeadEnd, OnlyDoneStandsStill, ClosedKeepsNobody, progress, count_move, most_moves, AreNextMoves, EveryRunCanEnd, ⊎_elim}
use Rattle.std.proofs.Common.{IsTrue}
use Rattle.dump_lanes.proofs.core.FirstEntry.{by_job, by_done, by_piece}
use Rattle.dump_lanes.proofs.core.Credits.{held}
use Rattle.dump_lanes.proofs.core.Progress.{reached_holds, step_counts, progress_within}
use Rattle.dump_lanes.proofs.core.Still.{IsStuck, done_where_stuck, still_where_done, may_take_once_closed}
use Rattle.dump_lanes.proofs.core.Runs.{Holds, step_holds}

-- a move that may come next: each move except a cut, and the last cut
abbrev is_next : Event → Bool
is_next (Event.Cut last) = last
is_next event = is_move event

next_moves : (event : Event) → is_next event ≡ true → is_move event ≡ true
next_moves (Event.Cut last) e = refl
next_moves event e = e

-- each of these events may come next; and none of them passes a test
abbrev AreNext : List Event → Type 0
AreNext [] = Unit {0}
AreNext (event ∷ events) = (is_next event ≡ true) × AreNext events

abbrev NonePass : (Event → Bool) → List Event → Type 0
NonePass test [] = Unit {0}
NonePass test (event ∷ events) = (test event ≡ false) × NonePass test events

next-append : (xs ys : List Event) → AreNext xs → AreNext ys → AreNext (xs ++ ys)
next-append [] ys a b = b
next-append (x ∷ xs) ys a b = (a.0, next-append xs ys a.1 b)

moves_next : (move : ℕ → Event) → ((k : ℕ) → is_next (move k) ≡ true) → (ks : List ℕ) → AreNext (map move ks)
moves_next move each [] = tt
moves_next move each (k ∷ ks) = (each k, moves_next move each ks)

none-append : (test : Event → Bool) (xs ys : List Event) → NonePass test (xs ++ ys)
    → NonePass test xs × NonePass test ys
none-append test [] ys h = (tt, h)
none-append test (x ∷ xs) ys h = let more = none-append test xs ys h.1 in ((h.0, more.0), more.1)

none_at : (test : Event → Bool) (move : ℕ → Event) (ks : List ℕ) (i : ℕ) → NonePass test (map move ks) → i < length ks
    → test (move (get_or ks i 0)) ≡ false
none_at test move [] i h lt = absurd (omega (arith, lt))
none_at test move (k ∷ ks) zero h lt = h.0
none_at test move (k ∷ ks) (suc i) h lt = none_at test move ks i h.1 (omega (arith, lt))

none_below : (test : Event → Bool) (move : ℕ → Event) (n k : ℕ) → NonePass test (map move (range_with_len 0 n))
    → k < n → test (move k) ≡ false
none_below test move n k h lt =
    let place : get_or (range_with_len 0 n) k 0 ≡ k = get_or-range_with_len 0 n k 0 lt ∙ omega arith in
    sym (ap (λ (i : ℕ). test (move i)) place) ∙ none_at test move (range_with_len 0 n) k h
    (omega (arith, lt, length-range_with_len 0 n))

-- the first event that passes, if one does
record IsFound (test : Event → Bool) (events : List Event) (event : Event) : Type 0 where
  first : find test events ≡ Some event
  passes : test event ≡ true
  next : is_next event ≡ true

abbrev FindsOne : (Event → Bool) → List Event → Type 0
FindsOne test events = (event : Event) × IsFound test events event

find_at : (test : Event → Bool) (x : Event) (xs : List Event) → AreNext (x ∷ xs) → (test x ≡ true) ⊎ (test x ≡ false)
    → FindsOne test xs ⊎ NonePass test xs → FindsOne test (x ∷ xs) ⊎ NonePass test (x ∷ xs)
find_at test x xs a (inl e) rest =
    inl (x, record { first = ap (λ (b : Bool). cond b (Some x) (find test xs)) e; passes = e; next = a.0 })
find_at test x xs a (inr e) (inl f) =
    inl (
      f.0,
      record {
        first = ap (λ (b : Bool). cond b (Some x) (find test xs)) e ∙ f.1.first;
        passes = f.1.passes;
        next = f.1.next;
      },
    )
find_at test x xs a (inr e) (inr none) = inr (e, none)

find_first : (test : Event → Bool) (events : List Event) → AreNext events → FindsOne test events ⊎ NonePass test events
find_first test [] a = inr tt
find_first test (x ∷ xs) a = find_at test x xs a (cases_Bool (test x)) (find_first test xs a.1)

-- the next move is possible
record MayMove (size : PoolSize) (w : World) : Type 0 where
  enabled : is_enabled size w (next_move size w) ≡ true
  next : is_next (next_move size w) ≡ true

abbrev front_moves : List Event
front_moves = Event.Give ∷ Event.Write ∷ Event.Arrive ∷ Event.Release ∷ []

abbrev last_moves : List Event
last_moves = Event.CutMark ∷ Event.Cut true ∷ Event.Draw ∷ []

module _ (size : PoolSize) (w : World) where
  abbrev puts : List Event
  puts = map Event.Put (range_with_len 0 size.workers)

  abbrev takes : List Event
  takes = map Event.Take (range_with_len 0 size.workers)

  all_next : AreNext (all_moves size)
  all_next =
      let first : AreNext (front_moves ++ puts) =
      next-append front_moves puts (refl, (refl, (refl, (refl, tt))))
      (moves_next Event.Put (λ k. refl) (range_with_len 0 size.workers)) in
      let second : AreNext (front_moves ++ puts ++ takes) =
      next-append (front_moves ++ puts) takes first
      (moves_next Event.Take (λ k. refl) (range_with_len 0 size.workers)) in
      next-append (front_moves ++ puts ++ takes) last_moves second (refl, (refl, (refl, tt)))

  may_move : FindsOne (is_enabled size w) (all_moves size) → MayMove size w
  may_move f =
      let same : next_move size w ≡ f.0 = ap (λ (o : Option Event). unwrap_or o Event.Draw) f.1.first in record {
        enabled = ap (is_enabled size w) same ∙ f.1.passes;
        next = ap is_next same ∙ f.1.next;
      }

  stuck : NonePass (is_enabled size w) (all_moves size) → IsStuck size w
  stuck h =
      let a = none-append (is_enabled size w) (front_moves ++ puts ++ takes) last_moves h in
      let b = none-append (is_enabled size w) (front_moves ++ puts) takes a.0 in
      let c = none-append (is_enabled size w) front_moves puts b.0 in record {
        no_give = c.0.0;
        no_write = c.0.1.0;
        no_arrive = c.0.1.1.0;
        no_release = c.0.1.1.1.0;
        no_put = λ k lt. none_below (is_enabled size w) Event.Put size.workers k c.1 lt;
        no_take = λ k lt. none_below (is_enabled size w) Event.Take size.workers k b.1 lt;
        no_mark = a.1.0;
        no_cut = a.1.1.0;
        no_draw = a.1.1.1.0;
      }

  done_or_moves : Holds size w → IsAllDone size w ⊎ MayMove size w
  done_or_moves h =
      ⊎_elim (λ (f : FindsOne (is_enabled size w) (all_moves size)). inr (may_move f))
      (λ (none : NonePass (is_enabled size w) (all_moves size)). inl (done_where_stuck size w h (stuck none)))
      (find_first (is_enabled size w) (all_moves size) all_next)

  still_stuck : StandsStill size w → IsStuck size w
  still_stuck s = record {
    no_give = s Event.Give refl;
    no_write = s Event.Write refl;
    no_arrive = s Event.Arrive refl;
    no_release = s Event.Release refl;
    no_put = λ k lt. s (Event.Put k) refl;
    no_take = λ k lt. s (Event.Take k) refl;
    no_mark = s Event.CutMark refl;
    no_cut = s (Event.Cut true) refl;
    no_draw = s Event.Draw refl;
  }

next_or_done : (size : PoolSize) (w : World) → IsReached size w
    → IsAllDone size w ⊎ (IsTrue (is_move (next_move size w)) × IsTrue (is_enabled size w (next_move size w)))
next_or_done size w r =
    ⊎_elim (λ (d : IsAllDone size w). inl d)
    (λ (m : MayMove size w). inr (next_moves (next_move size w) m.next, m.enabled))
    (done_or_moves size w (reached_holds size w r))

-- in each state that a run reaches all is done, or the thread that the state names can make the next move
pub no_dead_end : NoDeadEnd
no_dead_end = record {
  who = λ size w r.
      ⊎_elim (λ (d : IsAllDone size w). inl d)
      (λ (m : IsTrue (is_move (next_move size w)) × IsTrue (is_enabled size w (next_move size w))).
      inr (next_move size w, m.0, m.1, refl)) (next_or_done size w r);
  next = next_or_done;
}

-- no move of a pool is possible exactly if all is done
pub only_done_stands_still : OnlyDoneStandsStill
only_done_stands_still = record {
  done = λ size w r s. done_where_stuck size w (reached_holds size w r) (still_stuck size w s);
  still = λ size w r d. still_where_done size w (reached_holds size w r) d;
}

-- once all end marks are put, a worker with nothing in hand that hasn't its own may take an entry
pub closed_keeps_nobody : ClosedKeepsNobody
closed_keeps_nobody size w worker r = may_take_once_closed size w worker (reached_holds size w r)

-- the largest number of items that are cut if the next cut is the last
abbrev uncut : Bool → ℕ
uncut ended = cond ended 0 1

abbrev limit : World → ℕ
limit w = w.cut + uncut w.cutter_ended

last_cut : (w : World) (last : Bool) → last ≡ true → w.cutter_ended ≡ false → w.cut + 1 + uncut last ≡ limit w
last_cut w last a b =
    let none : uncut last ≡ 0 = ap uncut a in
    let one : uncut w.cutter_ended ≡ 1 = ap uncut b in
    omega arith

limit_kept : (size : PoolSize) (w : World) (event : Event) → is_next event ≡ true → IsTrue (is_enabled size w event)
    → limit (after_event size w event) ≡ limit w
limit_kept size w (Event.Cut last) m e = last_cut w last m (not-true w.cutter_ended (and_parts w.holds_credit _ e).1)
limit_kept size w (Event.Take k) m e =
    by_job (λ v. limit v ≡ limit w) size w k w.jobs refl (λ n rest. refl) (λ rest. refl)
limit_kept size w Event.Arrive m e =
    by_done (λ v. limit v ≡ limit w) size w w.dones refl (λ n rest. refl) (λ rest. refl)
limit_kept size w Event.Write m e = by_piece (λ v. limit v ≡ limit w) size w w.lane refl (λ n rest. refl)
limit_kept size w event m e = cc

-- the next moves up to the end, if at most this many are left
record EndsWithin (size : PoolSize) (w : World) (left : ℕ) : Type 0 where
  events : List Event
  new : World
  next : AreNextMoves size w events
  run : IsRun size events w new
  few : length events ≤ left
  done : IsAllDone size new

limit_bounds : (size : PoolSize) (w : World) → Holds size w → progress w ≤ most_moves (limit w) size
limit_bounds size w h = omega (arith, progress_within size w h)

move_counts : (size : PoolSize) (w : World) → Holds size w → MayMove size w
    → progress (after_event size w (next_move size w)) ≡ progress w + 1
move_counts size w h m =
    let one : count_move (next_move size w) ≡ 1 = ap held (next_moves (next_move size w) m.next) in
    step_counts size w (next_move size w) m.enabled h ∙ ap (λ (n : ℕ). progress w + n) one

after_holds : (size : PoolSize) (w : World) → Holds size w → MayMove size w
    → Holds size (after_event size w (next_move size w))
after_holds size w h m = step_holds size w (next_move size w) m.enabled h

one_more : (size : PoolSize) (w : World) (left : ℕ) → MayMove size w
    → EndsWithin size (after_event size w (next_move size w)) left
    → EndsWithin size w (suc left)
one_more size w left m rest = record {
  events = next_move size w ∷ rest.events;
  new = rest.new;
  next = (refl, rest.next);
  run = (m.enabled, rest.run);
  few = omega (arith, rest.few);
  done = rest.done;
}

too_many : (most old new : ℕ) → new ≡ old + 1 → new ≤ most → most ≤ old + 0 → ⊥
too_many most old new a b c = omega arith

less_left : (most more old new left : ℕ) → more ≡ most → new ≡ old + 1 → most ≤ old + suc left → more ≤ new + left
less_left most more old new left a b c = omega arith

ends_at : (size : PoolSize) (left : ℕ) (w : World) → Holds size w → most_moves (limit w) size ≤ progress w + left
    → IsAllDone size w ⊎ MayMove size w → EndsWithin size w left
ends_at size left w h le (inl d) =
    record { events = []; new = w; next = tt; run = refl; few = omega arith; done = d }
ends_at size zero w h le (inr m) =
    let v : World = after_event size w (next_move size w) in
    let same : limit v ≡ limit w = limit_kept size w (next_move size w) m.next m.enabled in
    let most : most_moves (limit v) size ≡ most_moves (limit w) size = ap (λ (n : ℕ). most_moves n size) same in
    let within : progress v ≤ most_moves (limit v) size = limit_bounds size v (after_holds size w h m) in
    absurd (too_many (most_moves (limit v) size) (progress w) (progress v) (move_counts size w h m) within
    (subst (λ (n : ℕ). n ≤ progress w + 0) (sym most) le))
ends_at size (suc left) w h le (inr m) =
    let v : World = after_event size w (next_move size w) in
    let same : limit v ≡ limit w = limit_kept size w (next_move size w) m.next m.enabled in
    let most : most_moves (limit v) size ≡ most_moves (limit w) size = ap (λ (n : ℕ). most_moves n size) same in
    let held : Holds size v = after_holds size w h m in
    let less : most_moves (limit v) size ≤ progress v + left =
    less_left (most_moves (limit w) size) (most_moves (limit v) size) (progress w) (progress v) left most
    (move_counts size w h m) le in
    one_more size w left m (ends_at size left v held less (done_or_moves size v held))

within_one : (cut : ℕ) (ended : Bool) → cut + uncut ended ≤ cut + 1
within_one cut true = omega arith
within_one cut false = omega arith

limit_most : (w : World) → limit w ≤ w.cut + 1
limit_most w = within_one w.cut w.cutter_ended

all_left : (most old : ℕ) → old ≤ most → most ≤ old + (most - old)
all_left most old le = omega arith

fewer : (size : PoolSize) (old cut more : ℕ) → cut ≤ more → most_moves cut size - old ≤ most_moves more size - old
fewer size old cut more le = omega arith

-- from each state that a run reaches the next moves in turn lead to the end
pub every_run_can_end : EveryRunCanEnd
every_run_can_end size w r =
    let h : Holds size w = reached_holds size w r in
    let left : ℕ = most_moves (limit w) size - progress w in
    let enough : most_moves (limit w) size ≤ progress w + left =
    all_left (most_moves (limit w) size) (progress w) (limit_bounds size w h) in
    let ends : EndsWithin size w left = ends_at size left w h enough (done_or_moves size w h) in record {
      events = ends.events;
      new = ends.new;
      next = ends.next;
      run = ends.run;
      few = omega (arith, ends.few, fewer size (progress w) (limit w) (w.cut + 1) (limit_most w));
      done = ends.done;
    }
