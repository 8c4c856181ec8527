-- Each item that is cut is in one place, after each event.
use Rattle.dump_lanes.proofs.Prelude.{◌≡◌, ℕ, zero, suc, ◌+◌, ◌<◌, ◌≤◌, ◌%◌, Bool, true, false, nat_lt, List, [], ◌∷◌, ◌++◌, length, get_or, Option, Some, None, is_some, option_to_list, refl, ap, arith, concat, range_with_len, and_parts, not-true, ltb-true, PoolSize, Entry, World, opening, hand_of, slot_of, items_in_hands, Event, is_enabled, after_event, arrived, written_next, has_next, set}
use Rattle.std.proofs.Common.{not, IsTrue, is_none, slice_index_or, mod-lt}
use Rattle.dump_lanes.specs.PoolWorld.{items_of}
use Rattle.dump_lanes.specs.PoolEvents.{taken_by}
use Rattle.dump_lanes.proofs.core.Weights.{weigh, only, without, weigh-append, weigh_entries, weigh_hand, hands_set, no_hands, slots_set, slot_le, no_slots, weighs, without_one, weigh_range, within_range, above_range}

-- rows with a place for each worker, and a slot for each item that the window admits
pub record AreSized (size : PoolSize) (hands : List (Option Entry)) (marks : List Bool)
    (slots : List (List ℕ)) : Type 0 where
  pub each_hand : length hands ≡ size.workers
  pub each_mark : length marks ≡ size.workers
  pub each_slot : length slots ≡ size.window
  pub some_slot : 0 < size.window

-- the rows of a state have a place for each worker and for each item that the window admits
abbrev pub IsSized : PoolSize → World → Type 0
IsSized size w = AreSized size w.hands w.marks_taken w.slots

-- what the items of a state weigh, in all places
abbrev pub weight : (ℕ → ℕ) → World → ℕ
weight f w = weigh f (items_of w.jobs) + weigh f (items_in_hands w.hands) + weigh f (items_of w.dones) + weigh f
    (concat w.slots)
    + weigh f w.finished + weigh f (option_to_list w.writing) + weigh f w.lane

-- the items of a state are those that are cut
abbrev pub IsEachOnce : World → Type 0
IsEachOnce w = (f : ℕ → ℕ) → weight f w ≡ weigh f (range_with_len 0 w.cut)

-- if an option passes the test for nothing, there is nothing in it
pub is_none_from : {A : Type 0} (o : Option A) → is_none o ≡ true → o ≡ None
is_none_from None e = refl
is_none_from (Some x) e = cc

-- what a worker that may take a job is
pub record MayTake (size : PoolSize) (w : World) (k : ℕ) : Type 0 where
  pub within : k < size.workers
  pub empty : hand_of w k ≡ None
  pub unmarked : slice_index_or w.marks_taken k false ≡ false

-- where a worker may take a job, it is one of the pool's, has nothing in hand, and hasn't taken its end mark
pub may_take : (size : PoolSize) (w : World) (k : ℕ) → IsTrue (is_enabled size w (Event.Take k)) → MayTake size w k
may_take size w k e =
    let a = and_parts _ (nat_lt 0 (length w.jobs)) e in
    let b = and_parts _ (not (slice_index_or w.marks_taken k false)) a.0 in
    let c = and_parts (nat_lt k size.workers) _ b.0 in
    record {
      within = ltb-true k size.workers c.0;
      empty = is_none_from (hand_of w k) c.1;
      unmarked = not-true (slice_index_or w.marks_taken k false) b.1;
    }

-- only a worker of the pool holds something in its hand
pub hand_within : (hands : List (Option Entry)) (k : ℕ) → is_some (get_or hands k None) ≡ true → k < length hands
hand_within [] k e = cc
hand_within (h ∷ hands) zero e = omega arith
hand_within (h ∷ hands) (suc k) e = let more = hand_within hands k e in omega arith

take_once : (w : World) (k : ℕ) (jobs : List Entry) → k < length w.hands → hand_of w k ≡ None
    → IsEachOnce (record w { jobs = jobs }) → IsEachOnce (taken_by (record w { jobs = jobs }) k jobs)
take_once w k [] lt free h f = h f
take_once w k (Entry.Item n ∷ rest) lt free h f =
    omega (arith, h f, ap (weigh_hand f) free, hands_set f w.hands k (Some (Entry.Item n)) lt)
take_once w k (Entry.Mark ∷ rest) lt free h f =
    omega (arith, h f, ap (weigh_hand f) free, hands_set f w.hands k (Some Entry.Mark) lt)

-- the slot of a number is one of the state's
pub slot_within : (size : PoolSize) (w : World) (n : ℕ) → IsSized size w → n % size.window < length w.slots
slot_within size w n s = omega (arith, s.each_slot, mod-lt n s.some_slot)

-- after an item arrives, the weight of the slots rises by that of the item
pub arrival_weight : (f : ℕ → ℕ) (size : PoolSize) (w : World) (n : ℕ) → IsSized size w
    → weigh f (concat (set w.slots (n % size.window) (slot_of size w n ++ n ∷ []))) ≡ weigh f (concat w.slots) + f n
arrival_weight f size w n s = let lt = slot_within size w n s in omega (arith, slots_set, weigh-append)

arrive_once : (size : PoolSize) (w : World) (dones : List Entry) → IsSized size w
    → IsEachOnce (record w { dones = dones }) → IsEachOnce (arrived size (record w { dones = dones }) dones)
arrive_once size w [] s h f = h f
arrive_once size w (Entry.Item n ∷ rest) s h f = omega (arith, h f, arrival_weight f size w n s)
arrive_once size w (Entry.Mark ∷ rest) s h f = omega (arith, h f)

write_once : (w : World) (lane : List ℕ) → w.writing ≡ None → IsEachOnce (record w { lane = lane })
    → IsEachOnce (written_next (record w { lane = lane }) lane)
write_once w [] free h f = h f
write_once w (n ∷ rest) free h f = omega (arith, h f, ap (λ (o : Option ℕ). weigh f (option_to_list o)) free)

-- the next item is cut, and is in its slot once
pub record IsNext (size : PoolSize) (w : World) : Type 0 where
  pub below : w.released < w.cut
  pub single : weigh (only w.released) (slot_of size w w.released) ≡ 1

-- where the sequencer finds the next item, that item is cut and is in its slot once
pub is_next : (size : PoolSize) (w : World) → IsEachOnce w → IsTrue (has_next size w) → IsNext size w
is_next size w h e =
    let here = weighs w.released (slot_of size w w.released) e in
    let all : weigh (only w.released) (slot_of size w w.released) ≤ weigh (only w.released) (range_with_len 0 w.cut) =
    omega (arith, h (only w.released), slot_le (only w.released) w.slots (w.released % size.window)) in
    let below : w.released < w.cut = grind (arith, above_range w.released w.cut) in
    record { below = below; single = omega (arith, within_range w.released w.cut below) }

-- after the next item is released, the weight of the slots falls by that of the item
pub release_weight : (f : ℕ → ℕ) (size : PoolSize) (w : World) → IsNext size w → IsSized size w
    → weigh f (concat (set w.slots (w.released % size.window) (without w.released (slot_of size w w.released)))) + f
    w.released ≡ weigh f (concat w.slots)
release_weight f size w next s =
    let lt = slot_within size w w.released s in
    omega (arith, slots_set, without_one f w.released (slot_of size w w.released) next.single)

-- each event
pub once_kept : (size : PoolSize) (w : World) (event : Event) → IsTrue (is_enabled size w event) → IsSized size w
    → IsEachOnce w → IsEachOnce (after_event size w event)
once_kept size w (Event.Cut last) e s h =
    λ f. omega (arith, h f, weigh_entries f w.jobs (Entry.Item w.cut ∷ []), weigh_range f w.cut)
once_kept size w Event.CutMark e s h = λ f. omega (arith, h f, weigh_entries f w.jobs (Entry.Mark ∷ []))
once_kept size w (Event.Take k) e s h =
    let may = may_take size w k e in take_once w k w.jobs (omega (arith, may.within, s.each_hand)) may.empty h
once_kept size w (Event.Put k) e s h =
    λ f. omega (arith, h f, weigh_entries, hands_set f w.hands k None (hand_within w.hands k e))
once_kept size w Event.Arrive e s h = arrive_once size w w.dones s h
once_kept size w Event.Release e s h =
    λ f. omega (arith, h f, release_weight f size w (is_next size w h e) s, weigh-append f w.lane (w.released ∷ []))
once_kept size w Event.Write e s h =
    write_once w w.lane (is_none_from w.writing (and_parts (nat_lt 0 (length w.lane)) _ e).1) h
once_kept size w Event.Give e s h = λ f. omega (arith, h f, weigh-append f w.finished (option_to_list w.writing))
once_kept size w event e s h = h

-- at first the items of the state are those that are cut, which are none
pub once_first : (size : PoolSize) → IsEachOnce (opening size)
once_first size f =
    omega (arith, ap (weigh f) (no_hands size.workers), ap (weigh f) (no_slots size.window))
