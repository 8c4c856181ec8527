-- Every run of the pool leads to a sound state.
use Rattle.dump_lanes.proofs.Prelude.{◌≡◌, ℕ, ◌+◌, ◌<◌, ◌≤◌, All, List, [], ◌∷◌, ◌++◌, length, get_or, option_to_list, sym, ap, ◌∙◌, subst, arith, concat, range_with_len, get_or_default, length-replicate, length-range_with_len, PoolSize, Entry, World, opening, items_on_the_way, items_released, all_items, Event, is_enabled, after_event, IsRun, times, count_in_flight, IsSound, EveryRunIsSound, Bool, Option}
use Rattle.std.proofs.Common.{IsTrue, length-set}
use Rattle.dump_lanes.proofs.core.FirstEntry.{by_job, by_done, by_piece}
use Rattle.dump_lanes.proofs.core.Weights.{weigh, only, each, weigh-append, times_is, length_is, slot_le, within_range, above_range}
use Rattle.dump_lanes.proofs.core.Places.{AreSized, IsSized, IsEachOnce, weight, once_kept, once_first}
use Rattle.dump_lanes.proofs.core.Credits.{IsBounded, held, bounded_kept, bounded_first}
use Rattle.dump_lanes.proofs.core.Order.{IsInOrder, order_kept, order_first}
use Rattle.dump_lanes.proofs.core.Slots.{IsPlaced, placed_kept, placed_first, near, is_short}
use Rattle.dump_lanes.proofs.core.Ends.{IsEnding, ending_kept, ending_first, all_arrived}
use Rattle.dump_lanes.proofs.core.Stop.{HasStopCause, stop_kept, stop_first}

-- rows keep their lengths
as_sized : {size : PoolSize} {hands : List (Option Entry)} {marks : List Bool} {slots : List (List ℕ)}
    → length hands ≡ size.workers → length marks ≡ size.workers → length slots ≡ size.window → 0 < size.window
    → AreSized size hands marks slots
as_sized hands marks slots some = record { each_hand = hands; each_mark = marks; each_slot = slots; some_slot = some }

sized_kept : (size : PoolSize) (w : World) (event : Event) → IsSized size w → IsSized size (after_event size w event)
sized_kept size w (Event.Take k) s =
    by_job (IsSized size) size w k w.jobs s
    (λ n rest. as_sized (length-set w.hands k _ ∙ s.each_hand) s.each_mark s.each_slot s.some_slot)
    (λ rest. as_sized (length-set w.hands k _ ∙ s.each_hand) (length-set w.marks_taken k _ ∙ s.each_mark) s.each_slot
    s.some_slot)
sized_kept size w (Event.Put k) s = as_sized (length-set w.hands k _ ∙ s.each_hand) s.each_mark s.each_slot s.some_slot
sized_kept size w Event.Arrive s =
    by_done (IsSized size) size w w.dones s
    (λ n rest. as_sized s.each_hand s.each_mark (length-set w.slots _ _ ∙ s.each_slot) s.some_slot) (λ rest. s)
sized_kept size w Event.Release s = as_sized s.each_hand s.each_mark (length-set w.slots _ _ ∙ s.each_slot) s.some_slot
sized_kept size w Event.Write s = by_piece (IsSized size) size w w.lane s (λ n rest. s)
sized_kept size w event s = s

-- what each event preserves, and so each run
pub record Holds (size : PoolSize) (w : World) : Type 0 where
  pub some_worker : 0 < size.workers
  pub sized : IsSized size w
  pub once : IsEachOnce w
  pub bounded : IsBounded size w
  pub in_order : IsInOrder w
  pub placed : IsPlaced size w
  pub ending : IsEnding size w
  pub stop : HasStopCause w

-- a possible event preserves the facts about a state
pub step_holds : (size : PoolSize) (w : World) (event : Event) → IsTrue (is_enabled size w event) → Holds size w
    → Holds size (after_event size w event)
step_holds size w event e h = record {
  some_worker = h.some_worker;
  sized = sized_kept size w event h.sized;
  once = once_kept size w event e h.sized h.once;
  bounded = bounded_kept size w event e h.bounded;
  in_order = order_kept size w event e h.in_order;
  placed = placed_kept size w event e h.sized h.placed;
  ending = ending_kept size w event e h.sized h.ending;
  stop = stop_kept size w event e h.stop;
}

-- a run preserves the facts about a state
pub run_holds : (size : PoolSize) (events : List Event) (u w : World) → IsRun size events u w → Holds size u
    → Holds size w
run_holds size [] u w run h = subst (Holds size) (sym run) h
run_holds size (event ∷ events) u w run h = run_holds size events (after_event size u event) w run.1
    (step_holds size u event run.0 h)

-- the facts are true at the beginning, if there is a worker and room for an item
pub first_holds : (size : PoolSize) → 0 < size.workers → 0 < size.window → Holds size (opening size)
first_holds size some_worker some_slot = record {
  some_worker = some_worker;
  sized = as_sized (length-replicate size.workers _) (length-replicate size.workers _) (length-replicate size.window _)
      some_slot;
  once = once_first size;
  bounded = bounded_first size;
  in_order = order_first size;
  placed = placed_first size;
  ending = ending_first size some_worker;
  stop = stop_first size;
}

-- the released items weigh what the finished ones, the one being written and those in the lane weigh
pub released_weight : (f : ℕ → ℕ) (w : World) → weigh f (items_released w) ≡ weigh f w.finished + weigh f
    (option_to_list w.writing) + weigh f w.lane
released_weight f w = omega (arith, weigh-append)

all_weight : (f : ℕ → ℕ) (w : World) → weigh f (all_items w) ≡ weight f w
all_weight f w = omega (arith, weigh-append)

flight_weight : (f : ℕ → ℕ) (w : World)
    → weigh f
    (items_on_the_way w ++ concat w.slots ++ w.lane ++ option_to_list w.writing) + weigh f w.finished ≡ weight f w
flight_weight f w = omega (arith, weigh-append)

-- the numbers below n weigh n if each of them weighs one
pub range_each : (n : ℕ) → weigh each (range_with_len 0 n) ≡ n
range_each n = sym (length_is (range_with_len 0 n)) ∙ length-range_with_len 0 n

-- the facts of one state
module _ (size : PoolSize) (w : World) (h : Holds size w) where
  times_weight : (n : ℕ) → times n (all_items w) ≡ weigh (only n) (range_with_len 0 w.cut)
  times_weight n = times_is n (all_items w) ∙ (all_weight (only n) w ∙ h.once (only n))

  released_each : weigh each w.finished + weigh each (option_to_list w.writing) + weigh each w.lane ≡ w.released
  released_each = sym (released_weight each w) ∙ (ap (weigh each) h.in_order ∙ range_each w.released)

  -- no more items are released than are cut
  pub released_cut : w.released ≤ w.cut
  released_cut = omega (arith, released_each, h.once each, range_each w.cut)

  credits : w.credits + held w.holds_credit + count_in_flight w ≡ size.window
  credits = omega (arith, h.bounded, h.once each, range_each w.cut, flight_weight each w, length_is)

  -- what is in a slot is cut, is alone, and was not released
  below_cut : (k m : ℕ) → 0 < weigh (only m) (get_or w.slots k []) → m < w.cut
  below_cut k m here =
      grind (arith, h.once (only m), above_range m w.cut, slot_le (only m) w.slots k)

  once_at : (k m : ℕ) → weigh (only m) (get_or w.slots k []) ≤ 1
  once_at k m =
      grind (arith, h.once (only m), within_range m w.cut, above_range m w.cut, slot_le (only m) w.slots k)

  unreleased : (k m : ℕ) → 0 < weigh (only m) (get_or w.slots k []) → w.released ≤ m
  unreleased k m here =
      let cut : weigh (only m) (range_with_len 0 w.cut) ≡ 1 = within_range m w.cut (below_cut k m here) in
      let released : weigh (only m) (items_released w) ≡ weigh (only m) (range_with_len 0 w.released) =
      ap (weigh (only m)) h.in_order in
      grind (
        arith,
        within_range m w.released,
        h.once (only m),
        released_weight (only m) w,
        slot_le (only m) w.slots k,
      )

  within_window : w.cut ≤ w.released + size.window
  within_window = omega (arith, h.bounded, released_each, length_is w.finished)

  one_item : (k m n : ℕ) → 0 < weigh (only m) (get_or w.slots k []) → 0 < weigh (only n) (get_or w.slots k []) → m ≡ n
  one_item k m n a b =
      near size.window w.released w.cut m n (unreleased k m a) (unreleased k n b) (below_cut k m a)
      (below_cut k n b) within_window (h.placed k m a ∙ sym (h.placed k n b))

  unshared : All (λ slot. length slot ≤ 1) w.slots
  unshared k d lt =
      let short : length (get_or w.slots k []) ≤ 1 = is_short (get_or w.slots k []) (one_item k) (once_at k) in
      omega (arith, ap length (get_or_default w.slots k d [] lt))

  sound : IsSound size w
  sound = record {
    one_place = λ n lt. times_weight n ∙ within_range n w.cut lt;
    no_other = λ n le. times_weight n ∙ above_range n w.cut le;
    credits = credits;
    unshared = unshared;
    released_cut = released_cut;
    in_order = h.in_order;
    all_arrived = all_arrived size w h.some_worker h.sized h.ending;
    seen_up = h.stop.seen_up;
    up_failed = h.stop.up_failed;
  }

-- every run of the pool leads to a sound state
pub every_run_is_sound : EveryRunIsSound
every_run_is_sound size events w some_worker some_slot run =
    sound size w (run_holds size events (opening size) w run (first_holds size some_worker some_slot))
