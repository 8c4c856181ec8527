-- No move of a pool is possible exactly if all is done.
use Rattle.dump_lanes.proofs.Prelude.{◌≡◌, ℕ, zero, suc, ◌+◌, ◌<◌, ◌≤◌, ◌%◌, ◌==◌, Bool, true, false, ◌&&◌, cond, nat_lt, List, [], ◌∷◌, ◌++◌, length, get_or, Option, Some, None, is_some, option_to_list, sym, refl, ap, ◌∙◌, arith, true≢false, concat, list_any, range_with_len, and_from, and_cases, and_left, and_right, or_left, or_right, not-false, not_from_true, not_from_false, lt-ltb, le-ltb, ltb-false, cases_Bool, cases_lt, false_from_ne_true, PoolSize, Entry, World, hand_of, slot_of, items_in_hands, items_released, Event, is_enabled, has_next, IsAllDone, StandsStill, marks_in_hands, ⊎_elim, replicate}
use Rattle.std.proofs.Common.{not, IsTrue, is_none, slice_index_or, append-nil}
use Rattle.dump_lanes.specs.PoolWorld.{items_of}
use Rattle.dump_lanes.specs.PoolProgress.{marks}
use Rattle.dump_lanes.proofs.core.Weights.{weigh, only, each, weigh-append, weighs, slot_le, length_is, no_hands, within_range, above_range}
use Rattle.dump_lanes.proofs.core.Marks.{count_taken, no_marks_in_hands, not_all}
use Rattle.dump_lanes.proofs.core.Credits.{held}
use Rattle.dump_lanes.proofs.core.Progress.{Totals, totals, entries_are}
use Rattle.dump_lanes.proofs.core.Runs.{Holds, released_weight, range_each, released_cut}

-- no move that may come next may be made
pub record IsStuck (size : PoolSize) (w : World) : Type 0 where
  pub no_give : is_some w.writing ≡ false
  pub no_write : is_enabled size w Event.Write ≡ false
  pub no_arrive : is_enabled size w Event.Arrive ≡ false
  pub no_release : has_next size w ≡ false
  pub no_put : (k : ℕ) → k < size.workers → is_some (hand_of w k) ≡ false
  pub no_take : (k : ℕ) → k < size.workers → is_enabled size w (Event.Take k) ≡ false
  pub no_mark : is_enabled size w Event.CutMark ≡ false
  pub no_cut : is_enabled size w (Event.Cut true) ≡ false
  pub no_draw : is_enabled size w Event.Draw ≡ false

empty_from : {A : Type 0} (xs : List A) → length xs ≤ 0 → xs ≡ []
empty_from [] le = refl
empty_from (x ∷ xs) le = absurd (omega (arith, le))

none_from : {A : Type 0} (o : Option A) → is_some o ≡ false → o ≡ None
none_from None e = refl
none_from (Some x) e = absurd (true≢false e)

-- hands that hold nothing
bare_hands : (hands : List (Option Entry)) → ((k : ℕ) → k < length hands → is_some (get_or hands k None) ≡ false)
    → hands ≡ replicate (length hands) None
bare_hands [] bare = refl
bare_hands (None ∷ hands) bare = ap (λ l. None ∷ l) (bare_hands hands (λ k lt. bare (suc k) (omega arith)))
bare_hands (Some h ∷ hands) bare = absurd (true≢false (bare zero (omega arith)))

all_taken : (taken : List Bool) → ((k : ℕ) → k < length taken → get_or taken k false ≡ true)
    → count_taken taken ≡ length taken
all_taken [] each_one = refl
all_taken (true ∷ taken) each_one = let more = all_taken taken (λ k lt. each_one (suc k) (omega arith)) in omega arith
all_taken (false ∷ taken) each_one = absurd (true≢false (sym (each_one zero (omega arith))))

none_taken_of : (taken : List Bool) (k : ℕ) → count_taken taken ≤ 0 → get_or taken k false ≡ false
none_taken_of [] k le = refl
none_taken_of (true ∷ taken) k le = absurd (omega (arith, le))
none_taken_of (false ∷ taken) zero le = refl
none_taken_of (false ∷ taken) (suc k) le = none_taken_of taken k (omega (arith, le))

-- a number that weighs something is in one of the slots
abbrev StandsIn : ℕ → List (List ℕ) → Type 0
StandsIn n slots = (i : ℕ) × (0 < weigh (only n) (get_or slots i []))

some_slot : (n : ℕ) (slots : List (List ℕ)) → 0 < weigh (only n) (concat slots) → StandsIn n slots
some_slot n [] here = absurd (omega (arith, here))
some_slot n (s ∷ slots) here =
    ⊎_elim (λ (first : 0 < weigh (only n) s). (zero, first))
    (λ (none : weigh (only n) s ≤ 0).
    let more : 0 < weigh (only n) (concat slots) = omega (arith, here, weigh-append (only n) s (concat slots)) in
    let later : StandsIn n slots = some_slot n slots more in
    (suc later.0, later.1))
    (cases_lt 0 (weigh (only n) s))

-- and is found in its list
found : (n : ℕ) (xs : List ℕ) → 0 < weigh (only n) xs → list_any (λ m. m == n) xs ≡ true
found n [] here = absurd (omega (arith, here))
found n (x ∷ xs) here =
    ⊎_elim (λ (e : (x == n) ≡ true). or_left (x == n) (list_any (λ m. m == n) xs) e)
    (λ (e : (x == n) ≡ false).
    let none : only n x ≡ 0 = ap (λ (b : Bool). cond b 1 0) e in
    or_right (x == n) (list_any (λ m. m == n) xs) (found n xs (omega (arith, here))))
    (cases_Bool (x == n))

-- a worker that hasn't its mark and has nothing in hand may take what is there
may_take_from : (size : PoolSize) (w : World) (k : ℕ) → k < size.workers → hand_of w k ≡ None
    → slice_index_or w.marks_taken k false ≡ false → 0 < length w.jobs → IsTrue (is_enabled size w (Event.Take k))
may_take_from size w k lt bare unmarked some =
    let one : (nat_lt k size.workers && is_none (hand_of w k)) ≡ true =
    and_from (nat_lt k size.workers) _ (lt-ltb k size.workers lt) (ap is_none bare) in
    let mark : not (slice_index_or w.marks_taken k false) ≡ true =
    not_from_false (slice_index_or w.marks_taken k false) unmarked in
    and_from _ (nat_lt 0 (length w.jobs)) (and_from _ (not (slice_index_or w.marks_taken k false)) one mark)
    (lt-ltb 0 (length w.jobs) some)

-- nothing is on its way to the sequencer or the writer, and the next item hasn't arrived
record IsQuiet (size : PoolSize) (w : World) : Type 0 where
  jobs : items_of w.jobs ≡ []
  hands : items_in_hands w.hands ≡ []
  dones : items_of w.dones ≡ []
  lane : w.lane ≡ []
  writing : w.writing ≡ None
  next : has_next size w ≡ false

module _ (size : PoolSize) (w : World) (h : Holds size w) where
  all_written : IsQuiet size w → w.finished ≡ range_with_len 0 w.released
  all_written q =
      let free : (w.finished ++ option_to_list w.writing) ++ w.lane ≡ (w.finished ++ []) ++ w.lane =
      ap (λ (o : Option ℕ). (w.finished ++ option_to_list o) ++ w.lane) q.writing in
      let empty : (w.finished ++ []) ++ w.lane ≡ (w.finished ++ []) ++ [] =
      ap (λ (l : List ℕ). (w.finished ++ []) ++ l) q.lane in
      sym (append-nil w.finished) ∙ (sym (append-nil (w.finished ++ [])) ∙ (sym empty ∙ (sym free ∙ h.in_order)))

  -- the next item would be in its slot
  next_stands : IsQuiet size w → w.released < w.cut → 0 < weigh (only w.released) (concat w.slots)
  next_stands q lt =
      let jobs : weigh (only w.released) (items_of w.jobs) ≡ 0 = ap (weigh (only w.released)) q.jobs in
      let hands : weigh (only w.released) (items_in_hands w.hands) ≡ 0 = ap (weigh (only w.released)) q.hands in
      let dones : weigh (only w.released) (items_of w.dones) ≡ 0 = ap (weigh (only w.released)) q.dones in
      let gone : weigh (only w.released) (items_released w) ≡ 0 =
      ap (weigh (only w.released)) h.in_order ∙ above_range w.released w.released (omega arith) in
      omega (arith, h.once (only w.released), within_range w.released w.cut lt, released_weight (only w.released) w)

  next_waits : IsQuiet size w → w.released < w.cut → has_next size w ≡ true
  next_waits q lt =
      let there : StandsIn w.released w.slots = some_slot w.released w.slots (next_stands q lt) in
      let place : w.released % size.window ≡ there.0 = h.placed there.0 w.released there.1 in
      let same : weigh (only w.released) (slot_of size w w.released) ≡ weigh (only w.released)
      (get_or w.slots there.0 []) =
      ap (λ (i : ℕ). weigh (only w.released) (get_or w.slots i [])) place in
      found w.released (slot_of size w w.released) (omega (arith, same, there.1))

  all_released : IsQuiet size w → w.cut ≡ w.released
  all_released q =
      ⊎_elim (λ (lt : w.released < w.cut). absurd (true≢false (sym (next_waits q lt) ∙ q.next)))
      (λ (le : w.cut ≤ w.released). omega (arith, le, released_cut size w h)) (cases_lt w.released w.cut)

  all_finished : IsQuiet size w → w.finished ≡ range_with_len 0 w.cut
  all_finished q = all_written q ∙ ap (λ (n : ℕ). range_with_len 0 n) (sym (all_released q))

  -- if no move is possible
  module _ (s : IsStuck size w) where
    free : w.writing ≡ None
    free = none_from w.writing s.no_give

    lane : w.lane ≡ []
    lane =
        ⊎_elim (λ (e : nat_lt 0 (length w.lane) ≡ false). empty_from w.lane (ltb-false 0 (length w.lane) e))
        (λ (e : is_none w.writing ≡ false). absurd (true≢false (sym (ap is_none free) ∙ e)))
        (and_cases (nat_lt 0 (length w.lane)) (is_none w.writing) s.no_write)

    dones : w.dones ≡ []
    dones = empty_from w.dones (ltb-false 0 (length w.dones) s.no_arrive)

    each_hand : (k : ℕ) → k < length w.hands → is_some (get_or w.hands k None) ≡ false
    each_hand k lt = s.no_put k (omega (arith, lt, h.sized.each_hand))

    hands : items_in_hands w.hands ≡ []
    hands = ap items_in_hands (bare_hands w.hands each_hand) ∙ no_hands (length w.hands)

    hand_marks : marks_in_hands w.hands ≡ 0
    hand_marks = ap marks_in_hands (bare_hands w.hands each_hand) ∙ no_marks_in_hands (length w.hands)

    quiet : items_of w.jobs ≡ [] → IsQuiet size w
    quiet none = record {
      jobs = none;
      hands = hands;
      dones = ap items_of dones;
      lane = lane;
      writing = free;
      next = s.no_release;
    }

    -- a worker that could take a job has its mark
    took : (k : ℕ) → k < size.workers → 0 < length w.jobs → slice_index_or w.marks_taken k false ≡ true
    took k lt some =
        ⊎_elim (λ (e : slice_index_or w.marks_taken k false ≡ true). e)
        (λ (e : slice_index_or w.marks_taken k false ≡ false).
        let may : IsTrue (is_enabled size w (Event.Take k)) =
        may_take_from size w k lt (none_from (hand_of w k) (s.no_put k lt)) e some in
        absurd (true≢false (sym may ∙ s.no_take k lt)))
        (cases_Bool (slice_index_or w.marks_taken k false))

    all_took : 0 < length w.jobs → count_taken w.marks_taken ≡ size.workers
    all_took some =
        all_taken w.marks_taken (λ k lt. took k (omega (arith, lt, h.sized.each_mark)) some) ∙ h.sized.each_mark

    -- the cutter has ended
    all_put : w.cutter_ended ≡ true → w.marks_put ≡ size.workers
    all_put e =
        let most : size.workers ≤ w.marks_put =
        ⊎_elim (λ (f : w.cutter_ended ≡ false). absurd (true≢false (sym e ∙ f)))
        (λ (f : nat_lt w.marks_put size.workers ≡ false). ltb-false w.marks_put size.workers f)
        (and_cases w.cutter_ended (nat_lt w.marks_put size.workers) s.no_mark) in
        omega (arith, h.ending.0.enough)

    no_job_marks : w.cutter_ended ≡ true → marks w.jobs ≡ 0
    no_job_marks e =
        grind (arith, h.ending.0.in_queue, all_put e, all_took, entries_are w.jobs)

    no_jobs : w.cutter_ended ≡ true → items_of w.jobs ≡ []
    no_jobs e = h.ending.0.no_item (omega (arith, no_job_marks e, all_put e, h.some_worker))

    no_done_marks : marks w.dones ≡ 0
    no_done_marks = ap marks dones

    done_ended : w.cutter_ended ≡ true → IsAllDone size w
    done_ended e = record {
      cutter = e;
      marks = omega
          (arith, h.ending.0.in_queue, h.ending.1.on_the_way, all_put e, no_job_marks e, hand_marks, no_done_marks);
      items = all_finished (quiet (no_jobs e));
    }

    -- the cutter hasn't ended: then it would hold a credit, or could draw one
    not_held : w.cutter_ended ≡ false → w.holds_credit ≡ false
    not_held e =
        ⊎_elim (λ (f : w.holds_credit ≡ false). f)
        (λ (f : not w.cutter_ended ≡ false). absurd (true≢false (sym (not-false w.cutter_ended f) ∙ e)))
        (and_cases w.holds_credit (not w.cutter_ended) s.no_cut)

    no_credit : w.cutter_ended ≡ false → w.credits ≤ 0
    no_credit e =
        let both : (not w.cutter_ended && not w.holds_credit) ≡ true =
        and_from (not w.cutter_ended) (not w.holds_credit) (not_from_false w.cutter_ended e)
        (not_from_false w.holds_credit (not_held e)) in
        ⊎_elim (λ (f : (not w.cutter_ended && not w.holds_credit) ≡ false). absurd (true≢false (sym both ∙ f)))
        (λ (f : nat_lt 0 w.credits ≡ false). ltb-false 0 w.credits f)
        (and_cases (not w.cutter_ended && not w.holds_credit) (nat_lt 0 w.credits) s.no_draw)

    jobs : w.cutter_ended ≡ false → w.jobs ≡ []
    jobs e =
        ⊎_elim (λ (some : 0 < length w.jobs).
        let none : count_taken w.marks_taken ≤ 0 = omega (arith, h.ending.0.in_queue, h.ending.0.after_end e) in
        absurd (true≢false (sym (took 0 h.some_worker some) ∙ none_taken_of w.marks_taken 0 none)))
        (λ (le : length w.jobs ≤ 0). empty_from w.jobs le) (cases_lt 0 (length w.jobs))

    not_ended : w.cutter_ended ≡ false → ⊥
    not_ended e =
        let nowhere : IsQuiet size w = quiet (ap items_of (jobs e)) in
        let all : weigh each w.finished ≡ w.cut = ap (weigh each) (all_finished nowhere) ∙ range_each w.cut in
        let none : held w.holds_credit ≡ 0 = ap held (not_held e) in
        let total : w.credits + held w.holds_credit + w.cut ≡ size.window + weigh each w.finished =
        (totals size w h).flight in
        omega (arith, total, none, all, no_credit e, h.sized.some_slot)

    -- if no move is possible, all is done
    pub done_where_stuck : IsAllDone size w
    done_where_stuck =
        ⊎_elim (λ (e : w.cutter_ended ≡ true). done_ended e) (λ (e : w.cutter_ended ≡ false). absurd (not_ended e))
        (cases_Bool w.cutter_ended)

-- hands without items and marks are empty
hand_empty : (hands : List (Option Entry)) (k : ℕ) → weigh each (items_in_hands hands) + marks_in_hands hands ≤ 0
    → is_some (get_or hands k None) ≡ false
hand_empty [] k le = refl
hand_empty (None ∷ hands) zero le = refl
hand_empty (None ∷ hands) (suc k) le = hand_empty hands k (omega (arith, le))
hand_empty (Some (Entry.Item n) ∷ hands) k le = absurd (omega (arith, le))
hand_empty (Some Entry.Mark ∷ hands) k le = absurd (omega (arith, le))

nothing_in : (o : Option ℕ) → weigh each (option_to_list o) ≤ 0 → is_some o ≡ false
nothing_in None le = refl
nothing_in (Some n) le = absurd (omega (arith, le))

-- if all is done
module _ (size : PoolSize) (w : World) (h : Holds size w) (d : IsAllDone size w) where
  -- all items are finished, and no place holds one
  weighs_none : (f : ℕ → ℕ)
      → weigh f (items_of w.jobs) + weigh f (items_in_hands w.hands) + weigh f (items_of w.dones)
      + weigh f (concat w.slots) + weigh f (option_to_list w.writing) + weigh f w.lane ≡ 0
  weighs_none f = omega (arith, h.once f, ap (weigh f) d.items)

  all : Totals size w
  all = totals size w h

  no_marks_left : marks w.jobs + marks_in_hands w.hands + marks w.dones ≡ 0
  no_marks_left = omega (arith, all.marks, all.put, d.marks)

  all_put_then : w.marks_put ≡ size.workers
  all_put_then = omega (arith, all.marks, all.put, d.marks)

  no_jobs_left : length w.jobs ≤ 0
  no_jobs_left = omega (arith, entries_are w.jobs, weighs_none each, no_marks_left)

  no_dones_left : length w.dones ≤ 0
  no_dones_left = omega (arith, entries_are w.dones, weighs_none each, no_marks_left)

  no_lane_left : length w.lane ≤ 0
  no_lane_left = omega (arith, length_is w.lane, weighs_none each)

  no_next : has_next size w ≡ true → ⊥
  no_next e =
      let here = weighs w.released (slot_of size w w.released) e in
      omega (arith, slot_le, weighs_none (only w.released))

  -- if all is done, no move is possible
  pub still_where_done : StandsStill size w
  still_where_done Event.Draw m =
      and_left (not w.cutter_ended && not w.holds_credit) _
      (and_left (not w.cutter_ended) _ (not_from_true w.cutter_ended d.cutter))
  still_where_done (Event.Cut last) m = and_right w.holds_credit _ (not_from_true w.cutter_ended d.cutter)
  still_where_done Event.CutMark m =
      and_right w.cutter_ended _ (le-ltb w.marks_put size.workers (omega (arith, all_put_then)))
  still_where_done (Event.Take k) m =
      and_right (nat_lt k size.workers && is_none (hand_of w k) && not (slice_index_or w.marks_taken k false)) _
      (le-ltb 0 (length w.jobs) no_jobs_left)
  still_where_done (Event.Put k) m = hand_empty w.hands k (omega (arith, weighs_none each, no_marks_left))
  still_where_done Event.Arrive m = le-ltb 0 (length w.dones) no_dones_left
  still_where_done Event.Release m = false_from_ne_true (has_next size w) no_next
  still_where_done Event.Write m = and_left (nat_lt 0 (length w.lane)) _ (le-ltb 0 (length w.lane) no_lane_left)
  still_where_done Event.Give m = nothing_in w.writing (omega (arith, weighs_none each))
  still_where_done event m = absurd (true≢false (sym m))

-- once all end marks are put, each worker that hasn't its own finds an entry
pub may_take_once_closed : (size : PoolSize) (w : World) (k : ℕ) → Holds size w → w.marks_put ≡ size.workers
    → k < size.workers → hand_of w k ≡ None → slice_index_or w.marks_taken k false ≡ false
    → IsTrue (is_enabled size w (Event.Take k))
may_take_once_closed size w k h put lt bare unmarked =
    let fewer : count_taken w.marks_taken < length w.marks_taken =
    not_all w.marks_taken k (omega (arith, lt, h.sized.each_mark)) unmarked in
    let some : 0 < length w.jobs =
    omega (arith, entries_are w.jobs, h.ending.0.in_queue, put, fewer, h.sized.each_mark) in
    may_take_from size w k lt bare unmarked some
