-- Where the end marks are, after each event; so once all have arrived no item is on its way.
use Rattle.dump_lanes.proofs.Prelude.{◌≡◌, ◌⊎◌, inl, inr, ℕ, ◌+◌, ◌<◌, ◌≤◌, Bool, true, false, List, [], ◌∷◌, ◌++◌, length, get_or, set, Option, Some, None, option_to_list, sym, refl, ap, ◌∙◌, arith, subst, true≢false, and_parts, not-true, ltb-true, cases_eq, cases_Bool, PoolSize, Entry, World, opening, hand_of, items_in_hands, items_on_the_way, Event, is_enabled, after_event, arrived, marks_in_hands}
use Rattle.std.proofs.Common.{IsTrue, get_or-set_same, get_or-set_other, append-nil}
use Rattle.dump_lanes.specs.PoolWorld.{items_of}
use Rattle.dump_lanes.specs.PoolEvents.{taken_by}
use Rattle.dump_lanes.proofs.core.FirstEntry.{by_piece}
use Rattle.dump_lanes.proofs.core.Weights.{items_of-append}
use Rattle.dump_lanes.specs.PoolProgress.{marks}
use Rattle.dump_lanes.proofs.core.Marks.{count_taken, AreItemsFirst, AreMarkedAfter, marks-append, item_joins, mark_joins, closes, none_left, hand_set, taken_set, not_all, no_item_in_hands, no_marks_in_hands, none_taken, get_or_replicate, OwnLast}
use Rattle.dump_lanes.proofs.core.Places.{IsSized, may_take, MayTake, hand_within}

-- the job queue, and the marks that were put and taken
pub record HasJobs (workers : ℕ) (ended : Bool) (put : ℕ) (jobs : List Entry) (taken : List Bool) : Type 0 where
  pub after_end : ended ≡ false → put ≡ 0
  pub enough : put ≤ workers
  pub in_queue : put ≡ marks jobs + count_taken taken
  pub items_first : AreItemsFirst jobs
  pub no_item : marks jobs < put → items_of jobs ≡ []

-- the hands and the done queue, and the marks that were taken and that arrived
pub record HasDones (workers : ℕ) (taken : List Bool) (hands : List (Option Entry)) (dones : List Entry)
    (arrived : ℕ) : Type 0 where
  pub on_the_way : count_taken taken ≡ marks_in_hands hands + marks dones + arrived
  pub own_last : OwnLast taken hands
  pub closed : marks dones + arrived ≡ workers → AreMarkedAfter dones

-- the end marks in the jobs, the hands and the dones are where they may be
abbrev pub IsEnding : PoolSize → World → Type 0
IsEnding size w = HasJobs size.workers w.cutter_ended w.marks_put w.jobs w.marks_taken
    × HasDones size.workers w.marks_taken w.hands w.dones w.marks_arrived

-- the cutter
cut_jobs : (size : PoolSize) (w : World) (last : Bool) → w.cutter_ended ≡ false
    → HasJobs size.workers w.cutter_ended w.marks_put w.jobs w.marks_taken
    → HasJobs size.workers last w.marks_put (w.jobs ++ Entry.Item w.cut ∷ []) w.marks_taken
cut_jobs size w last e h =
    let none : w.marks_put ≡ 0 = h.after_end e in
    record {
      after_end = λ x. none;
      enough = h.enough;
      in_queue = omega (arith, h.in_queue, marks-append);
      items_first = item_joins w.jobs w.cut (omega (arith, h.in_queue));
      no_item = λ lt. absurd (omega (arith, h.in_queue, lt));
    }

mark_jobs : (size : PoolSize) (w : World) → w.cutter_ended ≡ true → w.marks_put < size.workers
    → HasJobs size.workers w.cutter_ended w.marks_put w.jobs w.marks_taken
    → HasJobs size.workers w.cutter_ended (w.marks_put + 1) (w.jobs ++ Entry.Mark ∷ []) w.marks_taken
mark_jobs size w e lt h = record {
  after_end = λ x. absurd (true≢false (sym e ∙ x));
  enough = omega arith;
  in_queue = omega (arith, h.in_queue, marks-append);
  items_first = mark_joins w.jobs h.items_first;
  no_item = λ less. items_of-append w.jobs (Entry.Mark ∷ [])
      ∙ (append-nil (items_of w.jobs) ∙ h.no_item (omega (arith, less, marks-append)));
}

end_jobs : (size : PoolSize) (w : World) (ended : Bool) → w.cutter_ended ≡ false
    → HasJobs size.workers w.cutter_ended w.marks_put w.jobs w.marks_taken
    → HasJobs size.workers ended w.marks_put w.jobs w.marks_taken
end_jobs size w ended e h =
    record { after_end = λ x. h.after_end e; enough = h.enough; in_queue = h.in_queue; items_first = h.items_first; no_item = h.no_item }

-- a worker takes an item
item_taken : {workers put n : ℕ} {ended : Bool} {rest : List Entry} {taken : List Bool}
    → HasJobs workers ended put (Entry.Item n ∷ rest) taken → HasJobs workers ended put rest taken
item_taken {n = n} {rest = rest} h = record {
  after_end = h.after_end;
  enough = h.enough;
  in_queue = h.in_queue;
  items_first = h.items_first;
  no_item = λ lt. let none : n ∷ items_of rest ≡ [] = h.no_item lt in cc;
}

own_at : (hands : List (Option Entry)) (old new : List Bool) (k : ℕ) (hand : Option Entry) → k < length hands
    → OwnLast old hands → (get_or new k false ≡ true → items_of (option_to_list hand) ≡ [])
    → ((j : ℕ) → (j ≡ k → ⊥) → get_or new j false ≡ true → get_or old j false ≡ true)
    → OwnLast new (set hands k hand)
own_at hands old new k hand lt own here others j t = by (cases_eq j k)
  where
    by : (j ≡ k) ⊎ (j ≡ k → ⊥) → items_of (option_to_list (get_or (set hands k hand) j None)) ≡ []
    by (inl e) =
        ap (λ (i : ℕ). items_of (option_to_list (get_or (set hands k hand) i None))) e
        ∙ (ap (λ (o : Option Entry). items_of (option_to_list o)) (get_or-set_same hands k hand None lt)
        ∙ here (ap (λ (i : ℕ). get_or new i false) (sym e) ∙ t))
    by (inr ne) =
        ap (λ (o : Option Entry). items_of (option_to_list o)) (get_or-set_other hands k j hand None ne)
        ∙ own j (others j ne t)

item_in_hand : (size : PoolSize) (w : World) (k n : ℕ) → MayTake size w k → IsSized size w
    → HasDones size.workers w.marks_taken w.hands w.dones w.marks_arrived
    → HasDones size.workers w.marks_taken (set w.hands k (Some (Entry.Item n))) w.dones w.marks_arrived
item_in_hand size w k n may s h =
    let lt : k < length w.hands = omega (arith, s.each_hand, may.within) in
    let free : marks (option_to_list (get_or w.hands k None)) ≡ 0 = ap
    (λ (o : Option Entry). marks (option_to_list o)) may.empty in
    record {
      on_the_way = omega (arith, h.on_the_way, hand_set w.hands k (Some (Entry.Item n)) lt);
      own_last = own_at w.hands w.marks_taken w.marks_taken k (Some (Entry.Item n)) lt h.own_last
          (λ x. absurd (true≢false (sym x ∙ may.unmarked))) (λ j ne t. t);
      closed = h.closed;
    }

no_items : (es : List Entry) → items_of es ≡ [] → AreItemsFirst es
no_items [] e = tt
no_items (Entry.Item n ∷ es) e = absurd (cc)
no_items (Entry.Mark ∷ es) e = e

-- a worker takes its mark
mark_taken : (size : PoolSize) (w : World) (k : ℕ) (rest : List Entry) → MayTake size w k → IsSized size w
    → HasJobs size.workers w.cutter_ended w.marks_put (Entry.Mark ∷ rest) w.marks_taken
    → HasJobs size.workers w.cutter_ended w.marks_put rest (set w.marks_taken k true)
mark_taken size w k rest may s h =
    let lt : k < length w.marks_taken = omega (arith, s.each_mark, may.within) in
    record {
      after_end = h.after_end;
      enough = h.enough;
      in_queue = omega (arith, h.in_queue, taken_set w.marks_taken k lt may.unmarked);
      items_first = no_items rest h.items_first;
      no_item = λ less. h.items_first;
    }

mark_in_hand : (size : PoolSize) (w : World) (k : ℕ) → MayTake size w k → IsSized size w
    → HasDones size.workers w.marks_taken w.hands w.dones w.marks_arrived
    → HasDones size.workers (set w.marks_taken k true) (set w.hands k (Some Entry.Mark)) w.dones w.marks_arrived
mark_in_hand size w k may s h =
    let lt : k < length w.hands = omega (arith, s.each_hand, may.within) in
    let free : marks (option_to_list (get_or w.hands k None)) ≡ 0 = ap
    (λ (o : Option Entry). marks (option_to_list o)) may.empty in
    let one : count_taken (set w.marks_taken k true) ≡ count_taken w.marks_taken + 1 =
    taken_set w.marks_taken k (omega (arith, s.each_mark, may.within)) may.unmarked in
    record {
      on_the_way = omega (arith, h.on_the_way, hand_set w.hands k (Some Entry.Mark) lt);
      own_last = own_at w.hands w.marks_taken (set w.marks_taken k true) k (Some Entry.Mark) lt h.own_last
          (λ x. refl) (λ j ne t. sym (get_or-set_other w.marks_taken k j true false ne) ∙ t);
      closed = h.closed;
    }

take_ending : (size : PoolSize) (w : World) (k : ℕ) (jobs : List Entry) → MayTake size w k → IsSized size w
    → IsEnding size (record w { jobs = jobs }) → IsEnding size (taken_by (record w { jobs = jobs }) k jobs)
take_ending size w k [] may s h = h
take_ending size w k (Entry.Item n ∷ rest) may s h = (item_taken h.0, item_in_hand size w k n may s h.1)
take_ending size w k (Entry.Mark ∷ rest) may s h = (mark_taken size w k rest may s h.0, mark_in_hand size w k may s h.1)

-- a worker passes on what it has: if that is an item, it still has to take its mark
item_closed : (size : PoolSize) (w : World) (k n : ℕ) → hand_of w k ≡ Some (Entry.Item n) → k < length w.hands
    → IsSized size w
    → HasDones size.workers w.marks_taken w.hands w.dones w.marks_arrived
    → (get_or w.marks_taken k false ≡ true) ⊎ (get_or w.marks_taken k false ≡ false)
    → marks w.dones + w.marks_arrived ≡ size.workers → AreMarkedAfter (w.dones ++ Entry.Item n ∷ [])
item_closed size w k n e lt s h (inl t) all =
    let none : items_of (option_to_list (get_or w.hands k None)) ≡ [] = h.own_last k t in
    let one : items_of (option_to_list (get_or w.hands k None)) ≡ n ∷ [] = ap
    (λ (o : Option Entry). items_of (option_to_list o)) e in
    absurd (cc)
item_closed size w k n e lt s h (inr f) all =
    let fewer = not_all w.marks_taken k (omega (arith, s.each_hand, s.each_mark)) f in
    absurd (omega (arith, h.on_the_way, s.each_mark))

put_closed : (size : PoolSize) (w : World) (k : ℕ) (hand : Option Entry) → hand_of w k ≡ hand → k < length w.hands
    → IsSized size w
    → HasDones size.workers w.marks_taken w.hands w.dones w.marks_arrived
    → marks (w.dones ++ option_to_list hand) + w.marks_arrived ≡ size.workers
    → AreMarkedAfter (w.dones ++ option_to_list hand)
put_closed size w k None e lt s h all =
    let same : w.dones ++ [] ≡ w.dones = append-nil w.dones in
    subst AreMarkedAfter (sym same) (h.closed (omega (arith, ap marks same)))
put_closed size w k (Some Entry.Mark) e lt s h all = closes w.dones
put_closed size w k (Some (Entry.Item n)) e lt s h all =
    item_closed size w k n e lt s h (cases_Bool (get_or w.marks_taken k false))
    (omega (arith, marks-append w.dones (Entry.Item n ∷ [])))

put_ending : (size : PoolSize) (w : World) (k : ℕ) → IsTrue (is_enabled size w (Event.Put k)) → IsSized size w
    → HasDones size.workers w.marks_taken w.hands w.dones w.marks_arrived
    → HasDones size.workers w.marks_taken (set w.hands k None) (w.dones ++ option_to_list (hand_of w k)) w.marks_arrived
put_ending size w k e s h =
    let lt : k < length w.hands = hand_within w.hands k e in
    record {
      on_the_way = omega (arith, h.on_the_way, hand_set, marks-append);
      own_last = own_at w.hands w.marks_taken w.marks_taken k None lt h.own_last (λ x. refl) (λ j ne t. t);
      closed = put_closed size w k (hand_of w k) refl lt s h;
    }

-- the sequencer takes a done
arrive_ending : (size : PoolSize) (w : World) (dones : List Entry) → IsEnding size (record w { dones = dones })
    → IsEnding size (arrived size (record w { dones = dones }) dones)
arrive_ending size w [] h = h
arrive_ending size w (Entry.Item n ∷ rest) h =
    (h.0, record { on_the_way = h.1.on_the_way; own_last = h.1.own_last; closed = λ all. (h.1.closed all).1 })
arrive_ending size w (Entry.Mark ∷ rest) h = (
  h.0,
  record {
    on_the_way = omega (arith, h.1.on_the_way);
    own_last = h.1.own_last;
    closed = λ all. h.1.closed (omega arith);
  },
)

-- after an event that may happen the end marks are where they may
pub ending_kept : (size : PoolSize) (w : World) (event : Event) → IsTrue (is_enabled size w event) → IsSized size w
    → IsEnding size w → IsEnding size (after_event size w event)
ending_kept size w (Event.Cut last) e s h =
    (cut_jobs size w last (not-true w.cutter_ended (and_parts w.holds_credit _ e).1) h.0, h.1)
ending_kept size w Event.CutMark e s h =
    let tests = and_parts w.cutter_ended _ e in
    (mark_jobs size w tests.0 (ltb-true w.marks_put size.workers tests.1) h.0, h.1)
ending_kept size w (Event.Take k) e s h = take_ending size w k w.jobs (may_take size w k e) s h
ending_kept size w (Event.Put k) e s h = (h.0, put_ending size w k e s h.1)
ending_kept size w Event.Arrive e s h = arrive_ending size w w.dones h
ending_kept size w Event.Write e s h = by_piece (IsEnding size) size w w.lane h (λ n rest. h)
ending_kept size w Event.Look e s h = (end_jobs size w w.stop_up (not-true w.cutter_ended e) h.0, h.1)
ending_kept size w Event.Shut e s h = (end_jobs size w true (not-true w.cutter_ended e) h.0, h.1)
ending_kept size w event e s h = h

-- at first the end marks are where they may, for none is put
pub ending_first : (size : PoolSize) → 0 < size.workers → IsEnding size (opening size)
ending_first size some_worker = (
  record {
    after_end = λ x. refl;
    enough = omega arith;
    in_queue = omega (arith, none_taken size.workers);
    items_first = tt;
    no_item = λ lt. refl;
  },
  record {
    on_the_way = omega (arith, none_taken size.workers, no_marks_in_hands size.workers);
    own_last = λ k t. absurd (true≢false (sym t ∙ get_or_replicate size.workers k false));
    closed = λ all. tt;
  },
)

-- once each worker's mark has arrived, each item has
pub all_arrived : (size : PoolSize) (w : World) → 0 < size.workers → IsSized size w → IsEnding size w
    → w.marks_arrived ≡ size.workers → items_on_the_way w ≡ []
all_arrived size w some_worker s h all =
    let put : w.marks_put ≡ marks w.jobs + count_taken w.marks_taken = h.0.in_queue in
    let enough : w.marks_put ≤ size.workers = h.0.enough in
    let way : count_taken w.marks_taken ≡ marks_in_hands w.hands + marks w.dones + w.marks_arrived = h.1.on_the_way in
    let jobs : items_of w.jobs ≡ [] = h.0.no_item (omega arith) in
    let hands : items_in_hands w.hands ≡ [] =
    no_item_in_hands w.hands w.marks_taken (omega (arith, s.each_hand, s.each_mark))
    (omega (arith, s.each_mark)) h.1.own_last in
    let dones : items_of w.dones ≡ [] = none_left w.dones (h.1.closed (omega arith)) (omega arith) in
    ap (λ (l : List ℕ). l ++ items_in_hands w.hands ++ items_of w.dones) jobs
    ∙ (ap (λ (l : List ℕ). l ++ items_of w.dones) hands ∙ dones)
