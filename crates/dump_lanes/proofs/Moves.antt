-- Each move on a lane's channel obeys its rule.
use Rattle.dump_lanes.proofs.Prelude.{◌≡◌, ◌≢◌, ◌<◌, zero, suc, ℕ, Bool, true, false, true≢false, inl, inr, List, [], ◌∷◌, ◌++◌, length, cond, sym, refl, ap, ◌∙◌, subst, arith, lt-ltb, View, Mark, Item, End, Move, Step, Thread, thread_of, event_of, all_put, is_thread, steps_of, after_put, after_take, lane_part, receiver_first, sender_crew, item_step, item_steps, IsInOrder}
use Rattle.std.proofs.lemmas.List.{append-nil}
use Rattle.crossbeam_channel.specs.Fifo.{Pushes, Pops}
use Rattle.dump_lanes.specs.declared.steps.Move.TheVariants as move
use Rattle.dump_lanes.specs.steps.LaneMarks.{items_of}
use Rattle.dump_lanes.specs.PartSteps.{IsStep, AreSteps, all_taken}
use Rattle.dump_lanes.specs.steps.QueueRule.{KnowsSteps}
use Rattle.dump_lanes.specs.LaneRule.{put_by, taken_by}
use Rattle.dump_lanes.specs.steps.LaneQueue.{put_step, take_step}
use Rattle.dump_lanes.proofs.MarkLists.{items_of-then_item, items_of-then_end}
use Rattle.dump_lanes.proofs.PartMoves.{worker_number, other_thread, in_order}
use Rattle.dump_lanes.proofs.QueueSteps as queue
use Rattle.dump_lanes.proofs.QueueSteps.{AreApart}

receiver_not_sender : (k : ℕ) → receiver_first k ≢ Thread.Sequencer
receiver_not_sender zero = other_thread Thread.Writer Thread.Sequencer refl
receiver_not_sender (suc k) = other_thread (Thread.Worker k) Thread.Sequencer refl

receivers_differ : (j k : ℕ) → j ≢ k → receiver_first j ≢ receiver_first k
receivers_differ zero zero ne = absurd (ne refl)
receivers_differ zero (suc k) ne = other_thread Thread.Writer (Thread.Worker k) refl
receivers_differ (suc j) zero ne = other_thread (Thread.Worker j) Thread.Writer refl
receivers_differ (suc j) (suc k) ne = λ e. ne (ap suc (worker_number e))

-- the threads that use a lane are different
pub sender_apart : AreApart sender_crew
sender_apart = record { leader = receiver_not_sender; others = receivers_differ }

module _ {T : Type 0} where
  -- the sequencer's step, which puts a piece into the lane
  abbrev pub release : T → Step T
  release x = record { event = move.Release; entry = x }

  -- the writer's step, which takes a piece from the lane
  abbrev pub write : T → Step T
  write x = record { event = move.Write; entry = x }

  -- the sender's step, and the receiver's, belongs to its event
  pub release_is_step : (x : T) (items : List T) → IsStep lane_part items (release x) (items ++ x ∷ [])
  release_is_step x items = record { one_entry = refl; allowed = refl; share = refl; in_turn = refl }

  -- the writer's step takes the first piece of the lane
  pub write_is_step : (x : T) (items : List T) → IsStep lane_part (x ∷ items) (write x) items
  write_is_step x items = record {
    one_entry = refl;
    allowed = lt-ltb 0 (length (x ∷ items)) (omega arith);
    share = refl;
    in_turn = ap (λ l. x ∷ l) (append-nil items);
  }

module _ {T : Type 0} where
  -- the sender puts a mark
  pub sends : (n pass : ℕ) (v : View (Mark T)) (x : Mark T) → v.leads ≡ true
      → Pushes IsInOrder n pass v x (λ w. w ≡ after_put v (put_step x))
  sends n pass v x leads = queue.puts lane_part sender_crew sender_apart n pass v (put_step x)
      (inl (leads, refl)) (release_is_step x) refl refl

  -- the receiver takes a mark
  pub gets : (pass : ℕ) (v : View (Mark T)) → v.leads ≡ false → 0 < v.parts → v.from ≡ 0
      → Pops IsInOrder pass v (λ x w. w ≡ after_take v (take_step x))
  gets pass v follows parted first = queue.takes lane_part sender_crew sender_apart pass v take_step
      (λ x. inr (follows, parted, ap receiver_first (sym first))) write_is_step (λ x. refl) (λ x. refl)

  -- the items of a history of marks have a history
  pub record HaveItemSteps (happened : List (Step (Mark T))) (items : List (Mark T)) : Type 0 where
    pub steps : AreSteps lane_part (item_steps happened) (items_of items)
    pub put_is : items_of (all_put lane_part happened) ≡ all_put lane_part (item_steps happened)
    pub taken_is : items_of (all_taken lane_part happened) ≡ all_taken lane_part (item_steps happened)

  no_mark : {A : Type 0} (x : Mark T) → [] ≡ x ∷ [] → A
  no_mark x e = absurd (let l = ap length e in omega arith)

  one_more : (m : Move) (x : Mark T) (before : List (Step (Mark T))) (held items : List (Mark T))
      → put_by (event_of m) x ++ taken_by (event_of m) x ≡ x ∷ []
      → held ++ put_by (event_of m) x ≡ taken_by (event_of m) x ++ items
      → HaveItemSteps before held → HaveItemSteps (record { event = m; entry = x } ∷ before) items
  one_more move.Release (Item x) before held items one turn h = record {
    steps = (
      items_of held,
      subst (IsStep lane_part (items_of held) (release x)) (sym (items_of-then_item held x) ∙ ap items_of turn)
          (release_is_step x (items_of held)),
      h.steps,
    );
    put_is = items_of-then_item (all_put lane_part before) x ∙ ap (λ l. l ++ x ∷ []) h.put_is;
    taken_is = ap items_of (append-nil (all_taken lane_part before)) ∙ (h.taken_is
        ∙ sym (append-nil (all_taken lane_part (item_steps before))));
  }
  one_more move.Release End before held items one turn h = record {
    steps = subst (AreSteps lane_part (item_steps before)) (sym (items_of-then_end held) ∙ ap items_of turn) h.steps;
    put_is = items_of-then_end (all_put lane_part before) ∙ h.put_is;
    taken_is = ap items_of (append-nil (all_taken lane_part before)) ∙ h.taken_is;
  }
  one_more move.Write (Item x) before held items one turn h = record {
    steps = (
      items_of held,
      subst (λ l. IsStep lane_part l (write x) (items_of items)) (ap items_of (sym turn ∙ append-nil held))
          (write_is_step x (items_of items)),
      h.steps,
    );
    put_is = ap items_of (append-nil (all_put lane_part before)) ∙ (h.put_is
        ∙ sym (append-nil (all_put lane_part (item_steps before))));
    taken_is = items_of-then_item (all_taken lane_part before) x ∙ ap (λ l. l ++ x ∷ []) h.taken_is;
  }
  one_more move.Write End before held items one turn h = record {
    steps = subst (AreSteps lane_part (item_steps before)) (ap items_of (sym (append-nil held) ∙ turn)) h.steps;
    put_is = ap items_of (append-nil (all_put lane_part before)) ∙ h.put_is;
    taken_is = items_of-then_end (all_taken lane_part before) ∙ h.taken_is;
  }
  one_more m x before held items one turn h = no_mark x one

  -- the items of a lane have one history, which is that of the marks without the end mark's steps
  pub have_item_steps : (happened : List (Step (Mark T))) (items : List (Mark T)) → AreSteps lane_part happened items
      → HaveItemSteps happened items
  have_item_steps [] items h = record { steps = ap items_of h; put_is = refl; taken_is = refl }
  have_item_steps (s ∷ before) items h = one_more s.event s.entry before h.0 items h.1.one_entry h.1.in_turn
      (have_item_steps before h.0 h.2)

  own_item : (own : Bool) (m : Move) (x : T) (items : List (Step T)) (marks : List (Step (Mark T)))
      → items ≡ item_steps marks
      → cond own (record { event = m; entry = x } ∷ items) items
      ≡ item_steps (cond own (record { event = m; entry = Item x } ∷ marks) marks)
  own_item true m x items marks e = ap (λ l. record { event = m; entry = x } ∷ l) e
  own_item false m x items marks e = e

  own_end : (own : Bool) (m : Move) (items : List (Step T)) (marks : List (Step (Mark T))) → items ≡ item_steps marks
      → items ≡ item_steps (cond own (record { event = m; entry = End } ∷ marks) marks)
  own_end true m items marks e = e
  own_end false m items marks e = e

  own_step : (t : Thread) (m : Move) (x : Mark T) (before : List (Step (Mark T)))
      → steps_of t (item_steps before) ≡ item_steps (steps_of t before)
      → steps_of t (item_step m x ++ item_steps before)
      ≡ item_steps (steps_of t (record { event = m; entry = x } ∷ before))
  own_step t m (Item x) before e = own_item (is_thread t (thread_of (event_of m))) m x (steps_of t (item_steps before))
      (steps_of t before) e
  own_step t m End before e = own_end (is_thread t (thread_of (event_of m))) m (steps_of t (item_steps before))
      (steps_of t before) e

  -- a thread's steps with items are those of the items' history that are its own
  pub own_items : (t : Thread) (steps : List (Step (Mark T)))
      → steps_of t (item_steps steps) ≡ item_steps (steps_of t steps)
  own_items t [] = refl
  own_items t (s ∷ before) = own_step t s.event s.entry before (own_items t before)

  put_by_sequencer : (m : Move) (x : Mark T) → is_thread Thread.Sequencer (thread_of (event_of m)) ≡ false
      → put_by (event_of m) x ≡ []
  put_by_sequencer move.Release x e = absurd (true≢false e)
  put_by_sequencer m x e = refl

  taken_by_writer : (m : Move) (x : Mark T) → is_thread Thread.Writer (thread_of (event_of m)) ≡ false
      → taken_by (event_of m) x ≡ []
  taken_by_writer move.Write x e = absurd (true≢false e)
  taken_by_writer m x e = refl

  module _ (v : View (Mark T)) (items : List (Mark T)) (k : KnowsSteps lane_part sender_crew v items) where
    -- a pass with all parts knows all that was put, and all that was taken
    pub knows_put : v.put ≡ all_put lane_part k.happened
    knows_put = queue.knows_put lane_part sender_crew v items k Thread.Sequencer
        (λ s. put_by_sequencer s.event s.entry)

    -- and all that was taken
    pub knows_taken : v.taken ≡ all_taken lane_part k.happened
    knows_taken = queue.knows_taken lane_part sender_crew v items k Thread.Writer
        (λ s. taken_by_writer s.event s.entry)

    -- so what was put and what was taken differ by what the channel holds
    pub totals : v.put ≡ v.taken ++ items
    totals = knows_put ∙ (in_order lane_part k.happened items k.steps ∙ ap (λ l. l ++ items) (sym knows_taken))
