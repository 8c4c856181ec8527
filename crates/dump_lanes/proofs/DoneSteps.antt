-- Each move on a pool's queue of dones obeys its rule.
use Rattle.dump_lanes.proofs.Prelude.{◌≡◌, ◌==◌, ◌<◌, ℕ, true, false, true≢false, inl, inr, List, [], ◌∷◌, ◌++◌, length, cond, sym, refl, ap, arith, lt-ltb, Note, Move, View, Thread, thread_of, event_of, is_thread, after_put, after_take, dones_part, sequencer_crew, give_step, arrive_step, IsDoneQueue}
use Rattle.std.proofs.Common.{eq-eqb}
use Rattle.std.proofs.lemmas.List.{append-nil}
use Rattle.crossbeam_queue.specs.Fifo.{Pushes, Pops}
use Rattle.dump_lanes.specs.declared.steps.Move.TheVariants as move
use Rattle.dump_lanes.specs.PartSteps.{IsStep, all_taken}
use Rattle.dump_lanes.specs.steps.QueueRule.{KnowsSteps}
use Rattle.dump_lanes.specs.DoneRule.{taken_by}
use Rattle.dump_lanes.proofs.PartMoves.{worker_number, other_thread}
use Rattle.dump_lanes.proofs.QueueSteps as queue
use Rattle.dump_lanes.proofs.QueueSteps.{AreApart}

-- the sequencer and the workers are different threads
pub sequencer_apart : AreApart sequencer_crew
sequencer_apart = record {
  leader = λ k. other_thread (Thread.Worker k) Thread.Sequencer refl;
  others = λ j k ne e. ne (worker_number e);
}

module _ {T : Type 0} where
  -- a worker's step, and the sequencer's, belongs to its event
  give_one : (x : Note T) → cond (x.from == x.from) (x ∷ []) [] ≡ x ∷ []
  give_one x = ap (λ b. cond b (x ∷ []) []) (eq-eqb x.from x.from refl)

  -- a worker's step puts its note after the dones
  pub give_is_step : (x : Note T) (items : List (Note T)) → IsStep dones_part items (give_step x) (items ++ x ∷ [])
  give_is_step x items = record {
    one_entry = ap (λ l. l ++ []) (give_one x);
    allowed = refl;
    share = ap (λ l. items ++ l) (sym (give_one x));
    in_turn = ap (λ l. items ++ l) (give_one x);
  }

  -- the sequencer's step takes the first note of the dones
  pub arrive_is_step : (x : Note T) (items : List (Note T)) → IsStep dones_part (x ∷ items) (arrive_step x) items
  arrive_is_step x items = record {
    one_entry = refl;
    allowed = lt-ltb 0 (length (x ∷ items)) (omega arith);
    share = refl;
    in_turn = ap (λ l. x ∷ l) (append-nil items);
  }

  -- a worker puts a note
  pub puts : (n pass : ℕ) (v : View (Note T)) (x : Note T) → v.leads ≡ false → 0 < v.parts → x.from ≡ v.from
      → Pushes IsDoneQueue n pass v x (λ w. w ≡ after_put v (give_step x))
  puts n pass v x follows parted from = queue.puts dones_part sequencer_crew sequencer_apart n pass v (give_step x)
      (inr (follows, parted, ap Thread.Worker from)) (give_is_step x) (give_one x) refl

  -- the sequencer takes a note
  pub takes : (pass : ℕ) (v : View (Note T)) → v.leads ≡ true
      → Pops IsDoneQueue pass v (λ x w. w ≡ after_take v (arrive_step x))
  takes pass v leads = queue.takes dones_part sequencer_crew sequencer_apart pass v arrive_step
      (λ x. inl (leads, refl)) arrive_is_step (λ x. refl) (λ x. refl)

  taken_by_sequencer : (m : Move) (x : Note T) → is_thread Thread.Sequencer (thread_of (event_of m)) ≡ false
      → taken_by (event_of m) x ≡ []
  taken_by_sequencer move.Arrive x e = absurd (true≢false e)
  taken_by_sequencer move.Release x e = absurd (true≢false e)
  taken_by_sequencer m x e = refl

  -- a pass with all parts knows all that was taken
  pub knows_taken : (v : View (Note T)) (items : List (Note T)) (k : KnowsSteps dones_part sequencer_crew v items)
      → v.taken ≡ all_taken dones_part k.happened
  knows_taken v items k = queue.knows_taken dones_part sequencer_crew v items k Thread.Sequencer
      (λ s. taken_by_sequencer s.event s.entry)
