-- Each move on a pool's queue of jobs obeys its rule.
use Rattle.dump_lanes.proofs.Prelude.{◌≡◌, ◌<◌, ℕ, true, false, true≢false, inl, inr, List, [], ◌∷◌, ◌++◌, length, refl, ap, arith, lt-ltb, Mark, Item, End, Move, View, Thread, thread_of, event_of, all_put, is_thread, after_put, jobs_part, cutter_crew, after_job, IsJobQueue}
use Rattle.std.proofs.lemmas.List.{append-nil}
use Rattle.crossbeam_queue.specs.Fifo.{Pushes, Pops}
use Rattle.dump_lanes.specs.declared.steps.Move.TheVariants as move
use Rattle.dump_lanes.specs.PartSteps.{IsStep}
use Rattle.dump_lanes.specs.steps.QueueRule.{KnowsSteps}
use Rattle.dump_lanes.specs.JobRule.{put_by}
use Rattle.dump_lanes.specs.steps.JobQueue.{put_step, take_step}
use Rattle.dump_lanes.proofs.PartMoves.{worker_number, other_thread}
use Rattle.dump_lanes.proofs.QueueSteps as queue
use Rattle.dump_lanes.proofs.QueueSteps.{AreApart}

-- the cutter and the workers are different threads
pub cutter_apart : AreApart cutter_crew
cutter_apart = record {
  leader = λ k. other_thread (Thread.Worker k) Thread.Cutter refl;
  others = λ j k ne e. ne (worker_number e);
}

module _ {T : Type 0} where
  -- the cutter's step, and a worker's, belongs to its event
  pub cut_is_step : (x : Mark T) (items : List (Mark T)) → IsStep jobs_part items (put_step x) (items ++ x ∷ [])
  cut_is_step (Item x) items = record { one_entry = refl; allowed = refl; share = refl; in_turn = refl }
  cut_is_step End items = record { one_entry = refl; allowed = refl; share = refl; in_turn = refl }

  -- a worker's step takes the first mark of the jobs
  pub take_is_step : (k : ℕ) (x : Mark T) (items : List (Mark T)) → IsStep jobs_part (x ∷ items) (take_step k x) items
  take_is_step k x items = record {
    one_entry = refl;
    allowed = lt-ltb 0 (length (x ∷ items)) (omega arith);
    share = refl;
    in_turn = ap (λ l. x ∷ l) (append-nil items);
  }

  -- the cutter puts a mark
  pub puts : (n pass : ℕ) (v : View (Mark T)) (x : Mark T) → v.leads ≡ true
      → Pushes IsJobQueue n pass v x (λ w. w ≡ after_put v (put_step x))
  puts n pass v (Item x) leads = queue.puts jobs_part cutter_crew cutter_apart n pass v (put_step (Item x))
      (inl (leads, refl)) (cut_is_step (Item x)) refl refl
  puts n pass v End leads = queue.puts jobs_part cutter_crew cutter_apart n pass v (put_step End) (inl (leads, refl))
      (cut_is_step End) refl refl

  -- a worker takes a mark
  pub takes : (pass : ℕ) (v : View (Mark T)) → v.leads ≡ false → 0 < v.parts
      → Pops IsJobQueue pass v (λ x w. w ≡ after_job v x)
  takes pass v follows parted = queue.takes jobs_part cutter_crew cutter_apart pass v (take_step v.from)
      (λ x. inr (follows, parted, refl)) (take_is_step v.from) (λ x. refl) (λ x. refl)

  put_by_cutter : (m : Move) (x : Mark T) → is_thread Thread.Cutter (thread_of (event_of m)) ≡ false
      → put_by (event_of m) x ≡ []
  put_by_cutter move.Cut x e = absurd (true≢false e)
  put_by_cutter move.CutMark x e = absurd (true≢false e)
  put_by_cutter move.Draw x e = absurd (true≢false e)
  put_by_cutter m x e = refl

  -- a pass with all parts knows all that was put
  pub knows_put : (v : View (Mark T)) (items : List (Mark T)) (k : KnowsSteps jobs_part cutter_crew v items)
      → v.put ≡ all_put jobs_part k.happened
  knows_put v items k = queue.knows_put jobs_part cutter_crew v items k Thread.Cutter
      (λ s. put_by_cutter s.event s.entry)
