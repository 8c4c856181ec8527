-- One more step of a history: which thread makes it, and what it moves.
use Rattle.dump_lanes.proofs.Prelude.{◌≡◌, ◌≢◌, ◌==◌, ℕ, true, false, true≢false, List, [], ◌∷◌, ◌++◌, cond, sum_by, sym, refl, ap, ◌∙◌, subst, ⊎_elim, append_assoc, arith, sum_by-append, sum_by-cons, filter-append, Step, Thread, thread_of, event_of, Part, all_put, is_thread, steps_of, Knows, cases_Bool}
use Rattle.std.proofs.Common.{eq-eqb, ne_eqb}
use Rattle.std.proofs.lemmas.Bool.{eqb-true}
use Rattle.std.proofs.lemmas.List.{append-nil}
use mathlib.Core.Logic.{dite}
use native.Mathlib.Decide.{ℕ_discrete}
use Rattle.dump_lanes.specs.PartSteps.{AreSteps, all_taken}

abbrev number_of : Thread → ℕ
number_of (Thread.Worker k) = k
number_of other = 0

-- workers that are the same have the same number
pub worker_number : {j k : ℕ} → Thread.Worker j ≡ Thread.Worker k → j ≡ k
worker_number e = ap number_of e

-- a thread is the same as itself
pub is_same_thread : (t : Thread) → is_thread t t ≡ true
is_same_thread Thread.Cutter = refl
is_same_thread (Thread.Worker k) = eq-eqb k k refl
is_same_thread Thread.Sequencer = refl
is_same_thread Thread.Writer = refl

-- threads that aren't the same differ
pub other_thread : (t u : Thread) → is_thread t u ≡ false → t ≢ u
other_thread t u differs e = true≢false (sym (is_same_thread t) ∙ (ap (is_thread t) e ∙ differs))

one_thread : (t u : Thread) → is_thread t u ≡ true → u ≡ t
one_thread Thread.Cutter Thread.Cutter e = refl
one_thread (Thread.Worker j) (Thread.Worker k) e = ap Thread.Worker (sym (eqb-true j k e))
one_thread Thread.Sequencer Thread.Sequencer e = refl
one_thread Thread.Writer Thread.Writer e = refl
one_thread t u e = absurd (true≢false (sym e))

-- by cases: a thread is this one or another
pub same_or_other : {A : Type 0} (t u : Thread) → (u ≡ t → A) → (u ≢ t → A) → A
same_or_other t u same other =
    ⊎_elim (λ (e : is_thread t u ≡ true). same (one_thread t u e))
    (λ (e : is_thread t u ≡ false). other (λ k. other_thread t u e (sym k))) (cases_Bool (is_thread t u))

-- other threads aren't this one
pub not_thread : (t u : Thread) → t ≢ u → is_thread t u ≡ false
not_thread t u ne =
    ⊎_elim (λ (e : is_thread t u ≡ true). absurd (ne (sym (one_thread t u e)))) (λ (e : is_thread t u ≡ false). e)
    (cases_Bool (is_thread t u))

module _ {E : Type 0} where
  -- a step is added to what is known of its thread, and to what happened
  pub step_both : (t : Thread) (s : Step E) (known happened : List (Step E)) → steps_of t known ≡ steps_of t happened
      → steps_of t (s ∷ known) ≡ steps_of t (s ∷ happened)
  step_both t s known happened e = ap (λ l. cond (is_thread t (thread_of (event_of s.event))) (s ∷ l) l) e

  -- another thread's step
  pub step_other : (t : Thread) (s : Step E) (steps : List (Step E)) → t ≢ thread_of (event_of s.event)
      → steps_of t (s ∷ steps) ≡ steps_of t steps
  step_other t s steps ne = ap (λ b. cond b (s ∷ steps_of t steps) (steps_of t steps))
      (not_thread t (thread_of (event_of s.event)) ne)

  -- if only one thread puts, what joined the queue is what joined it in this thread's steps
  pub put_alone : (part : Part E) (t : Thread)
      → ((s : Step E) → is_thread t (thread_of (event_of s.event)) ≡ false → part.puts s ≡ [])
      → (steps : List (Step E)) → all_put part steps ≡ all_put part (steps_of t steps)
  put_alone part t none [] = refl
  put_alone part t none (s ∷ before) =
      let all : List E = all_put part before in
      let own : List (Step E) = steps_of t before in
      let rest : all ≡ all_put part own = put_alone part t none before in
      ⊎_elim (λ (y : is_thread t (thread_of (event_of s.event)) ≡ true).
      ap (λ l. l ++ part.puts s) rest ∙ ap (λ b. all_put part (cond b (s ∷ own) own)) (sym y))
      (λ (y : is_thread t (thread_of (event_of s.event)) ≡ false).
      ap (λ l. all ++ l) (none s y) ∙ (append-nil all ∙ (rest ∙ ap (λ b. all_put part (cond b (s ∷ own) own)) (sym y))))
      (cases_Bool (is_thread t (thread_of (event_of s.event))))

  -- the part whose puts are takes, and the other way around
  abbrev swapped : Part E → Part E
  swapped part = record part { puts = part.takes; takes = part.puts }

  -- if only one thread takes, the same is true of what left the queue
  pub taken_alone : (part : Part E) (t : Thread)
      → ((s : Step E) → is_thread t (thread_of (event_of s.event)) ≡ false → part.takes s ≡ [])
      → (steps : List (Step E)) → all_taken part steps ≡ all_taken part (steps_of t steps)
  taken_alone part t none steps = put_alone (swapped part) t none steps

  -- what joined weighs as much as it does in the steps, and so does what left
  pub put_weight : (part : Part E) (weight : E → ℕ) (steps : List (Step E))
      → sum_by weight (all_put part steps) ≡ sum_by (λ s. sum_by weight (part.puts s)) steps
  put_weight part weight [] = refl
  put_weight part weight (s ∷ before) =
      let t = put_weight part weight before in omega (arith, sum_by-append {X = E}, sum_by-cons {X = Step E})

  pub taken_weight : (part : Part E) (weight : E → ℕ) (steps : List (Step E))
      → sum_by weight (all_taken part steps) ≡ sum_by (λ s. sum_by weight (part.takes s)) steps
  taken_weight part weight steps = put_weight (swapped part) weight steps

  -- what left in all steps is what left in the earlier ones, and then what left in the later ones
  pub all_taken-append : (part : Part E) (xs ys : List (Step E))
      → all_taken part (xs ++ ys) ≡ all_taken part ys ++ all_taken part xs
  all_taken-append part [] ys = sym (append-nil (all_taken part ys))
  all_taken-append part (s ∷ xs) ys =
      ap (λ l. l ++ part.takes s) (all_taken-append part xs ys) ∙ append_assoc (all_taken part ys) (all_taken part xs)
      (part.takes s)

  -- the same of what joined
  pub all_put-append : (part : Part E) (xs ys : List (Step E))
      → all_put part (xs ++ ys) ≡ all_put part ys ++ all_put part xs
  all_put-append part xs ys = all_taken-append (swapped part) xs ys

  -- a part holds what was put less what was taken, in order
  pub in_order : (part : Part E) (happened : List (Step E)) (items : List E) → AreSteps part happened items
      → all_put part happened ≡ all_taken part happened ++ items
  in_order part [] items h = sym h
  in_order part (s ∷ before) items h =
      let put : List E = all_put part before in
      let gone : List E = all_taken part before in
      ap (λ l. l ++ part.puts s) (in_order part before h.0 h.2)
      ∙ (append_assoc gone h.0 (part.puts s) ∙ (ap (λ l. gone ++ l) h.1.in_turn
      ∙ sym (append_assoc gone (part.takes s) items)))

-- a thread's steps go to a new pass
module _ (owner : Thread → ℕ) (next : Thread) (new : ℕ) where
  -- the owner of each thread's steps, after this thread's have gone to the new pass
  abbrev pub forked : Thread → ℕ
  forked t = cond (is_thread next t) new (owner t)

  -- a thread that is this one has the new pass
  pub forked_to : (t : Thread) → t ≡ next → forked t ≡ new
  forked_to t e = ap forked e ∙ ap (λ b. cond b new (owner next)) (is_same_thread next)

  -- a thread that isn't this one keeps its pass
  pub forked_stays : (t : Thread) → t ≢ next → forked t ≡ owner t
  forked_stays t ne = ap (λ b. cond b new (owner t)) (not_thread next t (λ e. ne (sym e)))

  -- a thread that now has another pass than the new one had that pass before
  pub forked_had : (t : Thread) (j : ℕ) → j ≢ new → forked t ≡ j → owner t ≡ j
  forked_had t j ne e =
      same_or_other next t (λ s. absurd (ne (sym e ∙ forked_to t s))) (λ o. sym (forked_stays t o) ∙ e)

  -- a thread of a pass that this one didn't belong to still has that pass
  pub forked_kept : (t : Thread) (j : ℕ) → owner next ≢ j → owner t ≡ j → forked t ≡ j
  forked_kept t j ne e = forked_stays t (λ w. ne (sym (ap owner w) ∙ e)) ∙ e

-- all steps that a pass knows go to another pass
module _ (owner : Thread → ℕ) (pass other : ℕ) (two : other ≢ pass) where
  -- the owner of each thread's steps, after one pass has joined the other
  abbrev pub joined : Thread → ℕ
  joined t = cond (owner t == other) pass (owner t)

  -- a thread keeps its pass, if that isn't the joined one
  pub joined_stays : (t : Thread) → owner t ≢ other → joined t ≡ owner t
  joined_stays t ne = ap (λ b. cond b pass (owner t)) (ne_eqb (owner t) other ne)

  -- a thread of the joined pass now belongs to the one that joins it
  pub joined_comes : (t : Thread) → owner t ≡ other → joined t ≡ pass
  joined_comes t e = ap (λ b. cond b pass (owner t)) (eq-eqb (owner t) other e)

  -- a thread of the pass that takes in the other stays with it
  pub joined_is : (t : Thread) → owner t ≡ pass → joined t ≡ pass
  joined_is t e = joined_stays t (λ o. two (sym o ∙ e)) ∙ e

  -- a thread that had another pass than the joined one still has that pass
  pub joined_kept : (t : Thread) (j : ℕ) → j ≢ other → owner t ≡ j → joined t ≡ j
  joined_kept t j ne e = joined_stays t (λ o. ne (sym e ∙ o)) ∙ e

  -- a thread that now has another pass than the one that joins had that pass before
  pub joined_had : (t : Thread) (j : ℕ) → j ≢ pass → joined t ≡ j → owner t ≡ j
  joined_had t j ne e = dite (ℕ_discrete (owner t) other) (λ o. absurd (ne (sym e ∙ joined_comes t o)))
      (λ o. sym (joined_stays t o) ∙ e)

  -- no thread is left with the joined pass
  pub joined_left : (t : Thread) → joined t ≢ other
  joined_left t e = dite (ℕ_discrete (owner t) other) (λ o. two (sym e ∙ joined_comes t o))
      (λ ne. ne (sym (joined_stays t ne) ∙ e))

module _ {E : Type 0} (owner : Thread → ℕ) (happened : List (Step E)) where
  -- a step of a thread whose pass this is, and another's step
  pub knows_step : (pass : ℕ) (steps : List (Step E)) (s : Step E) → owner (thread_of (event_of s.event)) ≡ pass
      → Knows owner happened pass steps → Knows owner (s ∷ happened) pass (s ∷ steps)
  knows_step pass steps s owns h = record {
    own = λ t e. step_both t s steps happened (h.own t e);
    others = λ t ne. step_other t s steps (λ e. ne (ap owner e ∙ owns)) ∙ h.others t ne;
  }

  -- a step of a thread whose pass this isn't leaves what the pass knows
  pub knows_else : (pass : ℕ) (steps : List (Step E)) (s : Step E) → owner (thread_of (event_of s.event)) ≢ pass
      → Knows owner happened pass steps → Knows owner (s ∷ happened) pass steps
  knows_else pass steps s apart h =
      record {
        own = λ t e. h.own t e ∙ sym (step_other t s happened (λ k. apart (sym (ap owner k) ∙ e)));
        others = h.others;
      }

  -- a pass that knows no step of a thread knows its threads' steps after that one went to a new pass
  pub knows_fork_left : (pass : ℕ) (next : Thread) (new : ℕ) (steps : List (Step E)) → pass ≢ new
      → steps_of next steps ≡ []
      → Knows owner happened pass steps → Knows (forked owner next new) happened pass steps
  knows_fork_left pass next new steps apart none h = record {
    own = λ t e. h.own t (forked_had owner next new t pass apart e);
    others = λ t ne.
        same_or_other next t (λ s. subst (λ (w : Thread). steps_of w steps ≡ []) (sym s) none)
        (λ o. h.others t (λ e. ne (forked_stays owner next new t o ∙ e)));
  }

  -- a pass that didn't have the thread knows its threads' steps after that one went to a new pass
  pub knows_fork_else : (j : ℕ) (next : Thread) (new : ℕ) (steps : List (Step E)) → j ≢ new → owner next ≢ j
      → Knows owner happened j steps → Knows (forked owner next new) happened j steps
  knows_fork_else j next new steps apart other h = record {
    own = λ t e. h.own t (forked_had owner next new t j apart e);
    others = λ t ne. h.others t (λ e. ne (forked_kept owner next new t j other e));
  }

  -- the new pass knows all steps of its thread, where that has made none
  pub knows_fork_new : (next : Thread) (new : ℕ) → ((t : Thread) → owner t ≢ new) → steps_of next happened ≡ []
      → Knows (forked owner next new) happened new []
  knows_fork_new next new fresh none = record {
    own = λ t e.
        same_or_other next t (λ s. subst (λ (w : Thread). [] ≡ steps_of w happened) (sym s) (sym none))
        (λ o. absurd (fresh t (sym (forked_stays owner next new t o) ∙ e)));
    others = λ t ne. refl;
  }

  -- a pass that has taken in another knows the steps of its own threads and of the other's
  pub knows_join_both : (pass other : ℕ) (two : other ≢ pass) (mine theirs : List (Step E))
      → Knows owner happened pass mine
      → Knows owner happened other theirs → Knows (joined owner pass other two) happened pass (theirs ++ mine)
  knows_join_both pass other two mine theirs h k =
      let split : (t : Thread) → steps_of t (theirs ++ mine) ≡ steps_of t theirs ++ steps_of t mine =
      λ t. filter-append (λ (s : Step E). is_thread t (thread_of (event_of s.event))) theirs mine in
      let mine_alone : (t : Thread) → owner t ≢ other → steps_of t (theirs ++ mine) ≡ steps_of t mine =
      λ t b. split t ∙ ap (λ l. l ++ steps_of t mine) (k.others t b) in
      record {
        own = λ t e. dite (ℕ_discrete (owner t) other)
            (λ o. split t ∙ (ap (λ l. steps_of t theirs ++ l) (h.others t (λ e. two (sym o ∙ e)))
            ∙ (append-nil (steps_of t theirs) ∙ k.own t o)))
            (λ ne. mine_alone t ne ∙ h.own t (sym (joined_stays owner pass other two t ne) ∙ e));
        others = λ t ne. dite (ℕ_discrete (owner t) other) (λ o. absurd (ne (joined_comes owner pass other two t o)))
            (λ b. mine_alone t b ∙ h.others t (λ o. ne (joined_is owner pass other two t o)));
      }

  -- a third pass knows its threads' steps after one pass has taken in another
  pub knows_join_else : (pass other : ℕ) (two : other ≢ pass) (j : ℕ) (steps : List (Step E)) → j ≢ pass → j ≢ other
      → Knows owner happened j steps → Knows (joined owner pass other two) happened j steps
  knows_join_else pass other two j steps apart away h = record {
    own = λ t e. h.own t (joined_had owner pass other two t j apart e);
    others = λ t ne. h.others t (λ e. ne (joined_kept owner pass other two t j away e));
  }

  -- a pass that was taken in has no thread left, and knows no step
  pub knows_join_spent : (pass other : ℕ) (two : other ≢ pass) → Knows (joined owner pass other two) happened other []
  knows_join_spent pass other two = record {
    own = λ t e. absurd (joined_left owner pass other two t e);
    others = λ t ne. refl;
  }
