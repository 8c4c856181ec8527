-- Each move on a queue of the pool obeys its rule, for each of the parts that are queues.
use Rattle.dump_lanes.proofs.Prelude.{◌≡◌, ◌≢◌, ◌<◌, ℕ, true, false, true≢false, List, [], ◌∷◌, ◌++◌, length, set, sum_by, sym, refl, ap, ◌∙◌, subst, ⊎_elim, arith, length-append, filter-append, sum_by-append, sum_by-cons, sum_by_push, PARTS, Step, View, Thread, thread_of, event_of, Part, all_put, is_thread, steps_of, Crew, leading, following, after_put, after_take, after_fork, after_join, May, IsQueueOf}
use Rattle.std.proofs.lemmas.List.{append-nil, length-set}
use mathlib.Core.Option.{some}
use mathlib.Core.Logic.{dite}
use native.Mathlib.Decide.{ℕ_discrete}
use lib.ListN.{get_elem?}
use Rattle.crossbeam_queue.specs.Fifo.{Pushes, Pops, Forks, Merges, Learns}
use Rattle.atomic_table.proofs.Lists.{set_else}
use Rattle.dump_lanes.specs.PartSteps.{IsStep, all_taken}
use Rattle.dump_lanes.specs.steps.QueueRule.{spent, Fits, KnowsSteps}
use Rattle.dump_lanes.proofs.PartMoves.{step_other, put_alone, taken_alone, put_weight, taken_weight, all_put-append, all_taken-append, forked, forked_stays, forked_to, forked_had, forked_kept, joined as joined_owner, joined_is, joined_kept, joined_had, joined_left, joined_stays, joined_comes, same_or_other, knows_step, knows_else, knows_fork_left, knows_fork_else, knows_fork_new, knows_join_both, knows_join_else, knows_join_spent}
use Rattle.dump_lanes.proofs.Views.{AllViews, AllViews-set, AllViews-one, AllViews-more, within, at_some, sum_by-set, sum_by-least, sum_by-alone}

-- the threads of a crew are all different
pub record AreApart (crew : Crew) : Type 0 where
  pub leader : (k : ℕ) → crew.other k ≢ crew.leader
  pub others : (j k : ℕ) → j ≢ k → crew.other j ≢ crew.other k

module _ {E : Type 0} (part : Part E) (crew : Crew) (apart : AreApart crew) where
  abbrev parts_of : View E → ℕ
  parts_of v = v.parts

  abbrev made_weight : (Step E → ℕ) → View E → ℕ
  made_weight weight v = sum_by weight v.steps

  -- a new queue
  pub begins : IsQueueOf part crew [] (leading PARTS 0 ∷ [])
  begins =
      let owner : Thread → ℕ = λ t. 0 in
      record {
        owner = owner;
        happened = [];
        steps = refl;
        parts = refl;
        made = λ weight. refl;
        owned = λ t. omega arith;
        fits = AllViews-one (Fits part crew owner []) (leading PARTS 0) record {
          knows = record { own = λ t e. refl; others = λ t ne. refl };
          put_is = refl;
          taken_is = refl;
          leads = λ leads. refl;
          to_come = λ leads k le. (refl, refl);
          follows = λ no. absurd (true≢false no);
          spends = λ none. absurd (omega arith);
        };
      }

  -- a pass makes a step of its own thread
  steps : (pass : ℕ) (v w : View E) (s : Step E) (put taken items new : List E) (views : List (View E))
      → May crew v (thread_of (event_of s.event)) → IsStep part items s new
      → w ≡ record v { put = put; taken = taken; steps = s ∷ v.steps }
      → put ≡ v.put ++ part.puts s → taken ≡ v.taken ++ part.takes s
      → IsQueueOf part crew items views → get_elem? views pass ≡ some v → IsQueueOf part crew new (set views pass w)
  steps pass v w s put taken items new views may step is put_is taken_is h at =
      let after : View E = record v { put = put; taken = taken; steps = s ∷ v.steps } in
      let mine = h.fits pass v at in
      let happened : List (Step E) = s ∷ h.happened in
      let t : Thread = thread_of (event_of s.event) in
      let owns : h.owner t ≡ pass =
      ⊎_elim (λ (y : (v.leads ≡ true) × (t ≡ crew.leader)). ap h.owner y.1 ∙ mine.leads y.0)
      (λ (y : (v.leads ≡ false) × (0 < v.parts) × (t ≡ crew.other v.from)). ap h.owner y.2 ∙ mine.follows y.0 y.1)
      may in
      let not_next : v.leads ≡ true → (k : ℕ) → crew.other k ≢ t =
      ⊎_elim (λ (y : (v.leads ≡ true) × (t ≡ crew.leader)) leads k e. apart.leader k (e ∙ y.1))
      (λ (y : (v.leads ≡ false) × (0 < v.parts) × (t ≡ crew.other v.from)) leads. absurd
      (true≢false (sym leads ∙ y.0))) may in
      let one : Fits part crew h.owner happened pass after = record {
        knows = knows_step h.owner h.happened pass v.steps s owns mine.knows;
        put_is = put_is ∙ ap (λ l. l ++ part.puts s) mine.put_is;
        taken_is = taken_is ∙ ap (λ l. l ++ part.takes s) mine.taken_is;
        leads = mine.leads;
        to_come = λ leads k le. let z = mine.to_come leads k le in
            (z.0, step_other (crew.other k) s v.steps (not_next leads k) ∙ z.1);
        follows = mine.follows;
        spends = λ none. absurd ((mine.spends none).1 t owns);
      } in
      let others : (j : ℕ) (u : View E) → j ≢ pass → get_elem? views j ≡ some u
      → Fits part crew h.owner happened j u =
      λ j u other e.
      let f = h.fits j u e in record {
        knows = knows_else h.owner h.happened j u.steps s (λ o. other (sym o ∙ owns)) f.knows;
        put_is = f.put_is;
        taken_is = f.taken_is;
        leads = f.leads;
        to_come = f.to_come;
        follows = f.follows;
        spends = f.spends;
      } in
      let now : IsQueueOf part crew new (set views pass after) = record {
        owner = h.owner;
        happened = happened;
        steps = (items, step, h.steps);
        parts = let a = sum_by-set parts_of views pass v after at in let p = h.parts in omega arith;
        made = λ weight.
            let a = sum_by-set (made_weight weight) views pass v after at in
            let k = h.made weight in omega (arith, sum_by-cons {X = Step E});
        owned = λ t. let l = length-set views pass after in let o = h.owned t in omega arith;
        fits = AllViews-set (Fits part crew h.owner happened) views pass after one others;
      } in subst (λ x. IsQueueOf part crew new (set views pass x)) (sym is) now

  -- a pass puts an entry
  pub puts : (n pass : ℕ) (v : View E) (s : Step E) → May crew v (thread_of (event_of s.event))
      → ((items : List E) → IsStep part items s (items ++ s.entry ∷ []))
      → part.puts s ≡ s.entry ∷ [] → part.takes s ≡ []
      → Pushes (IsQueueOf part crew) n pass v s.entry (λ w. w ≡ after_put v s)
  puts n pass v s may step put none items views room h at =
      let w : View E = after_put v s in (
        w,
        steps pass v w s w.put w.taken items (items ++ s.entry ∷ []) views may (step items) refl
            (ap (λ l. v.put ++ l) (sym put)) (sym (append-nil v.taken) ∙ ap (λ l. v.taken ++ l) (sym none)) h at,
        refl,
      )

  -- a pass takes an entry
  pub takes : (pass : ℕ) (v : View E) (step_of : E → Step E)
      → ((x : E) → May crew v (thread_of (event_of (step_of x).event)))
      → ((x : E) (items : List E) → IsStep part (x ∷ items) (step_of x) items)
      → ((x : E) → part.puts (step_of x) ≡ []) → ((x : E) → part.takes (step_of x) ≡ (step_of x).entry ∷ [])
      → Pops (IsQueueOf part crew) pass v (λ x w. w ≡ after_take v (step_of x))
  takes pass v step_of may step none taken x items views h at =
      let s : Step E = step_of x in
      let w : View E = after_take v s in (
        w,
        steps pass v w s w.put w.taken (x ∷ items) items views (may x) (step x items) refl
            (sym (append-nil v.put) ∙ ap (λ l. v.put ++ l) (sym (none x))) (ap (λ l. v.taken ++ l) (sym (taken x))) h at,
        refl,
      )

  -- a pass is split off the one that leads
  pub forks : (pass : ℕ) (v : View E) → v.leads ≡ true → 1 < v.parts
      → Forks (IsQueueOf part crew) pass v (after_fork v) (following v.made)
  forks pass v leads parted items views h at =
      let left : View E = after_fork v in
      let right : View E = following v.made in
      let cut : List (View E) = set views pass left in
      let mine = h.fits pass v at in
      let long = length-set views pass left in
      let here = within views pass v at in
      let new : ℕ = length cut in
      let next : Thread = crew.other v.made in
      let owner : Thread → ℕ = forked h.owner next new in
      let free = mine.to_come leads v.made (omega arith) in
      let one : Fits part crew owner h.happened pass left = record {
        knows = knows_fork_left h.owner h.happened pass next new v.steps (λ e. absurd (omega arith)) free.1 mine.knows;
        put_is = mine.put_is;
        taken_is = mine.taken_is;
        leads = λ _. forked_stays h.owner next new crew.leader (λ e. apart.leader v.made (sym e)) ∙ mine.leads leads;
        to_come = λ _ k le.
            let z = mine.to_come leads k (omega arith) in
            (forked_stays h.owner next new (crew.other k) (apart.others k v.made (λ e. absurd (omega arith))) ∙ z.0, z.1);
        follows = λ no. absurd (true≢false (sym leads ∙ no));
        spends = λ none. absurd (omega arith);
      } in
      let others : (j : ℕ) (u : View E) → j ≢ pass → get_elem? views j ≡ some u
      → Fits part crew owner h.happened j u =
      λ j u other e.
      let f = h.fits j u e in
      let there = within views j u e in
      let old : j ≢ new = λ e. absurd (omega arith) in
      let away : h.owner next ≢ j = λ o. other (sym o ∙ free.0) in record {
        knows = knows_fork_else h.owner h.happened j next new u.steps old away f.knows;
        put_is = f.put_is;
        taken_is = f.taken_is;
        leads = λ g. absurd (other (sym (f.leads g) ∙ mine.leads leads));
        to_come = λ g. absurd (other (sym (f.leads g) ∙ mine.leads leads));
        follows = λ no some. forked_kept h.owner next new (crew.other u.from) j away (f.follows no some);
        spends = λ none. let z = f.spends none in (z.0, λ t o. z.1 t (forked_had h.owner next new t j old o));
      } in
      let last : Fits part crew owner h.happened new right = record {
        knows = knows_fork_new h.owner h.happened next new (λ t e. let o = h.owned t in absurd (omega arith))
            (sym (mine.knows.own next free.0) ∙ free.1);
        put_is = refl;
        taken_is = refl;
        leads = λ g. absurd (true≢false (sym g));
        to_come = λ g. absurd (true≢false (sym g));
        follows = λ no some. forked_to h.owner next new next refl;
        spends = λ none. absurd (omega arith);
      } in
      record {
        owner = owner;
        happened = h.happened;
        steps = h.steps;
        parts = let s = sum_by-set parts_of views pass v left at in let p = h.parts in let a = sum_by_push parts_of cut right in omega arith;
        made = λ weight.
            let s = sum_by-set (made_weight weight) views pass v left at in
            let t = h.made weight in
            let a = sum_by_push (made_weight weight) cut right in omega arith;
        owned = λ t.
            let o = h.owned t in
            let a = length-append cut (right ∷ []) in
            same_or_other next t (λ s. let g = forked_to h.owner next new t s in omega arith)
            (λ apart. let k = forked_stays h.owner next new t apart in omega arith);
        fits = AllViews-more (Fits part crew owner h.happened) cut right
            (AllViews-set (Fits part crew owner h.happened) views pass left one others) last;
      }

  -- the pass that leads joins another
  pub merges : (pass : ℕ) (v : View E) (other : ℕ) (u : View E) → v.leads ≡ true → 0 < v.parts
      → Merges (IsQueueOf part crew) pass v other u (after_join v u) spent
  merges pass v other u leads parted items views h at two at' =
      let both : View E = after_join v u in
      let joined : List (View E) = set views pass both in
      let was : get_elem? views other ≡ some u = sym (set_else views pass other both two) ∙ at' in
      let mine = h.fits pass v at in
      let theirs = h.fits other u was in
      let owner : Thread → ℕ = joined_owner h.owner pass other two in
      let Now : ℕ → View E → Type 0 = Fits part crew owner h.happened in
      let NowElse : ℕ → View E → Type 0 = λ j y. j ≢ other → Now j y in
      let here : NowElse pass both = λ away. record {
        knows = knows_join_both h.owner h.happened pass other two v.steps u.steps mine.knows theirs.knows;
        put_is = ap (λ l. l ++ u.put) mine.put_is ∙ (ap (λ l. all_put part v.steps ++ l) theirs.put_is
            ∙ sym (all_put-append part u.steps v.steps));
        taken_is = ap (λ l. l ++ u.taken) mine.taken_is ∙ (ap (λ l. all_taken part v.steps ++ l) theirs.taken_is
            ∙ sym (all_taken-append part u.steps v.steps));
        leads = λ _. joined_is h.owner pass other two crew.leader (mine.leads leads);
        to_come = λ _ k le.
            let z = mine.to_come leads k le in
            let t : Thread = crew.other k in (
              joined_is h.owner pass other two t z.0,
              filter-append (λ (s : Step E). is_thread t (thread_of (event_of s.event))) u.steps v.steps
                  ∙ (ap (λ l. l ++ steps_of t v.steps) (theirs.knows.others t (λ o. two (sym o ∙ z.0))) ∙ z.1),
            );
        follows = λ no. absurd (true≢false (sym leads ∙ no));
        spends = λ none. absurd (omega arith);
      } in
      let others : (j : ℕ) (y : View E) → j ≢ pass → get_elem? views j ≡ some y → NowElse j y =
      λ j y apart e away.
      let f = h.fits j y e in record {
        knows = knows_join_else h.owner h.happened pass other two j y.steps apart away f.knows;
        put_is = f.put_is;
        taken_is = f.taken_is;
        leads = λ g. absurd (apart (sym (f.leads g) ∙ mine.leads leads));
        to_come = λ g. absurd (apart (sym (f.leads g) ∙ mine.leads leads));
        follows = λ no some. joined_kept h.owner pass other two (crew.other y.from) j away (f.follows no some);
        spends = λ none. let z = f.spends none in (z.0, λ t o. z.1 t (joined_had h.owner pass other two t j apart o));
      } in
      let now : AllViews NowElse joined = AllViews-set NowElse views pass both here others in
      let gone : Now other spent = record {
        knows = knows_join_spent h.owner h.happened pass other two;
        put_is = refl;
        taken_is = refl;
        leads = λ g. absurd (true≢false (sym g));
        to_come = λ g. absurd (true≢false (sym g));
        follows = λ no some. absurd (omega arith);
        spends = λ none. (refl, joined_left h.owner pass other two);
      } in
      record {
        owner = owner;
        happened = h.happened;
        steps = h.steps;
        parts = let s = sum_by-set parts_of views pass v both at in let t = sum_by-set parts_of joined other u spent at' in let p = h.parts in omega arith;
        made = λ weight.
            let s = sum_by-set (made_weight weight) views pass v both at in
            let t = sum_by-set (made_weight weight) joined other u spent at' in
            let k = h.made weight in
            let a = sum_by-append weight u.steps v.steps in omega arith;
        owned = λ t.
            let o = h.owned t in
            let a = length-set views pass both in
            let b = length-set joined other spent in
            let p = within views pass v at in
            dite (ℕ_discrete (h.owner t) other) (λ k. let e = joined_comes h.owner pass other two t k in omega arith)
            (λ ne. let e = joined_stays h.owner pass other two t ne in omega arith);
        fits = AllViews-set Now joined other spent gone (λ j y apart e. now j y e apart);
      }

  -- if a pass has all parts, the others have none
  alone : (views : List (View E)) (pass j : ℕ) (v u : View E) → get_elem? views pass ≡ some v
      → get_elem? views j ≡ some u → j ≢ pass
      → sum_by parts_of views ≡ v.parts → u.parts ≡ 0
  alone views pass j v u at e ne all =
      let s = sum_by-set parts_of views pass v spent at in
      let l = sum_by-least parts_of (set views pass spent) j u (set_else views pass j spent ne ∙ e) in omega arith

  -- a pass with all parts knows all steps of each thread
  pub learns : (pass : ℕ) (v : View E) → v.parts ≡ PARTS
      → Learns (IsQueueOf part crew) pass v (λ items. KnowsSteps part crew v items)
  learns pass v all items views h at =
      let mine = h.fits pass v at in
      let idle : (weight : Step E → ℕ) → AllViews (λ pass u. u.parts ≡ 0 → made_weight weight u ≡ 0) views =
      λ weight j u e no. ap (λ l. sum_by weight l) ((h.fits j u e).spends no).0 in
      let owns : (t : Thread) → h.owner t ≡ pass = λ t.
      dite (ℕ_discrete (h.owner t) pass) (λ e. e) (λ ne.
      let there = at_some views (h.owner t) (h.owned t) in
      let none = alone views pass (h.owner t) v there.0 at there.1 ne (h.parts ∙ sym all) in
      absurd (((h.fits (h.owner t) there.0 there.1).spends none).1 t refl)) in
      record {
        happened = h.happened;
        steps = h.steps;
        each = λ t. mine.knows.own t (owns t);
        made = λ weight. sym (sum_by-alone parts_of (made_weight weight) views pass v (idle weight) at
            (h.parts ∙ sym all)) ∙ h.made weight;
        put_is = mine.put_is;
        taken_is = mine.taken_is;
      }

module _ {E : Type 0} (part : Part E) (crew : Crew) (v : View E) (items : List E) (k : KnowsSteps part crew v items) where
  -- if only one thread puts, what a pass with all parts put is what joined the queue
  pub knows_put : (t : Thread) → ((s : Step E) → is_thread t (thread_of (event_of s.event)) ≡ false → part.puts s ≡ [])
      → v.put ≡ all_put part k.happened
  knows_put t none = k.put_is ∙ (put_alone part t none v.steps ∙ (ap (all_put part) (k.each t)
      ∙ sym (put_alone part t none k.happened)))

  -- if only one thread takes, what it took is what left the queue
  pub knows_taken : (t : Thread)
      → ((s : Step E) → is_thread t (thread_of (event_of s.event)) ≡ false → part.takes s ≡ [])
      → v.taken ≡ all_taken part k.happened
  knows_taken t none = k.taken_is ∙ (taken_alone part t none v.steps ∙ (ap (all_taken part) (k.each t)
      ∙ sym (taken_alone part t none k.happened)))

  -- otherwise it put each entry as often as it joined
  pub weighs_put : (weight : E → ℕ) → sum_by weight v.put ≡ sum_by weight (all_put part k.happened)
  weighs_put weight = ap (λ l. sum_by weight l) k.put_is ∙ (put_weight part weight v.steps
      ∙ (k.made (λ s. sum_by weight (part.puts s)) ∙ sym (put_weight part weight k.happened)))

  -- and took each as often as it left
  pub weighs_taken : (weight : E → ℕ) → sum_by weight v.taken ≡ sum_by weight (all_taken part k.happened)
  weighs_taken weight = ap (λ l. sum_by weight l) k.taken_is ∙ (taken_weight part weight v.steps
      ∙ (k.made (λ s. sum_by weight (part.takes s)) ∙ sym (taken_weight part weight k.happened)))
