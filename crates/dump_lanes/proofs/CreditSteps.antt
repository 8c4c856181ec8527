-- Each move on a pool's queue of credits obeys its rule.
use Rattle.dump_lanes.proofs.Prelude.{◌≡◌, ◌≢◌, ◌≤◌, ℕ, ◌+◌, suc, true, true≢false, List, [], ◌∷◌, ◌++◌, length, set, sym, refl, ap, ◌∙◌, subst, arith, lt-ltb, ltb-true, length-append, Purse, Move, Thread, credits_share, credits_allow, event_of, steps_of, CreditStep, draw_step, back_step, drawn_in, back_in, first_purse, after_first, after_draw, after_back, cutter_purse, writer_purse, joined_purse, spent_purse, IsCreditQueue}
use Rattle.std.proofs.Common.{IsTrue, length-set}
use mathlib.Core.Option.{some}
use lib.ListN.{get_elem?}
use Rattle.atomic_table.proofs.Lists.{set_else}
use Rattle.crossbeam_queue.specs.Fifo.{Pushes, Pops, Forks, Merges, Learns}
use Rattle.dump_lanes.specs.declared.steps.Move.TheVariants as move
use Rattle.dump_lanes.specs.CreditRule.{put_by, taken_by, IsStep, AreSteps}
use Rattle.dump_lanes.specs.steps.CreditQueue.{Fits, KnowsSteps}
use Rattle.dump_lanes.proofs.PartMoves.{other_thread, same_or_other, forked, forked_stays, forked_to, joined as joined_owner, joined_is, joined_comes, knows_step, knows_else, knows_fork_left, knows_fork_else, knows_fork_new, knows_join_both, knows_join_else, knows_join_spent}
use Rattle.dump_lanes.proofs.Views.{AllViews, AllViews-set, AllViews-one, AllViews-more, within}

-- the cutter's step, and the writer's, belongs to its event
draw_is_step : (free : ℕ) → IsStep (suc free) draw_step free
draw_is_step free = record { one_credit = refl; allowed = lt-ltb 0 (suc free) (omega arith); share = omega arith }

back_is_step : (free : ℕ) → IsStep free back_step (free + 1)
back_is_step free = record { one_credit = refl; allowed = refl; share = refl }

-- one step: the credits that were free or came back are those that were drawn or are free
pub one_balance : (old new : ℕ) (m : Move) → put_by (event_of m) + taken_by (event_of m) ≡ 1
    → IsTrue (credits_allow old (event_of m))
    → new ≡ credits_share old (event_of m) → old + put_by (event_of m) ≡ taken_by (event_of m) + new
one_balance old new move.Draw one may e = let a = ltb-true 0 old may in omega arith
one_balance old new move.Give one may e = omega arith
one_balance old new m one may e = absurd (omega arith)

-- the credits that were drawn or are free are those that were there at first or came back
pub balance : (first : ℕ) (happened : List CreditStep) (free : ℕ) → AreSteps first happened free
    → drawn_in happened + free ≡ first + back_in happened
balance first [] free h = omega arith
balance first (s ∷ before) free h =
    let t = balance first before h.0 h.2 in
    let o = one_balance h.0 free s.event h.1.one_credit h.1.allowed h.1.share in omega arith

-- if no credit was drawn and none came back, nothing happened
nothing : (first : ℕ) (happened : List CreditStep) (free : ℕ) → AreSteps first happened free → drawn_in happened ≡ 0
    → back_in happened ≡ 0 → happened ≡ []
nothing first [] free h d b = refl
nothing first (s ∷ before) free h d b = let o = h.1.one_credit in absurd (omega arith)

cutter_not_writer : Thread.Cutter ≢ Thread.Writer
cutter_not_writer = other_thread Thread.Cutter Thread.Writer refl

-- a pass that has the writer's thread and all others has all threads
has_all : (owner : Thread → ℕ) (pass : ℕ) → ((t : Thread) → t ≢ Thread.Writer → owner t ≡ pass)
    → owner Thread.Writer ≡ pass → (t : Thread) → owner t ≡ pass
has_all owner pass others writer t = same_or_other Thread.Writer t (λ e. ap owner e ∙ writer) (others t)

module _ {T : Type 0} where
  length_more : (items : List T) (x : T) → length (items ++ x ∷ []) ≡ length items + 1
  length_more items x = length-append items (x ∷ [])

  -- an empty queue
  pub begins : IsCreditQueue {T = T} [] (first_purse 0 ∷ [])
  begins = record {
    owner = λ t. 0;
    first = 0;
    happened = [];
    steps = refl;
    fits = AllViews-one (Fits (λ t. 0) 0 []) (first_purse 0) record {
      draws = λ d. (λ t ne. refl, refl);
      gives = λ g. (refl, refl, refl);
      knows = record { own = λ t e. refl; others = λ t ne. refl };
    };
  }

  -- one more credit is there at first
  pub fills : (n pass : ℕ) (v : Purse) (x : T) → v.draws ≡ true → v.gives ≡ true → v.drawn ≡ 0 → v.back ≡ 0
      → Pushes IsCreditQueue n pass v x (λ w. w ≡ after_first v)
  fills n pass v x may_draw may_give none_drawn none_back items views room h at =
      let w : Purse = after_first v in
      let mine = h.fits pass v at in
      let d = mine.draws may_draw in
      let g = mine.gives may_give in
      let none : h.happened ≡ [] = nothing h.first h.happened (length items) h.steps (sym d.1 ∙ none_drawn)
      (sym g.2 ∙ none_back) in
      let opened : length items ≡ h.first = subst (λ l. AreSteps h.first l (length items)) none h.steps in
      let long : length (items ++ x ∷ []) ≡ h.first + 1 = let l = length_more items x in omega arith in
      let one : Fits h.owner (h.first + 1) h.happened pass w =
      record { draws = λ p. d; gives = λ p. (g.0, ap (λ k. k + 1) g.1, g.2); knows = mine.knows } in
      let others : (j : ℕ) (u : Purse) → j ≢ pass → get_elem? views j ≡ some u
      → Fits h.owner (h.first + 1) h.happened j u =
      λ j u other e.
      let f = h.fits j u e in
      record { draws = f.draws; gives = λ p. absurd (other (sym (f.gives p).0 ∙ g.0)); knows = f.knows } in
      let after : IsCreditQueue (items ++ x ∷ []) (set views pass w) = record {
        owner = h.owner;
        first = h.first + 1;
        happened = h.happened;
        steps = subst (λ l. AreSteps (h.first + 1) l (length (items ++ x ∷ []))) (sym none) long;
        fits = AllViews-set (Fits h.owner (h.first + 1) h.happened) views pass w one others;
      } in (w, after, refl)

  -- a pass makes a step of its own thread; if it obeys the rule afterwards, the others still do
  one_step : (pass : ℕ) (w : Purse) (s : CreditStep) (items new : List T) (views : List Purse)
      (h : IsCreditQueue items views) → IsStep (length items) s (length new)
      → Fits h.owner h.first (s ∷ h.happened) pass w
      → ((j : ℕ) (u : Purse) → j ≢ pass → Fits h.owner h.first h.happened j u
      → Fits h.owner h.first (s ∷ h.happened) j u) → IsCreditQueue new (set views pass w)
  one_step pass w s items new views h step one others = record {
    owner = h.owner;
    first = h.first;
    happened = s ∷ h.happened;
    steps = (length items, step, h.steps);
    fits = AllViews-set (Fits h.owner h.first (s ∷ h.happened)) views pass w one
        (λ j u other e. others j u other (h.fits j u e));
  }

  -- a credit is drawn
  pub draws : (pass : ℕ) (v : Purse) → v.draws ≡ true → Pops IsCreditQueue pass v (λ (x : T) w. w ≡ after_draw v)
  draws pass v may x items views h at =
      let mine = h.fits pass v at in
      let d = mine.draws may in
      let owns : h.owner Thread.Cutter ≡ pass = d.0 Thread.Cutter cutter_not_writer in
      let one : Fits h.owner h.first (draw_step ∷ h.happened) pass (after_draw v) = record {
        draws = λ p. (d.0, ap (λ k. k + 1) d.1);
        gives = λ p. let g = mine.gives p in (g.0, g.1, let e = g.2 in omega arith);
        knows = knows_step h.owner h.happened pass v.steps draw_step owns mine.knows;
      } in (
        after_draw v,
        one_step pass (after_draw v) draw_step (x ∷ items) items views h (draw_is_step (length items)) one
            (λ j u other f. record {
              draws = λ p. absurd (other (sym ((f.draws p).0 Thread.Cutter cutter_not_writer) ∙ owns));
              gives = λ p. let g = f.gives p in (g.0, g.1, let e = g.2 in omega arith);
              knows = knows_else h.owner h.happened j u.steps draw_step (λ o. other (sym o ∙ owns)) f.knows;
            }),
        refl,
      )

  -- a credit is given back
  pub gives : (n pass : ℕ) (v : Purse) (x : T) → v.gives ≡ true → Pushes IsCreditQueue n pass v x
      (λ w. w ≡ after_back v)
  gives n pass v x may items views room h at =
      let mine = h.fits pass v at in
      let g = mine.gives may in
      let one : Fits h.owner h.first (back_step ∷ h.happened) pass (after_back v) = record {
        draws = λ p. let d = mine.draws p in (d.0, let e = d.1 in omega arith);
        gives = λ p. (g.0, g.1, ap (λ k. k + 1) g.2);
        knows = knows_step h.owner h.happened pass v.steps back_step g.0 mine.knows;
      } in (
        after_back v,
        one_step pass (after_back v) back_step items (items ++ x ∷ []) views h
            (subst (IsStep (length items) back_step) (sym (length_more items x)) (back_is_step (length items))) one
            (λ j u other f. record {
              draws = λ p. let d = f.draws p in (d.0, let e = d.1 in omega arith);
              gives = λ p. absurd (other (sym (f.gives p).0 ∙ g.0));
              knows = knows_else h.owner h.happened j u.steps back_step (λ o. other (sym o ∙ g.0)) f.knows;
            }),
        refl,
      )

  -- the first pass is split into the cutter's and the writer's
  pub forks : (pass : ℕ) (v : Purse) → v.draws ≡ true → v.gives ≡ true → v.drawn ≡ 0 → v.back ≡ 0
      → Forks (IsCreditQueue {T = T}) pass v (cutter_purse v) (writer_purse v)
  forks pass v may_draw may_give none_drawn none_back items views h at =
      let left : Purse = cutter_purse v in
      let right : Purse = writer_purse v in
      let mine = h.fits pass v at in
      let d = mine.draws may_draw in
      let g = mine.gives may_give in
      let none : h.happened ≡ [] = nothing h.first h.happened (length items) h.steps (sym d.1 ∙ none_drawn)
      (sym g.2 ∙ none_back) in
      let unwritten : steps_of Thread.Writer h.happened ≡ [] = ap (steps_of Thread.Writer) none in
      let cut : List Purse = set views pass left in
      let long = length-set views pass left in
      let here = within views pass v at in
      let new : ℕ = length cut in
      let owner : Thread → ℕ = forked h.owner Thread.Writer new in
      let Now : ℕ → Purse → Type 0 = Fits owner h.first h.happened in
      let one : Now pass left = record {
        draws = λ p. (λ t ne. forked_stays h.owner Thread.Writer new t ne ∙ d.0 t ne, d.1);
        gives = λ p. absurd (true≢false (sym p));
        knows = knows_fork_left h.owner h.happened pass Thread.Writer new v.steps (λ e. absurd (omega arith))
            (mine.knows.own Thread.Writer g.0 ∙ unwritten) mine.knows;
      } in
      let others : (j : ℕ) (u : Purse) → j ≢ pass → get_elem? views j ≡ some u → Now j u =
      λ j u other e.
      let f = h.fits j u e in
      let there = within views j u e in record {
        draws = λ p. absurd (other (sym ((f.draws p).0 Thread.Cutter cutter_not_writer)
            ∙ d.0 Thread.Cutter cutter_not_writer));
        gives = λ p. absurd (other (sym (f.gives p).0 ∙ g.0));
        knows = knows_fork_else h.owner h.happened j Thread.Writer new u.steps (λ e. absurd (omega arith))
            (λ o. other (sym o ∙ g.0)) f.knows;
      } in
      let last : Now new right = record {
        draws = λ p. absurd (true≢false (sym p));
        gives = λ p. (forked_to h.owner Thread.Writer new Thread.Writer refl, g.1, g.2);
        knows = knows_fork_new h.owner h.happened Thread.Writer new
            (λ t e. let o = has_all h.owner pass d.0 g.0 t in absurd (omega arith)) unwritten;
      } in
      record {
        owner = owner;
        first = h.first;
        happened = h.happened;
        steps = h.steps;
        fits = AllViews-more Now cut right (AllViews-set Now views pass left one others) last;
      }

  -- the cutter's pass joins the writer's
  pub merges : (pass : ℕ) (v : Purse) (other : ℕ) (u : Purse) → v.draws ≡ true → u.gives ≡ true
      → Merges (IsCreditQueue {T = T}) pass v other u (joined_purse v u) spent_purse
  merges pass v other u may_draw may_give items views h at two at' =
      let both : Purse = joined_purse v u in
      let spent : Purse = spent_purse in
      let joined : List Purse = set views pass both in
      let was : get_elem? views other ≡ some u = sym (set_else views pass other both two) ∙ at' in
      let mine = h.fits pass v at in
      let theirs = h.fits other u was in
      let d = mine.draws may_draw in
      let g = theirs.gives may_give in
      let owner : Thread → ℕ = joined_owner h.owner pass other two in
      let Now : ℕ → Purse → Type 0 = Fits owner h.first h.happened in
      let NowElse : ℕ → Purse → Type 0 = λ j y. j ≢ other → Now j y in
      let here : NowElse pass both = λ apart. record {
        draws = λ p. (λ t ne. joined_is h.owner pass other two t (d.0 t ne), d.1);
        gives = λ p. (joined_comes h.owner pass other two Thread.Writer g.0, g.1, g.2);
        knows = knows_join_both h.owner h.happened pass other two v.steps u.steps mine.knows theirs.knows;
      } in
      let others : (j : ℕ) (y : Purse) → j ≢ pass → get_elem? views j ≡ some y → NowElse j y =
      λ j y away e apart.
      let f = h.fits j y e in record {
        draws = λ p. absurd (away (sym ((f.draws p).0 Thread.Cutter cutter_not_writer)
            ∙ d.0 Thread.Cutter cutter_not_writer));
        gives = λ p. absurd (apart (sym (f.gives p).0 ∙ g.0));
        knows = knows_join_else h.owner h.happened pass other two j y.steps away apart f.knows;
      } in
      let now : AllViews NowElse joined = AllViews-set NowElse views pass both here others in
      let none : Now other spent = record {
        draws = λ p. absurd (true≢false (sym p));
        gives = λ p. absurd (true≢false (sym p));
        knows = knows_join_spent h.owner h.happened pass other two;
      } in
      record {
        owner = owner;
        first = h.first;
        happened = h.happened;
        steps = h.steps;
        fits = AllViews-set Now joined other spent none (λ j y apart e. now j y e apart);
      }

  -- a pass that draws and gives back finds out all steps, and that no more were drawn than were there at first and
  -- came back
  pub learns : (pass : ℕ) (v : Purse) → v.draws ≡ true → v.gives ≡ true
      → Learns (IsCreditQueue {T = T}) pass v (λ items. (v.drawn ≤ v.first + v.back) × KnowsSteps v (length items))
  learns pass v may_draw may_give items views h at =
      let mine = h.fits pass v at in
      let d = mine.draws may_draw in
      let g = mine.gives may_give in
      let knows : KnowsSteps v (length items) = record {
        happened = h.happened;
        steps = subst (λ n. AreSteps n h.happened (length items)) (sym g.1) h.steps;
        each = λ t. mine.knows.own t (has_all h.owner pass d.0 g.0 t);
        drawn_is = d.1;
        back_is = g.2;
      } in
      let b = balance h.first h.happened (length items) h.steps in
      let a : v.drawn ≡ drawn_in h.happened = d.1 in
      let f : v.first ≡ h.first = g.1 in
      let k : v.back ≡ back_in h.happened = g.2 in (omega arith, knows)
