-- Each step on the stop word obeys its rule.
use Rattle.dump_lanes.proofs.Prelude.{◌≡◌, ◌==◌, ◌/◌, ◌%◌, ◌*◌, ◌<◌, ◌≤◌, ℕ, Bool, true, false, true≢false, List, [], ◌∷◌, length, set, sum_by, sym, refl, ap, ◌∙◌, subst, slice_index, arith, or_left, or_right, sum_by_push, sum_by-cons, sum_by-append, WordStep, Marks, Event, stop_share, is_event, after_raise, after_look, left_half, right_half, joined_marks, word_of, SomeRaised, IsStop, SeesOwn, HasLooked, HasChecked, ⊎_elim, or_cases}
use Rattle.std.proofs.Common.{IsTrue}
use mathlib.Core.Option.{some, some-injective}
use lib.ListN.{get_elem?}
use mathlib.Core.Logic.{dite}
use native.Mathlib.Decide.{ℕ_discrete}
use Rattle.atomic_table.specs.Table.{State, Me, Allows, Splits, Joins, keeps}
use Rattle.atomic_table.proofs.Lists.{set_here, set_else, at_longer}
use Rattle.dump_lanes.specs.declared.stop.protocol.WordStep.TheVariants as kind
use Rattle.dump_lanes.specs.StopRule.{IsStep}
use Rattle.dump_lanes.specs.steps.StopMarks.{spent, Fits, KnowsSteps}
use Rattle.dump_lanes.proofs.Views.{AllViews, AllViews-set, AllViews-more, within, sum_by-set, sum_by-alone, sum_by-least}

abbrev share_of : Marks → ℕ
share_of v = v.share

abbrev raised_by : Marks → ℕ
raised_by v = word_of v.raised

abbrev made_by : (WordStep → ℕ) → Marks → ℕ
made_by weight v = sum_by weight v.steps

-- a raise, and a look, belongs to its event
raise_share : (was : Bool) (event : Event) → IsTrue (is_event kind.Raise event) → true ≡ stop_share was event
raise_share was Event.SequencerRaises e = refl
raise_share was Event.WriterRaises e = refl
raise_share was event e = absurd (true≢false (sym e))

look_share : (up : Bool) (event : Event) → IsTrue (is_event (kind.Look up) event) → up ≡ stop_share up event
look_share up Event.SequencerRaises e = absurd (true≢false (sym e))
look_share up Event.WriterRaises e = absurd (true≢false (sym e))
look_share up event e = refl

-- a raise sets the stop word, whatever it was
pub raise_is_step : (was : Bool) → IsStep was kind.Raise true
raise_is_step was = record { event = Event.WriterRaises; named = refl; share = raise_share was; says = refl }

-- a look finds the value of the stop word, and doesn't change it
pub look_is_step : (up found : Bool) → found ≡ up → IsStep up (kind.Look found) up
look_is_step up found e = record {
  event = Event.Look;
  named = refl;
  share = λ event is. look_share up event (subst (λ b. IsTrue (is_event (kind.Look b) event)) e is);
  says = e;
}

found_is : (up : Bool) (n : ℕ) → n ≡ word_of up → (n == 1) ≡ up
found_is true n e = ap (λ (k : ℕ). k == 1) e
found_is false n e = ap (λ (k : ℕ). k == 1) e

-- the value of the word says whether the stop is raised
seen_up : (up : Bool) (n : ℕ) → n ≡ word_of up → IsTrue (n == 1) → IsTrue up
seen_up up n e t = sym (found_is up n e) ∙ t

up_is : (up : Bool) → 1 ≤ word_of up → IsTrue up
up_is true e = refl
up_is false e = absurd (omega arith)

one_is : (up : Bool) → IsTrue up → word_of up ≡ 1
one_is up e = ap word_of e

-- if one seat changes, some seat has raised the stop afterwards; this has to be shown if it was the changed one
move_some : (views : List Marks) (id : ℕ) (v w : Marks) → get_elem? views id ≡ some v
    → (IsTrue v.raised → SomeRaised (set views id w)) → SomeRaised views → SomeRaised (set views id w)
move_some views id v w at here one = dite (ℕ_discrete one.seat id)
    (λ same.
    let e : get_elem? views id ≡ some one.view = subst (λ (k : ℕ). get_elem? views k ≡ some one.view) same one.stands in
    here (ap (λ (m : Marks). m.raised) (some-injective v one.view (sym at ∙ e)) ∙ one.raised))
    (λ apart. record {
      seat = one.seat;
      view = one.view;
      stands = set_else views id one.seat w apart ∙ one.stands;
      raised = one.raised;
    })

-- if one seat changes and keeps its mark, some seat has raised the stop afterwards
keep_some : (views : List Marks) (id : ℕ) (v w : Marks) → get_elem? views id ≡ some v
    → (IsTrue v.raised → IsTrue w.raised) → SomeRaised views → SomeRaised (set views id w)
keep_some views id v w at keep = move_some views id v w at
    (λ r. record { seat = id; view = w; stands = set_here views id w (within views id v at); raised = keep r })

-- a seat with the whole share is the only one that can have raised the stop
own : (views : List Marks) (id : ℕ) (v : Marks) (up : Bool) → get_elem? views id ≡ some v
    → sum_by share_of views ≡ v.share
    → AllViews (Fits up) views → SomeRaised views → IsTrue v.raised
own views id v up at all fits one =
    let e = sum_by-alone share_of raised_by views id v
    (λ j u d none. ap word_of ((fits j u d).spends none).0) at all in
    let least = sum_by-least raised_by views one.seat one.view one.stands in
    let r = one_is one.view.raised one.raised in
    up_is v.raised (omega arith)

-- the word is written, and one seat's view is replaced
abbrev written : State (Unit {0}) Marks → ℕ → ℕ → Marks → State (Unit {0}) Marks
written s word id w = record { words = set s.words 0 word; homes = s.homes; views = set s.views id w }

-- a seat with a share reads the word, and stores what it found
pub looks : (slots id : ℕ) (me : Me (Unit {0}) Marks) → 0 < me.0.share → Allows IsStop slots id me 0 (λ n. n)
    (λ n new. HasLooked me n new)
looks slots id me shared s h long at small =
    let n : ℕ = slice_index s.words 0 in
    let w : Marks = after_look me.0 (n == 1) in
    let e : n ≡ word_of h.up = ap (λ l. slice_index l 0) h.word in
    let mine = h.fits id me.0 at in
    let step : WordStep = kind.Look (n == 1) in
    let whole : SeesOwn w = λ share seen. own s.views id me.0 h.up at (h.shares ∙ sym share) h.fits
    (h.someone (seen_up h.up n e seen)) in
    let told : HasLooked me n (w, me.1) = record {
      view = refl;
      own = λ r. e ∙ one_is h.up (mine.raises r);
      before = λ r. e ∙ one_is h.up (mine.sees r);
      whole = whole;
    } in
    let after : IsStop (written s (slice_index s.words 0) id w) = record {
      up = h.up;
      word = ap (λ l. set l 0 (slice_index l 0)) h.word;
      happened = step ∷ h.happened;
      steps = (h.up, look_is_step h.up (n == 1) (found_is h.up n e), h.steps);
      made = λ weight.
          let k = sum_by-set (made_by weight) s.views id me.0 w at in
          let all = h.made weight in omega (arith, sum_by-cons {X = WordStep});
      someone = λ up. keep_some s.views id me.0 w at (λ r. r) (h.someone up);
      shares = let k = sum_by-set share_of s.views id me.0 w at in let all = h.shares in omega arith;
      fits = AllViews-set
          (Fits h.up) s.views id w record {
            raises = mine.raises;
            sees = seen_up h.up n e;
            spends = λ none. absurd (omega arith);
          } (λ j u other d. h.fits j u d);
    } in (w, keeps, tt, after, told)

-- a view with the whole share made all steps
knows : (s : State (Unit {0}) Marks) (h : IsStop s) (id : ℕ) (v : Marks) → get_elem? s.views id ≡ some v → v.share ≡ 4
    → KnowsSteps v
knows s h id v at whole = record {
  happened = h.happened;
  up = h.up;
  steps = h.steps;
  made = λ weight. sym (sum_by-alone share_of (made_by weight) s.views id v
      (λ j u d none. ap (λ l. sum_by weight l) ((h.fits j u d).spends none).1) at (h.shares ∙ sym whole))
      ∙ h.made weight;
}

-- a seat finds out what its share says
pub checks : (slots id : ℕ) (me : Me (Unit {0}) Marks) → Allows IsStop slots id me 0 (λ n. n)
    (λ n new. HasChecked me new)
checks slots id me s h long at small =
    let w : Marks = me.0 in
    let mine = h.fits id me.0 at in
    let whole : SeesOwn me.0 = λ share seen. own s.views id me.0 h.up at (h.shares ∙ sym share) h.fits
    (h.someone (mine.sees seen)) in
    let told : HasChecked me (me.0, me.1) = record { view = refl; whole = whole; knows = knows s h id me.0 at } in
    let after : IsStop (written s (slice_index s.words 0) id w) = record {
      up = h.up;
      word = ap (λ l. set l 0 (slice_index l 0)) h.word;
      happened = h.happened;
      steps = h.steps;
      made = λ weight. let k = sum_by-set
          (made_by weight) s.views id me.0 w at in let all = h.made weight in omega arith;
      someone = λ up. keep_some s.views id me.0 w at (λ r. r) (h.someone up);
      shares = let k = sum_by-set share_of s.views id me.0 w at in let all = h.shares in omega arith;
      fits = AllViews-set (Fits h.up) s.views id w mine (λ j u other d. h.fits j u d);
    } in (me.0, keeps, tt, after, told)

-- a seat raises the word
pub raises : (slots id : ℕ) (me : Me (Unit {0}) Marks) → 0 < me.0.share
    → Allows IsStop slots id me 0 (λ n. 1) (λ n new. new ≡ (after_raise me.0, me.1))
raises slots id me shared s h long at small =
    let w : Marks = after_raise me.0 in
    let mine : Fits true id w =
    record { raises = λ r. refl; sees = λ r. refl; spends = λ none. absurd (omega arith) } in
    let after : IsStop (written s 1 id w) = record {
      up = true;
      word = ap (λ l. set l 0 1) h.word;
      happened = kind.Raise ∷ h.happened;
      steps = (h.up, raise_is_step h.up, h.steps);
      made = λ weight.
          let k = sum_by-set (made_by weight) s.views id me.0 w at in
          let all = h.made weight in omega (arith, sum_by-cons {X = WordStep});
      someone = λ up. record {
        seat = id;
        view = w;
        stands = set_here s.views id w (within s.views id me.0 at);
        raised = refl;
      };
      shares = let k = sum_by-set share_of s.views id me.0 w at in let all = h.shares in omega arith;
      fits = AllViews-set (Fits true) s.views id w mine
          (λ j u other e. record { raises = λ r. refl; sees = λ r. refl; spends = (h.fits j u e).spends });
    } in (w, keeps, tt, after, refl)

half_twice : (n : ℕ) → n % 2 ≡ 0 → (n / 2) * 2 ≡ n
half_twice n even = omega arith

half_some : (n : ℕ) → n % 2 ≡ 0 → 0 < n → 0 < n / 2
half_some n even shared = omega arith

-- a seat is split in two
pub splits : (id : ℕ) (v : Marks) → v.share % 2 ≡ 0 → 0 < v.share → Splits {S = Unit {0}} IsStop id v (left_half v)
    (right_half v)
splits id v even shared s h at =
    let half : ℕ = v.share / 2 in
    let twice : half * 2 ≡ v.share = half_twice v.share even in
    let shared_half : 0 < half = half_some v.share even shared in
    let w : Marks = left_half v in
    let r : Marks = right_half v in
    let m = h.fits id v at in
    let cut : List Marks = set s.views id w in
    let mine : Fits h.up id w = record { raises = m.raises; sees = m.sees; spends = λ none. absurd (omega arith) } in
    let theirs : Fits h.up (length cut) r =
    record { raises = m.raises; sees = m.sees; spends = λ none. absurd (omega arith) } in
    let old : AllViews (Fits h.up) cut = AllViews-set (Fits h.up) s.views id w mine (λ j u other d. h.fits j u d) in
    record {
      up = h.up;
      word = h.word;
      happened = h.happened;
      steps = h.steps;
      made = λ weight.
          let k = sum_by-set (made_by weight) s.views id v w at in
          let l = sum_by_push (made_by weight) cut r in
          let all = h.made weight in omega arith;
      someone = λ up.
          let x = keep_some s.views id v w at (λ r. r) (h.someone up) in
          record {
            seat = x.seat;
            view = x.view;
            stands = at_longer cut (r ∷ []) x.seat x.view x.stands;
            raised = x.raised;
          };
      shares = let k = sum_by-set share_of s.views id v w at in let l = sum_by_push share_of cut r in let all = h.shares in omega arith;
      fits = AllViews-more (Fits h.up) cut r old theirs;
    }

-- a seat joins another
pub joins : (id : ℕ) (v : Marks) (other : ℕ) (u : Marks) → 0 < v.share
    → Joins {S = Unit {0}} IsStop id v other u (joined_marks v u) spent
joins id v other u shared s h at two at' =
    let both : Marks = joined_marks v u in
    let taken : List Marks = set s.views id both in
    let was : get_elem? s.views other ≡ some u = sym (set_else s.views id other both two) ∙ at' in
    let m = h.fits id v at in
    let k = h.fits other u was in
    let mine : Fits h.up id both = record {
      raises = λ r. ⊎_elim m.raises k.raises (or_cases v.raised u.raised r);
      sees = λ s. ⊎_elim m.sees k.sees (or_cases v.seen u.seen s);
      spends = λ none. absurd (omega arith);
    } in
    let now : AllViews (Fits h.up) taken = AllViews-set (Fits h.up) s.views id both mine
    (λ j y other d. h.fits j y d) in
    let here : get_elem? taken id ≡ some both = set_here s.views id both (within s.views id v at) in
    let stays : SomeRaised taken → SomeRaised (set taken other spent) = move_some taken other u spent at'
    (λ r. record {
      seat = id;
      view = both;
      stands = set_else taken other id spent (λ b. two (sym b)) ∙ here;
      raised = or_right v.raised u.raised r;
    }) in
    let none : Fits h.up other spent = record {
      raises = λ r. absurd (true≢false (sym r));
      sees = λ r. absurd (true≢false (sym r));
      spends = λ e. (refl, refl);
    } in
    record {
      up = h.up;
      word = h.word;
      happened = h.happened;
      steps = h.steps;
      made = λ weight.
          let a = sum_by-set (made_by weight) s.views id v both at in
          let b = sum_by-set (made_by weight) taken other u spent at' in
          let c = sum_by-append weight u.steps v.steps in
          let all = h.made weight in omega arith;
      someone = λ up. stays (keep_some s.views id v both at (or_left v.raised u.raised) (h.someone up));
      shares = let a = sum_by-set share_of s.views id v both at in let b = sum_by-set share_of taken other u spent at' in let all = h.shares in omega arith;
      fits = AllViews-set (Fits h.up) taken other spent none (λ j y apart d. now j y d);
    }
