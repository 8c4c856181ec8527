-- Numbered items that arrive in any order and are released in the order of their numbers.
use Rattle.dump_lanes.proofs.Prelude.{◌≡◌, ◌≢◌, inl, inr, ℕ, zero, suc, ◌+◌, ◌<◌, ◌≤◌, ◌%◌, List, [], ◌∷◌, ◌++◌, length, Option, Some, None, slice_set, sum_by, refl, sym, ap, ◌∙◌, subst, arith, append_assoc, replicate, cases_eq, set-get_or, length-replicate, none-some, sum_by-cons, sum_by-append, sum_by_push, sum_by-set, WeighsSame, first_numbers, Lacks, IsWaiting, Clash, slot_item, with_slot_item, held, Row, Taken, Wrong, ◌⊎◌}
use Rattle.std.proofs.Common.{slice_index_or}
use Rattle.std.proofs.lemmas.List.{length-set, get_or-set_same, get_or-set_other}
use Rattle.std.proofs.Math.Nat.{mod-lt}
use Rattle.dump_lanes.proofs.core.Weights.{weigh, weigh_is_sum, weigh-append, only, only_itself, only_other, within_range, above_range, range_next}
use Rattle.dump_lanes.proofs.core.Marks.{get_or_replicate}
use Rattle.dump_lanes.proofs.core.Slots.{near}

-- what both lists weigh
weighed : (f : ℕ → ℕ) (xs ys : List ℕ) → WeighsSame xs ys → weigh f xs ≡ weigh f ys
weighed f xs ys h = weigh_is_sum f xs ∙ (h f ∙ sym (weigh_is_sum f ys))

once_at_most : (m count : ℕ) → weigh (only m) (first_numbers count) ≤ 1
once_at_most m count = grind (arith, within_range m count, above_range m count)

-- where this many of the first arrived, those released and the others weigh what they weigh
split_weight : (released count : ℕ) (arrived others : List ℕ) → WeighsSame arrived (first_numbers count)
    → WeighsSame arrived (first_numbers released ++ others)
    → (f : ℕ → ℕ) → weigh f (first_numbers released) + weigh f others ≡ weigh f (first_numbers count)
split_weight released count arrived others all same f =
    sym (weigh-append f (first_numbers released) others)
    ∙ (sym (weighed f arrived (first_numbers released ++ others) same) ∙ weighed f arrived (first_numbers count) all)

-- one of the first that comes after those released
comes_after : (count released m : ℕ) (rest : List ℕ) → weigh (only m) (first_numbers released) +
    (1 + weigh (only m) rest) ≡ weigh (only m) (first_numbers count)
    → (released ≤ m) × (m < count)
comes_after count released m rest e =
    (grind (arith, within_range m released, once_at_most m count), grind (arith, above_range m count))

-- where this many of the first arrived, each once, no two clash
pub no_clash : (window released count : ℕ) (arrived : List ℕ) → WeighsSame arrived (first_numbers count)
    → count ≤ released + window
    → Clash window released arrived → ⊥
no_clash window released count arrived all most (Taken m n rest same turn) =
    let of_m = split_weight released count arrived (m ∷ n ∷ rest) all same (only m) in
    let of_n = split_weight released count arrived (m ∷ n ∷ rest) all same (only n) in
    let one_m = only_itself m in
    let one_n = only_itself n in
    let a = comes_after count released m (n ∷ rest) (omega arith) in
    let b = comes_after count released n (m ∷ rest) (omega arith) in
    let e = near window released count m n a.0 b.0 a.1 b.1 most turn in
    let other : only n m ≡ 1 = ap (only n) e ∙ one_n in
    let once = once_at_most n count in omega arith
no_clash window released count arrived all most (Wrong m rest same turn other) =
    let of_m = split_weight released count arrived (m ∷ rest) all same (only m) in
    let one = only_itself m in
    let a = comes_after count released m rest (omega arith) in
    other (near window released (suc m) m released a.0 (omega arith) (omega arith) (omega arith) (omega arith) turn)

lacks_none : (n : ℕ) (ns : List ℕ) → Lacks n ns → weigh (only n) ns ≡ 0
lacks_none n [] h = refl
lacks_none n (m ∷ ns) h =
    let here = only_other n m h.0 in
    let more = lacks_none n ns h.1 in omega arith

-- where this many of the first arrived, each once, and the next to be released isn't there, all were released
pub none_waits : (released count : ℕ) (arrived : List ℕ) → WeighsSame arrived (first_numbers count)
    → IsWaiting released arrived → released ≡ count
none_waits released count arrived all w =
    let none = lacks_none released w.others w.lacks in
    let a = split_weight released count arrived w.others all w.same (only released) in
    let b = split_weight released count arrived w.others all w.same (only count) in
    grind (
      arith,
      within_range released count,
      above_range released released,
      within_range count released,
      above_range count count,
    )

then_more : (released : ℕ) (arrived others more : List ℕ) → WeighsSame arrived (first_numbers released ++ others)
    → WeighsSame (arrived ++ more) (first_numbers released ++ (others ++ more))
then_more released arrived others more h f =
    sum_by-append f arrived more ∙ (ap (λ k. k + sum_by f more) (h f)
    ∙ (sym (sum_by-append f (first_numbers released ++ others) more)
    ∙ ap (sum_by f) (append_assoc (first_numbers released) others more)))

-- items that still have to arrive change nothing about clashes
pub still_clash : (window released : ℕ) (arrived more : List ℕ) → Clash window released arrived
    → Clash window released (arrived ++ more)
still_clash window released arrived more (Taken m n rest same turn) =
    Taken m n (rest ++ more) (then_more released arrived (m ∷ n ∷ rest) more same) turn
still_clash window released arrived more (Wrong m rest same turn other) =
    Wrong m (rest ++ more) (then_more released arrived (m ∷ rest) more same) turn other

module _ {T : Type 0} (number : T → ℕ) where
  -- what an item in a place weighs
  abbrev at_place : (ℕ → ℕ) → Option T → ℕ
  at_place f None = 0
  at_place f (Some item) = f (number item)

  abbrev places_of : List (Option T) → List ℕ
  places_of places = held number places

  held_is : (f : ℕ → ℕ) (places : List (Option T)) → sum_by f (places_of places) ≡ sum_by (at_place f) places
  held_is f [] = refl
  held_is f (None ∷ places) = let more = held_is f places in omega (arith, sum_by-cons (at_place f) None places)
  held_is f (Some item ∷ places) = let more = held_is f places in omega
      (arith, sum_by-cons (at_place f) (Some item) places, sum_by-cons f (number item) (places_of places))

  held_set : (f : ℕ → ℕ) (places : List (Option T)) (k : ℕ) (new : Option T) → k < length places
      → sum_by f (places_of (slice_set places k new)) + at_place f (slice_index_or places k None) ≡ sum_by f
      (places_of places) + at_place f new
  held_set f places k new lt =
      let a = held_is f places in
      let b = held_is f (slice_set places k new) in
      let c = sum_by-set (at_place f) places k new None lt in omega arith

  put_in : (f : ℕ → ℕ) (places : List (Option T)) (k : ℕ) (item : T) → k < length places
      → slice_index_or places k None ≡ None
      → sum_by f (places_of (slice_set places k (Some item))) ≡ sum_by f (places_of places) + f (number item)
  put_in f places k item lt free =
      let a : sum_by f (places_of (slice_set places k (Some item))) + at_place f
      (slice_index_or places k None) ≡ sum_by f (places_of places) + f (number item) = held_set f places k
      (Some item) lt in
      let b : at_place f (slice_index_or places k None) ≡ 0 = ap (at_place f) free in omega arith

  taken_out : (f : ℕ → ℕ) (places : List (Option T)) (k : ℕ) (item : T) → k < length places
      → slice_index_or places k None ≡ Some item
      → sum_by f (places_of (slice_set places k None)) + f (number item) ≡ sum_by f (places_of places)
  taken_out f places k item lt stands =
      let a : sum_by f (places_of (slice_set places k None)) + at_place f (slice_index_or places k None) ≡ sum_by f
      (places_of places) + 0 = held_set f places k None lt in
      let b : at_place f (slice_index_or places k None) ≡ f (number item) = ap (at_place f) stands in omega arith

  -- an empty row
  none_held : (n : ℕ) → places_of (replicate n None) ≡ []
  none_held zero = refl
  none_held (suc n) = none_held n

  -- at first nothing has arrived, and each place is free
  pub empty_row : (window : ℕ) → Row number window 0 [] (replicate window None)
  empty_row window = record {
    wide = length-replicate window None;
    placed = λ k item e. absurd (none-some item (sym (get_or_replicate window k None) ∙ e));
    same = λ f. ap (sum_by f) (sym (none_held window));
  }

  -- what is in a row after a change
  placed_set : (places : List (Option T)) (window i : ℕ) (new : Option T) → i < length places
      → ((k : ℕ) (item : T) → slice_index_or places k None ≡ Some item → number item % window ≡ k)
      → ((item : T) → new ≡ Some item → number item % window ≡ i)
      → (k : ℕ) (item : T) → slice_index_or (slice_set places i new) k None ≡ Some item → number item % window ≡ k
  placed_set places window i new lt old here k item e = by (cases_eq k i)
    where
      by : ((k ≡ i) ⊎ (k ≡ i → ⊥)) → number item % window ≡ k
      by (inl same) =
          here item (sym (get_or-set_same places i new None lt)
          ∙ (ap (λ (j : ℕ). slice_index_or (slice_set places i new) j None) (sym same) ∙ e)) ∙ sym same
      by (inr other) = old k item (sym (get_or-set_other places i k new None other) ∙ e)

  -- an item is put into its free place
  pub arrived_more : (window released : ℕ) (arrived : List ℕ) (places : List (Option T)) (item : T) → 0 < length places
      → Row number window released arrived places
      → slot_item places (number item) ≡ None → Row number window released (arrived ++ number item ∷ [])
      (with_slot_item places (number item) (Some item))
  arrived_more window released arrived places item some r free =
      let i : ℕ = number item % length places in
      let lt : i < length places = mod-lt (number item) some in
      record {
        wide = length-set places i (Some item) ∙ r.wide;
        placed = placed_set places window i (Some item) lt r.placed
            (λ x e.
            let same : x ≡ item = cc in
            ap (λ (y : T). number y % window) same ∙ ap (λ (w : ℕ). number item % w) (sym r.wide));
        same = λ f. omega (arith, sum_by-append {X = ℕ}, sum_by_push {X = ℕ}, r.same f, put_in f places i item lt free);
      }

  -- the next item is released
  pub released_more : (window released : ℕ) (arrived : List ℕ) (places : List (Option T)) (item : T) → 0 < length places
      → Row number window released arrived places
      → slot_item places released ≡ Some item → number item ≡ released → Row number window (released + 1) arrived
      (with_slot_item places released None)
  released_more window released arrived places item some r stands is =
      let i : ℕ = released % length places in
      let lt : i < length places = mod-lt released some in
      record {
        wide = length-set places i None ∙ r.wide;
        placed = placed_set places window i None lt r.placed (λ x e. absurd (none-some x e));
        same = λ f.
            let b = r.same f in
            let e = taken_out f places i item lt stands in
            let g = ap (sum_by f) (range_next released) ∙ sum_by_push f (first_numbers released) released in
            let h : f (number item) ≡ f released = ap f is in omega (arith, sum_by-append {X = ℕ});
      }

  -- the next arrives, and is released without a place in the row
  pub passed_on : (window released : ℕ) (arrived : List ℕ) (places : List (Option T))
      → Row number window released arrived places
      → Row number window (released + 1) (arrived ++ released ∷ []) places
  passed_on window released arrived places r = record {
    wide = r.wide;
    placed = r.placed;
    same = λ f.
        let b = r.same f in
        let e = ap (sum_by f) (range_next released) ∙ sum_by_push f (first_numbers released) released in
        omega (arith, sum_by-append {X = ℕ}, sum_by_push {X = ℕ});
  }

  -- nothing is released
  pub same_row : (window released : ℕ) (arrived : List ℕ) (places : List (Option T))
      → Row number window released arrived places
      → slot_item places released ≡ None → Row number window released arrived (with_slot_item places released None)
  same_row window released arrived places r free =
      let i : ℕ = released % length places in
      let same : slice_set places i None ≡ places = ap (λ (o : Option T). slice_set places i o) (sym free)
      ∙ set-get_or places i None in
      subst (Row number window released arrived) (sym same) r

  lacks_all : (places : List (Option T)) (n : ℕ) → ((k : ℕ) (item : T) → slice_index_or places k None ≡ Some item
      → number item ≢ n) → Lacks n (places_of places)
  lacks_all [] n h = tt
  lacks_all (None ∷ places) n h = lacks_all places n (λ k. h (suc k))
  lacks_all (Some item ∷ places) n h = (h 0 item refl, lacks_all places n (λ k. h (suc k)))

  -- nothing is in the place of the next item
  pub next_is_missing : (window released : ℕ) (arrived : List ℕ) (places : List (Option T))
      → Row number window released arrived places
      → slot_item places released ≡ None → IsWaiting released arrived
  next_is_missing window released arrived places r free = record {
    others = places_of places;
    same = r.same;
    lacks = lacks_all places released (λ k item e is.
        let at : k ≡ released % length places = sym (r.placed k item e)
        ∙ (ap (λ (n : ℕ). n % window) is ∙ ap (λ (w : ℕ). released % w) (sym r.wide)) in
        none-some item (sym free ∙ (ap (λ (j : ℕ). slice_index_or places j None) (sym at) ∙ e)));
  }

  -- the place of the next item has another item
  pub wrong_item : (window released : ℕ) (arrived : List ℕ) (places : List (Option T)) (item : T) → 0 < length places
      → Row number window released arrived places
      → slot_item places released ≡ Some item → number item ≢ released → Clash window released arrived
  wrong_item window released arrived places item some r stands other =
      let i : ℕ = released % length places in
      let lt : i < length places = mod-lt released some in
      let rest : List ℕ = places_of (slice_set places i None) in
      Wrong (number item) rest
      (λ f. omega (arith, sum_by-append {X = ℕ}, sum_by-cons {X = ℕ}, r.same f, taken_out f places i item lt stands))
      (r.placed i item stands ∙ ap (λ (w : ℕ). released % w) r.wide)
      other

  -- the place of an item is taken
  pub taken_place : (window released : ℕ) (arrived : List ℕ) (places : List (Option T)) (item other : T)
      → 0 < length places → Row number window released arrived places
      → slot_item places (number item) ≡ Some other → Clash window released (arrived ++ number item ∷ [])
  taken_place window released arrived places item other some r stands =
      let i : ℕ = number item % length places in
      let lt : i < length places = mod-lt (number item) some in
      let rest : List ℕ = places_of (slice_set places i None) in
      Taken (number other) (number item) rest
      (λ f.
      let b = r.same f in
      let e = taken_out f places i other lt stands in
      omega (arith, sum_by-append {X = ℕ}, sum_by-cons {X = ℕ}, sum_by_push {X = ℕ}))
      (r.placed i other stands ∙ ap (λ (w : ℕ). number item % w) r.wide)
