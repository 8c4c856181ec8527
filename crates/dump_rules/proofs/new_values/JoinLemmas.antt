-- Ranges in the order of their lower ends, joined, are the runs of their map.
use Rattle.dump_rules.proofs.Prelude.{◌≡◌, ◌≢◌, ℕ, ◌+◌, ◌<◌, ◌≤◌, Bool, true, false, not, List, [], ◌∷◌, nat_le, refl, sym, subst, ◌∙◌, inl, inr, arith, leb-true, leb-false, cases_Bool, leb_tells, and_parts, Range, HasNumber, IsConsistent, AreRuns, is_other, IsSameMap, touches, reaching, joined_from, joined, ordered_into, ordered, runs_of, HaveNumbers}
use Rattle.dump_rules.proofs.new_values.Unique.{runs_once}

-- the ranges have numbers, and each begins no lower than the one before
abbrev pub Rises : List Range → Type 0
Rises [] = Unit {0}
Rises (r ∷ []) = r.from ≤ r.to
Rises (r ∷ s ∷ rest) = (r.from ≤ r.to) × (r.from ≤ s.from) × Rises (s ∷ rest)

pub rises_first : (r : Range) (rest : List Range) → Rises (r ∷ rest) → r.from ≤ r.to
rises_first r [] up = up
rises_first r (s ∷ rest) up = up.0

pub rises_rest : (r : Range) (rest : List Range) → Rises (r ∷ rest) → Rises rest
rises_rest r [] up = tt
rises_rest r (s ∷ rest) up = up.2

-- kinds

alike : (a b : Bool) → not (is_other a b) ≡ true → a ≡ b
alike true true e = refl
alike false false e = refl
alike a b e = let bad : false ≡ true = e in cc

alike_so : (a b : Bool) → a ≡ b → not (is_other a b) ≡ true
alike_so true true e = refl
alike_so false false e = refl
alike_so a b e = cc

clash : (a b : Bool) (ranges : List Range) (n : ℕ) → a ≢ b → IsConsistent ranges → HasNumber ranges a n
    → HasNumber ranges b n → ⊥
clash true false ranges n other consistent one two = consistent n one two
clash false true ranges n other consistent one two = consistent n two one
clash a b ranges n other consistent one two = other refl

touching : (r s : Range) → touches r s ≡ true → (r.inheritable ≡ s.inheritable) × (s.from ≤ r.to + 1)
touching r s e =
    let parts = and_parts (not (is_other r.inheritable s.inheritable)) (nat_le s.from (r.to + 1)) e in
    (alike r.inheritable s.inheritable parts.0, leb-true s.from (r.to + 1) parts.1)

apart : (r s : Range) → touches r s ≡ false → r.inheritable ≡ s.inheritable → r.to + 1 < s.from
apart r s e same =
    leb-false s.from (r.to + 1) (rw (alike_so r.inheritable s.inheritable same) at e)

-- maps

-- if one list means the same map as another, and that as a third, the first means the same as the third
pub same_trans : (a b c : List Range) → IsSameMap a b → IsSameMap b c → IsSameMap a c
same_trans a b c one two kind n = (λ h. (one kind n).0 ((two kind n).0 h), λ h. (two kind n).1 ((one kind n).1 h))

-- if one list means the same map as another, the other means the same as it
pub same_sym : (a b : List Range) → IsSameMap a b → IsSameMap b a
same_sym a b one kind n = ((one kind n).1, (one kind n).0)

pub consistent_same : (a b : List Range) → IsSameMap a b → IsConsistent a → IsConsistent b
consistent_same a b same consistent n one two = consistent n ((same true n).0 one) ((same false n).0 two)

pub same_cons : (r : Range) (a b : List Range) → IsSameMap a b → IsSameMap (r ∷ a) (r ∷ b)
same_cons r a b same kind n = (there, back)
  where
    there : HasNumber (r ∷ b) kind n → HasNumber (r ∷ a) kind n
    there (inl h) = inl h
    there (inr h) = inr ((same kind n).0 h)

    back : HasNumber (r ∷ a) kind n → HasNumber (r ∷ b) kind n
    back (inl h) = inl h
    back (inr h) = inr ((same kind n).1 h)

one_for_two : (r s : Range) (rest : List Range) → r.inheritable ≡ s.inheritable → r.from ≤ s.from → s.from ≤ r.to + 1
    → r.from ≤ r.to
    → IsSameMap (r ∷ s ∷ rest) (reaching r s.to ∷ rest)
one_for_two r s rest alike low near order kind n = (there, back)
  where
    there : HasNumber (reaching r s.to ∷ rest) kind n → HasNumber (r ∷ s ∷ rest) kind n
    there (inl h) =
        let first = h.1 in
        let last = h.2 in
        elim (leb_tells n r.to) [
          | inl within ↦ inl (h.0, first, within.1)
          | inr over ↦ let higher = over.1 in inr (inl (sym alike ∙ h.0, omega arith, omega arith))
        ]
    there (inr h) = inr (inr h)

    back : HasNumber (r ∷ s ∷ rest) kind n → HasNumber (reaching r s.to ∷ rest) kind n
    back (inl h) = let last = h.2 in inl (h.0, h.1, omega arith)
    back (inr (inl h)) = let first = h.1 in let last = h.2 in inl (alike ∙ h.0, omega arith, omega arith)
    back (inr (inr h)) = inr h

rises_joined : (r s : Range) (rest : List Range) → Rises (r ∷ s ∷ rest) → Rises (reaching r s.to ∷ rest)
rises_joined r s [] up = let order = up.0 in omega arith
rises_joined r s (t ∷ rest) up =
    let order = up.0 in let low = up.1 in let next = up.2.1 in (omega arith, omega arith, up.2.2)

-- joined ranges

pub record AreJoined (r : Range) (rest joint : List Range) : Type 0 where
  pub runs : AreRuns joint
  pub same : IsSameMap (r ∷ rest) joint
  pub first : (first : Range) × (later : List Range) × (joint ≡ first ∷ later) × (first.from ≡ r.from)
      × (first.inheritable ≡ r.inheritable)

before : (r first : Range) (later runs : List Range) → runs ≡ first ∷ later → r.from ≤ r.to → r.to < first.from
    → (r.inheritable ≡ first.inheritable → r.to + 1 < first.from) → AreRuns runs → AreRuns (r ∷ runs)
before r first later runs is order above far are =
    subst (λ (l : List Range). AreRuns (r ∷ l)) (sym is)
    (order, above, (λ next alike. let gap = far alike in absurd (omega arith)), subst AreRuns is are)

together : (r s : Range) (rest : List Range) → Rises (r ∷ s ∷ rest) → IsConsistent (r ∷ s ∷ rest) → touches r s ≡ true
    → (Rises (reaching r s.to ∷ rest) → IsConsistent (reaching r s.to ∷ rest) → AreJoined (reaching r s.to) rest
    (joined_from (reaching r s.to) rest))
    → AreJoined r (s ∷ rest) (joined_from (reaching r s.to) rest)
together r s rest up consistent e next =
    let near = touching r s e in
    let same = one_for_two r s rest near.0 up.1 near.1 up.0 in
    let later = next (rises_joined r s rest up) (consistent_same (r ∷ s ∷ rest)
    (reaching r s.to ∷ rest) same consistent) in
    record {
      runs = later.runs;
      same = same_trans (r ∷ s ∷ rest) (reaching r s.to ∷ rest) (joined_from (reaching r s.to) rest) same later.same;
      first = later.first;
    }

above : (r s : Range) (rest : List Range) → Rises (r ∷ s ∷ rest) → IsConsistent (r ∷ s ∷ rest) → touches r s ≡ false
    → r.to < s.from
above r s rest up consistent e = elim (leb_tells s.from r.to) [
  | inl within ↦
      let order = rises_first s rest up.2 in
      let low = up.1 in
      let high = within.1 in
      absurd (clash r.inheritable s.inheritable (r ∷ s ∷ rest) s.from
      (λ alike. let gap = apart r s e alike in omega arith) consistent
      (inl (refl, low, high)) (inr (inl (refl, omega arith, order))))
  | inr over ↦ over.1
]

separate : (r s : Range) (rest : List Range) → Rises (r ∷ s ∷ rest) → IsConsistent (r ∷ s ∷ rest) → touches r s ≡ false
    → AreJoined s rest (joined_from s rest) → AreJoined r (s ∷ rest) (r ∷ joined_from s rest)
separate r s rest up consistent e later =
    let first = later.first in
    let from = first.3 in
    let high = above r s rest up consistent e in
    record {
      runs = before r first.0 first.1 (joined_from s rest) first.2 up.0 (omega arith)
          (λ alike. let gap = apart r s e (alike ∙ first.4) in omega arith) later.runs;
      same = same_cons r (s ∷ rest) (joined_from s rest) later.same;
      first = (r, joined_from s rest, refl, refl, refl);
    }

pub are_joined : (r : Range) (rest : List Range) → Rises (r ∷ rest) → IsConsistent (r ∷ rest)
    → AreJoined r rest (joined_from r rest)
are_joined r [] up consistent = record {
  runs = up;
  same = λ kind n. (λ h. h, λ h. h);
  first = (r, [], refl, refl, refl);
}
are_joined r (s ∷ rest) up consistent =
    elim (cases_Bool (touches r s)) [
      | inl e ↦ rw e (together r s rest up consistent e (are_joined (reaching r s.to) rest))
      | inr e ↦ rw e (separate r s rest up consistent e
          (are_joined s rest up.2 (λ n one two. consistent n (inr one) (inr two))))
    ]

-- ranges that rise and don't contradict each other, joined, are runs, and mean the same map
pub joined_runs : (ranges : List Range) → Rises ranges → IsConsistent ranges → AreRuns (joined ranges)
    × IsSameMap ranges (joined ranges)
joined_runs [] up consistent = (tt, λ kind n. (λ h. h, λ h. h))
joined_runs (r ∷ rest) up consistent = let are = are_joined r rest up consistent in (are.runs, are.same)

-- any ranges, put in order

swapped : (r s : Range) (rest : List Range) → IsSameMap (r ∷ s ∷ rest) (s ∷ r ∷ rest)
swapped r s rest kind n = (turn s r, turn r s)
  where
    turn : (a b : Range) → HasNumber (a ∷ b ∷ rest) kind n → HasNumber (b ∷ a ∷ rest) kind n
    turn a b (inl h) = inr (inl h)
    turn a b (inr (inl h)) = inl h
    turn a b (inr (inr h)) = inr (inr h)

-- a range is put into sorted ranges, after a first one that begins no higher
record AreOrdered (r : Range) (rest all : List Range) : Type 0 where
  up : Rises all
  same : IsSameMap (r ∷ rest) all
  behind : (low : Range) → low.from ≤ low.to → low.from ≤ r.from → Rises (low ∷ rest) → Rises (low ∷ all)

into_order : (r : Range) (rest : List Range) → r.from ≤ r.to → Rises rest → AreOrdered r rest (ordered_into r rest)
into_order r [] order up = record {
  up = order;
  same = λ kind n. (λ h. h, λ h. h);
  behind = λ low has first before. (has, first, order);
}
into_order r (s ∷ rest) order up = elim (leb_tells r.from s.from) [
  | inl (e, low) ↦ rw e (record {
    up = (order, low, up);
    same = λ kind n. (λ h. h, λ h. h);
    behind = λ first has under before. (has, under, (order, low, up));
  })
  | inr (e, high) ↦
      let later = into_order r rest order (rises_rest s rest up) in
      let behind = later.behind s (rises_first s rest up) (omega arith) up in
      rw e (record {
        up = behind;
        same = same_trans (r ∷ s ∷ rest) (s ∷ r ∷ rest) (s ∷ ordered_into r rest) (swapped r s rest)
            (same_cons s (r ∷ rest) (ordered_into r rest) later.same);
        behind = λ first some under before. (some, before.1, behind);
      })
]

pub in_order : (ranges : List Range) → HaveNumbers ranges → Rises (ordered ranges) × IsSameMap ranges (ordered ranges)
in_order [] have = (tt, λ kind n. (λ h. h, λ h. h))
in_order (r ∷ rest) have =
    let later = in_order rest have.1 in
    let here = into_order r (ordered rest) have.0 later.0 in (
      here.up,
      same_trans (r ∷ rest) (r ∷ ordered rest) (ordered (r ∷ rest))
          (same_cons r rest (ordered rest) later.1) here.same,
    )

-- ranges that have numbers and don't contradict each other have runs of the same map
pub runs_are : (ranges : List Range) → HaveNumbers ranges → IsConsistent ranges → AreRuns (runs_of ranges)
    × IsSameMap ranges (runs_of ranges)
runs_are ranges have consistent =
    let order = in_order ranges have in
    let join = joined_runs (ordered ranges) order.0 (consistent_same ranges (ordered ranges) order.1 consistent) in
    (join.0, same_trans ranges (ordered ranges) (joined (ordered ranges)) order.1 join.1)

-- ranges in any order of their lower ends have the same runs
pub runs_any_order : (ranges others : List Range) → HaveNumbers ranges → IsConsistent ranges → Rises others
    → IsSameMap ranges others
    → joined others ≡ runs_of ranges
runs_any_order ranges others have consistent up same =
    let are = runs_are ranges have consistent in
    let join = joined_runs others up (consistent_same ranges others same consistent) in
    runs_once (joined others) (runs_of ranges) join.0 are.0
    (same_trans (joined others) ranges (runs_of ranges)
    (same_sym ranges (joined others) (same_trans ranges others (joined others) same join.1)) are.1)
