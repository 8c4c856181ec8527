-- The new numbers of the kept revisions of a range are a range.
use Rattle.dump_rules.proofs.Prelude.{◌≡◌, ◌⊎◌, ◌↔◌, ℕ, zero, suc, ◌+◌, ◌-◌, ◌<◌, ◌≤◌, Bool, true, false, cond, List, [], ◌∷◌, length, get_or, nat_lt, nat_le, refl, sym, ap, subst, ◌∙◌, inl, inr, arith, Some, None, Option, Contains, lt-ltb, le-ltb, ltb-true, both_ways, cases_Bool, get_or_default, leb_tells, nat_tests, Contains-get_or, Range, HasNumber, IsConsistent, range_of, range_parts, KeptRevisions, new_number, RiseFrom, IsRenumberedMap, HaveNumbers, with_range, ranges_of, list_ranges, new_range, kept_range, new_ranges, part_range, parts_ranges, list_new}
use Rattle.dump_rules.proofs.ReachLemmas.{below, up_to, below-cons, up_to-cons, none_below, from_first, image_of_some}

-- counts and places

pub up_to_is : (n : ℕ) (numbers : List ℕ) → up_to n numbers ≡ below (n + 1) numbers
up_to_is n [] = refl
up_to_is n (k ∷ numbers) =
    let later = up_to_is n numbers in
    let test : nat_le k n ≡ nat_lt k (n + 1) = elim (leb_tells k n) [
      | inl within ↦ let low = within.1 in within.0 ∙ sym (lt-ltb k (n + 1) (omega arith))
      | inr over ↦ let high = over.1 in over.0 ∙ (grind (arith, nat_tests))
    ] in
    up_to-cons n k numbers ∙ rw (test, later) (sym (below-cons (n + 1) k numbers))

one_at_most : (t : Bool) → cond t 1 0 ≤ 1
one_at_most true = omega arith
one_at_most false = omega arith

below_most : (m : ℕ) (numbers : List ℕ) → below m numbers ≤ length numbers
below_most m [] = omega arith
below_most m (k ∷ numbers) =
    let later = below_most m numbers in
    let counted = below-cons m k numbers in
    let one = one_at_most (nat_lt k m) in
    omega arith

low_below : (first m : ℕ) (numbers : List ℕ) → RiseFrom first numbers → (i d : ℕ) → i < length numbers
    → m ≤ get_or numbers i d → below m numbers ≤ i
low_below first m [] up i d within low = absurd (omega arith)
low_below first m (k ∷ numbers) up zero d within low =
    let none = none_below k m (k ∷ numbers) low (omega arith, up.1) in
    omega arith
low_below first m (k ∷ numbers) up (suc i) d within low =
    let later = low_below (k + 1) m numbers up.1 i d (omega arith) low in
    let counted = below-cons m k numbers in
    let one = one_at_most (nat_lt k m) in
    omega arith

high_below : (first m : ℕ) (numbers : List ℕ) → RiseFrom first numbers → (i d : ℕ) → i < length numbers
    → get_or numbers i d < m → i < below m numbers
high_below first m [] up i d within high = absurd (omega arith)
high_below first m (k ∷ numbers) up zero d within high =
    let passes = lt-ltb k m high in
    let counted : below m (k ∷ numbers) ≡ 1 + below m numbers = below-cons m k numbers ∙ rw passes refl in
    omega arith
high_below first m (k ∷ numbers) up (suc i) d within high =
    let lowest = from_first (k + 1) numbers up.1 i d (omega arith) in
    let later = high_below (k + 1) m numbers up.1 i d (omega arith) high in
    let passes = lt-ltb k m (omega arith) in
    let counted : below m (k ∷ numbers) ≡ 1 + below m numbers = below-cons m k numbers ∙ rw passes refl in
    omega arith

at_place : (first : ℕ) (numbers : List ℕ) → RiseFrom first numbers → (i d : ℕ) → i < length numbers
    → below (get_or numbers i d) numbers ≡ i
at_place first [] up i d within = absurd (omega arith)
at_place first (k ∷ numbers) up zero d within =
    none_below k k (k ∷ numbers) (omega arith) (omega arith, up.1)
at_place first (k ∷ numbers) up (suc i) d within =
    let lowest = from_first (k + 1) numbers up.1 i d (omega arith) in
    let later = at_place (k + 1) numbers up.1 i d (omega arith) in
    let passes = lt-ltb k (get_or numbers i d) (omega arith) in
    let counted : below (get_or numbers i d) (k ∷ numbers) ≡ 1 + below (get_or numbers i d) numbers =
    below-cons (get_or numbers i d) k numbers ∙ rw passes refl in
    omega arith

-- the place of a kept number
place_of : (kept : KeptRevisions) → RiseFrom kept.first kept.numbers → (k : ℕ) → Contains kept.numbers k
    → (i : ℕ) × (i < length kept.numbers) × (get_or kept.numbers i k ≡ k) × (below k kept.numbers ≡ i)
place_of kept up k has = (
  has.0,
  has.1,
  has.2,
  ap (λ n. below n kept.numbers) (sym has.2)
      ∙ at_place kept.first kept.numbers up has.0 k has.1,
)

-- one range

abbrev InRange : Range → Bool → ℕ → Type 0
InRange r kind n = (r.inheritable ≡ kind) × (r.from ≤ n) × (n ≤ r.to)

abbrev IsNewOf : KeptRevisions → Range → Bool → ℕ → Type 0
IsNewOf kept r kind n = (k : ℕ) × Contains kept.numbers k × (new_number kept k ≡ n) × InRange r kind k

new_of : (kept : KeptRevisions) → RiseFrom kept.first kept.numbers → (r : Range) (kind : Bool) (n : ℕ)
    → r.inheritable ≡ kind
    → below r.from kept.numbers < up_to r.to kept.numbers → kept.first + below r.from kept.numbers ≤ n
    → n ≤ kept.first + (up_to r.to kept.numbers - 1) → IsNewOf kept r kind n
new_of kept up r kind n is some low high =
    let same = up_to_is r.to kept.numbers in
    let most = below_most (r.to + 1) kept.numbers in
    let within : n - kept.first < length kept.numbers = omega arith in
    let k = get_or kept.numbers (n - kept.first) 0 in
    let number = at_place kept.first kept.numbers up (n - kept.first) 0 within in
    let from : r.from ≤ get_or kept.numbers (n - kept.first) 0 = elim
    (leb_tells r.from (get_or kept.numbers (n - kept.first) 0)) [
      | inl t ↦ t.1
      | inr t ↦ let far = high_below kept.first r.from kept.numbers up (n - kept.first) 0 within t.1 in absurd
          (omega arith)
    ] in
    let to : get_or kept.numbers (n - kept.first) 0 ≤ r.to = elim
    (leb_tells (get_or kept.numbers (n - kept.first) 0) r.to) [
      | inl t ↦ t.1
      | inr t ↦
          let over = t.1 in
          let near = low_below kept.first (r.to + 1) kept.numbers up (n - kept.first) 0 within (omega arith) in absurd
          (omega arith)
    ] in (
      get_or kept.numbers (n - kept.first) 0,
      Contains-get_or kept.numbers (n - kept.first) 0 within,
      omega arith,
      (is, from, to),
    )

record Within (kept : KeptRevisions) (r : Range) (n : ℕ) : Type 0 where
  some : below r.from kept.numbers < up_to r.to kept.numbers
  low : kept.first + below r.from kept.numbers ≤ n
  high : n ≤ kept.first + (up_to r.to kept.numbers - 1)

within_new : (kept : KeptRevisions) → RiseFrom kept.first kept.numbers → (r : Range) (k n : ℕ) → Contains kept.numbers k
    → new_number kept k ≡ n
    → r.from ≤ k → k ≤ r.to → Within kept r n
within_new kept up r k n has is low high =
    let place = place_of kept up k has in
    let here = place.2 in
    let count = place.3 in
    let first = low_below kept.first r.from kept.numbers up place.0 k place.1 (omega arith) in
    let last = high_below kept.first (r.to + 1) kept.numbers up place.0 k place.1 (omega arith) in
    let same = up_to_is r.to kept.numbers in
    record { some = omega arith; low = omega arith; high = omega arith }

with_new : (kept : KeptRevisions) → RiseFrom kept.first kept.numbers → (r : Range) (ranges : List Range) (kind : Bool)
    (n : ℕ)
    → HasNumber (with_range (new_range kept r) ranges) kind n ↔ (IsNewOf kept r kind n ⊎ HasNumber ranges kind n)
with_new kept up r ranges kind n = elim (cases_Bool (nat_lt (below r.from kept.numbers) (up_to r.to kept.numbers))) [
  | inl e ↦ rw e (
    (λ h. elim h [
      | inl here ↦ inl (new_of kept up r kind n here.0 (ltb-true _ _ e) here.1 here.2)
      | inr later ↦ inr later
    ]),
    (λ h. elim h [
      | inl here ↦
          let w = within_new kept up r here.0 n here.1 here.2 here.3.1 here.3.2 in inl (here.3.0, w.low, w.high)
      | inr later ↦ inr later
    ]),
  )
  | inr e ↦ rw e (
    (λ h. inr h),
    (λ h. elim h [
      | inl here ↦
          let w = within_new kept up r here.0 n here.1 here.2 here.3.1 here.3.2 in
          absurd (both_ways _ e (lt-ltb _ _ w.some))
      | inr later ↦ later
    ]),
  )
]

-- as it is computed

-- a range without a kept revision has no new range
pub new_range_none : (kept : KeptRevisions) (r : Range) → up_to r.to kept.numbers ≤ below r.from kept.numbers
    → new_range kept r ≡ None
new_range_none kept r none =
    rw (le-ltb (below r.from kept.numbers) (up_to r.to kept.numbers) none) refl

-- a range with a kept revision becomes the new numbers from its first kept revision's to its last one's
pub new_range_some : (kept : KeptRevisions) (r : Range) (first low high : ℕ) → first ≡ kept.first
    → low ≡ below r.from kept.numbers → high ≡ up_to r.to kept.numbers
    → low < high → Some (record {
      from = first + low;
      to = first +
          (high - 1);
      inheritable = r.inheritable;
    }) ≡ new_range kept r
new_range_some kept r first low high is low_is high_is some =
    let test : nat_lt (below r.from kept.numbers) (up_to r.to kept.numbers) ≡ true = grind (arith, nat_tests) in
    rw test (rw (is, low_is, high_is) refl)

-- the new number of the last kept revision up to n is at most n
pub new_range_fits : (kept : KeptRevisions) → RiseFrom kept.first kept.numbers → (n high : ℕ)
    → high ≡ up_to n kept.numbers → 0 < high → kept.first + (high - 1) ≤ n
new_range_fits kept up n high is some = (image_of_some kept n (high - 1) up (sym is ∙ omega arith)).1

-- all ranges

-- with renumbering, the new ranges contain exactly the new numbers of the kept revisions in the old ones
pub renumbered : (kept : KeptRevisions) → RiseFrom kept.first kept.numbers → (ranges : List Range)
    → IsRenumberedMap kept ranges (new_ranges true kept ranges)
renumbered kept up [] kind n = ((λ h. absurd h), (λ h. absurd h.3))
renumbered kept up (r ∷ rest) kind n = go (with_new kept up r (new_ranges true kept rest) kind n)
    (renumbered kept up rest kind n)
  where
    Source : List Range → Type 0
    Source old = (k : ℕ) × Contains kept.numbers k × (new_number kept k ≡ n) × HasNumber old kind k

    go : HasNumber (new_ranges true kept (r ∷ rest)) kind n
        ↔ (IsNewOf kept r kind n ⊎ HasNumber (new_ranges true kept rest) kind n)
        → HasNumber (new_ranges true kept rest) kind n ↔ Source rest
        → HasNumber (new_ranges true kept (r ∷ rest)) kind n ↔ Source (r ∷ rest)
    go one later = (
      (λ h. elim (one.0 h) [
        | inl here ↦ (here.0, here.1, here.2, inl here.3)
        | inr more ↦ (let found = later.0 more in (found.0, found.1, found.2, inr found.3))
      ]),
      (λ s. elim s.3 [
        | inl here ↦ one.1 (inl (s.0, s.1, s.2, here))
        | inr more ↦ one.1 (inr (later.1 (s.0, s.1, s.2, more)))
      ]),
    )

-- without renumbering, the ranges stay as they are
pub unchanged : (kept : KeptRevisions) (ranges : List Range) → new_ranges false kept ranges ≡ ranges
unchanged kept [] = refl
unchanged kept (r ∷ rest) = ap (λ l. r ∷ l) (unchanged kept rest)

-- two kept revisions have two new numbers
once : (kept : KeptRevisions) → RiseFrom kept.first kept.numbers → (j k n : ℕ) → Contains kept.numbers j
    → Contains kept.numbers k
    → new_number kept j ≡ n → new_number kept k ≡ n → j ≡ k
once kept up j k n has_j has_k is_j is_k =
    let (i, inside, at_i, count_i) = place_of kept up j has_j in
    let (m, within, at_m, count_m) = place_of kept up k has_k in
    let same : i ≡ m = omega arith in
    sym at_i ∙ get_or_default kept.numbers i j k inside ∙ ap (λ p. get_or kept.numbers p k) same ∙ at_m

-- no number is in renumbered ranges of both kinds, if none is in old ranges of both kinds
pub renumbered_consistent : (kept : KeptRevisions) → RiseFrom kept.first kept.numbers → (old new : List Range)
    → IsRenumberedMap kept old new → IsConsistent old → IsConsistent new
renumbered_consistent kept up old new map consistent n plain starred =
    let a = (map true n).0 plain in
    let b = (map false n).0 starred in
    consistent b.0 (subst (HasNumber old true) (once kept up a.0 b.0 n a.1 b.1 a.2 b.2) a.3) b.3

-- with renumbering, each new range has numbers
pub new_have_numbers : (kept : KeptRevisions) (ranges : List Range) → HaveNumbers (new_ranges true kept ranges)
new_have_numbers kept [] = tt
new_have_numbers kept (r ∷ rest) = elim (cases_Bool (nat_lt (below r.from kept.numbers) (up_to r.to kept.numbers))) [
  | inl e ↦ let some = ltb-true _ _ e in rw e (omega arith, new_have_numbers kept rest)
  | inr e ↦ rw e (new_have_numbers kept rest)
]

-- the parts of a list

pub parts_new : (renumber : Bool) (kept : KeptRevisions) (parts : List (List ℕ))
    → parts_ranges renumber kept parts ≡ new_ranges renumber kept (ranges_of parts)
parts_new renumber kept [] = refl
parts_new renumber kept (part ∷ parts) =
    let later = parts_new renumber kept parts in
    elim (range_of part) as (λ (o : Option Range). with_range (part_range renumber kept o)
    (parts_ranges renumber kept parts) ≡ new_ranges renumber kept (with_range o (ranges_of parts))) [
      | None ↦ later
      | Some r ↦ ap (with_range (kept_range renumber kept r)) later
    ]

-- the new ranges of a range list are those of the ranges as which it is read
pub list_new_is : (renumber : Bool) (kept : KeptRevisions) (list : List ℕ)
    → list_new renumber kept list ≡ new_ranges renumber kept (list_ranges list)
list_new_is renumber kept [] = refl
list_new_is renumber kept (b ∷ list) = parts_new renumber kept (range_parts (b ∷ list))
