-- Kept revisions that rise: how many are up to a number, their new numbers and their images.
use Rattle.dump_rules.proofs.Prelude.{◌≡◌, ◌⊎◌, ℕ, zero, suc, ◌+◌, ◌<◌, ◌≤◌, Bool, true, false, cond, List, [], ◌∷◌, ◌++◌, length, get_or, nat_lt, nat_le, refl, sym, ap, ◌∙◌, inl, inr, arith, Some, None, Option, option_map, count_by, filter, append-nil, lt-ltb, last_or, IsNonDecreasing, IsPartitionedBy, IsPartitionPoint, leb_tells, nat_tests, All-head, All-tail, filter-append, IsPartitionedBy-leb, IsPartitionedBy-ltb, IsPartitionPoint-from_clause, Bor, sum_by-cons, sum_by_push, KeptRevisions, new_number, last_kept, image, RiseFrom}
use Rattle.std.proofs.Common.{All}
use Rattle.std.specs.Fn.{Called, ComputesKey}
use denote.Param.Members.{Mut}

-- counts of numbers

-- how many of the numbers are less than n
abbrev pub below : ℕ → List ℕ → ℕ
below n numbers = count_by (λ k. nat_lt k n) numbers

-- how many of the numbers are at most n
abbrev pub up_to : ℕ → List ℕ → ℕ
up_to n numbers = count_by (λ k. nat_le k n) numbers

-- a number in front counts as one of those below n where it is less than n
pub below-cons : (n k : ℕ) (numbers : List ℕ) → below n (k ∷ numbers) ≡ cond (nat_lt k n) 1 0 + below n numbers
below-cons n k numbers = sum_by-cons (λ j. cond (nat_lt j n) 1 0) k numbers

-- a number in front counts as one of those up to n where it is at most n
pub up_to-cons : (n k : ℕ) (numbers : List ℕ) → up_to n (k ∷ numbers) ≡ cond (nat_le k n) 1 0 + up_to n numbers
up_to-cons n k numbers = sum_by-cons (λ j. cond (nat_le j n) 1 0) k numbers

-- the test for less is false for a number that isn't smaller
pub is_not_below : (k n : ℕ) → n ≤ k → nat_lt k n ≡ false
is_not_below k n h = grind (arith, nat_tests)

is_over : (k n : ℕ) → n < k → nat_le k n ≡ false
is_over k n h = grind (arith, nat_tests)

-- numbers that rise from n on aren't below it
pub none_below : (first n : ℕ) (numbers : List ℕ) → n ≤ first → RiseFrom first numbers → below n numbers ≡ 0
none_below first n [] low up = refl
none_below first n (k ∷ numbers) low up =
    let lowest = up.0 in
    let later = none_below (k + 1) n numbers (omega arith) up.1 in
    below-cons n k numbers ∙ rw (is_not_below k n (omega arith), later) refl

-- the last number up to n: either there is none and the earlier one remains, or all others up to n are below it
abbrev EndsUpTo : ℕ → ℕ → List ℕ → Option ℕ → Type 0
EndsUpTo first n numbers before =
    ((up_to n numbers ≡ 0) × (last_or before (filter (λ k. nat_le k n) numbers) ≡ before))
    ⊎ ((last : ℕ) × (last_or before (filter (λ k. nat_le k n) numbers) ≡ Some last) × (first ≤ last) × (last ≤ n)
    × (up_to n numbers ≡ 1 + below last numbers))

last_up_to : (first n : ℕ) (numbers : List ℕ) (before : Option ℕ) → RiseFrom first numbers
    → EndsUpTo first n numbers before
last_up_to first n [] before up = inl (refl, refl)
last_up_to first n (k ∷ numbers) before up =
    elim (leb_tells k n) [
      | inl within ↦ taken (last_up_to (k + 1) n numbers (Some k) up.1) within.0 within.1
      | inr over ↦ left (last_up_to (k + 1) n numbers before up.1) over.0 over.1
    ]
  where
    taken : EndsUpTo (k + 1) n numbers (Some k) → nat_le k n ≡ true → k ≤ n → EndsUpTo first n (k ∷ numbers) before
    taken (inl none) passes within =
        let no_lower : below k (k ∷ numbers) ≡ 0 = none_below k k (k ∷ numbers) (omega arith) (omega arith, up.1) in
        let more = up_to-cons n k numbers ∙ rw (passes, none.0) refl in
        inr (k, rw passes none.1, up.0, within, more ∙ sym (ap (λ c. 1 + c) no_lower))
    taken (inr some) passes within =
        let lowest = up.0 in
        let higher = some.2 in
        let counted : below some.0 (k ∷ numbers) ≡ 1 + below some.0 numbers =
        below-cons some.0 k numbers ∙ rw (lt-ltb k some.0 (omega arith)) refl in
        let more : up_to n (k ∷ numbers) ≡ 1 + up_to n numbers = up_to-cons n k numbers ∙ rw passes refl in
        inr (some.0, rw passes some.1, omega arith, some.3, more ∙ ap (λ c. 1 + c) (some.4 ∙ sym counted))

    left : EndsUpTo (k + 1) n numbers before → nat_le k n ≡ false → n < k → EndsUpTo first n (k ∷ numbers) before
    left (inl none) fails over = inl (up_to-cons n k numbers ∙ rw (fails, none.0) refl, rw fails none.1)
    left (inr some) fails over = let higher = some.2 in let within = some.3 in absurd (omega arith)

-- how many numbers are before one of them, and of the whole list

-- a new number is at most the old one
pub new_number_fits : (kept : KeptRevisions) (n : ℕ) → RiseFrom kept.first kept.numbers → kept.first ≤ n
    → new_number kept n ≤ n
new_number_fits kept n up low = fits kept.first kept.numbers up low
  where
    fits : (first : ℕ) (numbers : List ℕ) → RiseFrom first numbers → first ≤ n → first + below n numbers ≤ n
    fits first [] up low = omega arith
    fits first (k ∷ numbers) up low =
        let lowest = up.0 in
        elim (leb_tells n k) [
          | inl over ↦
              let higher = over.1 in
              let none = none_below k n (k ∷ numbers) (omega arith) (omega arith, up.1) in
              omega arith
          | inr lower ↦
              let within = lower.1 in
              let later = fits (k + 1) numbers up.1 (omega arith) in
              let counted = below-cons n k numbers in
              let passes = lt-ltb k n (omega arith) in
              let one : below n (k ∷ numbers) ≡ 1 + below n numbers = counted ∙ rw passes refl in
              omega arith
        ]

all_below : (n : ℕ) (numbers : List ℕ) → All (λ k. k < n) numbers → below n numbers ≡ length numbers
all_below n [] all = refl
all_below n (k ∷ numbers) all =
    let later = all_below n numbers (All-tail (λ j. j < n) k numbers all) in
    let passes = lt-ltb k n (All-head (λ j. j < n) k numbers all) in
    let counted : below n (k ∷ numbers) ≡ 1 + below n numbers = below-cons n k numbers ∙ rw passes refl in
    omega arith

-- the new number of a revision above all kept ones
pub new_number_above : (kept : KeptRevisions) (n : ℕ) → All (λ k. k < n) kept.numbers
    → new_number kept n ≡ kept.first + length kept.numbers
new_number_above kept n all = ap (λ c. kept.first + c) (all_below n kept.numbers all)

-- the first number and the count of kept revisions don't exceed a number above them all
pub length_fits : (kept : KeptRevisions) (n : ℕ) → RiseFrom kept.first kept.numbers → All (λ k. k < n) kept.numbers
    → kept.first ≤ n
    → kept.first + length kept.numbers ≤ n
length_fits kept n up all low =
    let fits = new_number_fits kept n up low in let same = new_number_above kept n all in omega arith

-- images

-- no kept revision up to n: no image
pub image_of_none : (kept : KeptRevisions) (n : ℕ) → RiseFrom kept.first kept.numbers → up_to n kept.numbers ≡ 0
    → image kept n ≡ None
image_of_none kept n up none = elim (last_up_to kept.first n kept.numbers None up) [
  | inl found ↦ ap (option_map (new_number kept)) found.1
  | inr found ↦ let counted = found.4 in absurd (omega arith)
]

-- the image counts the kept revisions up to n but the last
pub image_of_some : (kept : KeptRevisions) (n before : ℕ) → RiseFrom kept.first kept.numbers
    → up_to n kept.numbers ≡ before + 1
    → (image kept n ≡ Some (kept.first + before)) × (kept.first + before ≤ n)
image_of_some kept n before up some = elim (last_up_to kept.first n kept.numbers None up) [
  | inl found ↦ let none = found.0 in absurd (omega arith)
  | inr found ↦
      let counted = found.4 in
      let within = found.3 in
      let same : below found.0 kept.numbers ≡ before = omega arith in
      let fits = new_number_fits kept found.0 up found.2 in
      (ap (option_map (new_number kept)) found.1 ∙ ap (λ c. Some (kept.first + c)) same, omega arith)
]

-- an image is from the first number on, and at most the number itself
pub image_fits : (kept : KeptRevisions) (n m : ℕ) → RiseFrom kept.first kept.numbers → image kept n ≡ Some m
    → (kept.first ≤ m) × (m ≤ n)
image_fits kept n m up is = elim (last_up_to kept.first n kept.numbers None up) [
  | inl found ↦
      let none : None ≡ Some m = sym (ap (option_map (new_number kept)) found.1) ∙ is in
      cc
  | inr found ↦
      let some : Some (new_number kept found.0) ≡ Some m = sym (ap (option_map (new_number kept)) found.1) ∙ is in
      let same : new_number kept found.0 ≡ m = cc in
      let fits = new_number_fits kept found.0 up found.2 in
      let within = found.3 in
      (omega arith, omega arith)
]

-- one more kept revision

-- numbers that rise still do with a higher one after them
pub rise_pushed : (first n : ℕ) (numbers : List ℕ) → RiseFrom first numbers → All (λ k. k < n) numbers → first ≤ n
    → RiseFrom first (numbers ++ n ∷ [])
rise_pushed first n [] up all low = (low, tt)
rise_pushed first n (k ∷ numbers) up all low =
    let lower = All-head (λ j. j < n) k numbers all in
    (up.0, rise_pushed (k + 1) n numbers up.1 (All-tail (λ j. j < n) k numbers all) (omega arith))

-- it changes no new number up to its own
pub new_number_pushed : (kept : KeptRevisions) (n k : ℕ) → k ≤ n
    → new_number (record kept { numbers = kept.numbers ++ n ∷ [] }) k ≡ new_number kept k
new_number_pushed kept n k low =
    let counted = sum_by_push (λ j. cond (nat_lt j k) 1 0) kept.numbers n in
    let over = is_not_below n k low in
    let same : below k (kept.numbers ++ n ∷ []) ≡ below k kept.numbers + 0 = counted ∙ rw over refl in
    omega arith

last_within : (n : ℕ) (before : Option ℕ) (numbers : List ℕ) (last : ℕ)
    → last_or before (filter (λ k. nat_le k n) numbers) ≡ Some last
    → (before ≡ Some last) ⊎ (last ≤ n)
last_within n before [] last is = inl is
last_within n before (k ∷ numbers) last is = elim (leb_tells k n) [
  | inl within ↦
      let h = rw within.0 at is in
      (elim (last_within n (Some k) numbers last h) [
        | inl first ↦ let same : k ≡ last = cc in let low = within.1 in inr (omega arith)
        | inr later ↦ inr later
      ])
  | inr over ↦ last_within n before numbers last (rw over.0 at is)
]

-- it changes no image below its own number
pub image_pushed : (kept : KeptRevisions) (n r : ℕ) → r < n
    → image (record kept { numbers = kept.numbers ++ n ∷ [] }) r ≡ image kept r
image_pushed kept n r low =
    let over = is_over n r low in
    let kept_up_to : filter (λ k. nat_le k r) (kept.numbers ++ n ∷ []) ≡ filter (λ k. nat_le k r) kept.numbers =
    filter-append (λ k. nat_le k r) kept.numbers (n ∷ [])
    ∙ rw over (append-nil (filter (λ k. nat_le k r) kept.numbers)) in
    ap (λ l. option_map (new_number (record kept { numbers = kept.numbers ++ n ∷ [] })) (last_or None l)) kept_up_to
    ∙ mapped (last_kept kept r) refl
  where
    mapped : (last : Option ℕ) → last_kept kept r ≡ last
        → option_map (new_number (record kept { numbers = kept.numbers ++ n ∷ [] })) last ≡ option_map
        (new_number kept) last
    mapped None is = refl
    mapped (Some last) is = elim (last_within r None kept.numbers last is) [
      | inl none ↦ cc
      | inr within ↦ ap Some (new_number_pushed kept n last (omega arith))
    ]

-- after one more element that is the last
pub last_or_pushed : {A : Type 0} (before : Option A) (xs : List A) (x : A) → last_or before (xs ++ x ∷ []) ≡ Some x
last_or_pushed before [] x = refl
last_or_pushed before (y ∷ xs) x = last_or_pushed (Some y) xs x

-- from its own number on, its new number is the image
pub image_at_pushed : (kept : KeptRevisions) (n r : ℕ) → All (λ k. k < n) kept.numbers → n ≤ r
    → image (record kept { numbers = kept.numbers ++ n ∷ [] }) r ≡ Some (kept.first + length kept.numbers)
image_at_pushed kept n r all low =
    let within : nat_le n r ≡ true = grind (arith, nat_tests) in
    let behind : filter (λ k. nat_le k r) (kept.numbers ++ n ∷ []) ≡ filter (λ k. nat_le k r) kept.numbers ++ n ∷ [] =
    filter-append (λ k. nat_le k r) kept.numbers (n ∷ []) ∙ rw within refl in
    let last : last_kept (record kept { numbers = kept.numbers ++ n ∷ [] }) r ≡ Some n =
    ap (last_or None) behind ∙ last_or_pushed None (filter (λ k. nat_le k r) kept.numbers) n in
    ap (option_map (new_number (record kept { numbers = kept.numbers ++ n ∷ [] }))) last
    ∙ ap Some (new_number_pushed kept n n (omega arith) ∙ new_number_above kept n all)

-- the search

-- no number of a list that rises from a first one is less than that
pub from_first : (first : ℕ) (numbers : List ℕ) → RiseFrom first numbers → (j : ℕ) (d : ℕ) → j < length numbers
    → first ≤ get_or numbers j d
from_first first [] up j d within = absurd (omega arith)
from_first first (k ∷ numbers) up zero d within = up.0
from_first first (k ∷ numbers) up (suc j) d within =
    let lowest = up.0 in
    let later = from_first (k + 1) numbers up.1 j d (omega arith) in
    omega arith

rises : (first : ℕ) (numbers : List ℕ) → RiseFrom first numbers → IsNonDecreasing numbers
rises first (k ∷ numbers) up zero zero d under within = omega arith
rises first (k ∷ numbers) up zero (suc j) d under within =
    let later = from_first (k + 1) numbers up.1 j d (omega arith) in omega arith
rises first (k ∷ numbers) up (suc i) (suc j) d under within = rises (k + 1) numbers up.1 i j d (omega arith)
    (omega arith)
rises first numbers up i j d under within = absurd (omega arith)

-- what a search needs to know of the kept numbers
pub parted_from_rise : (first n : ℕ) (numbers : List ℕ) → RiseFrom first numbers
    → IsPartitionedBy (λ k. nat_le k n) numbers
parted_from_rise first n numbers up = IsPartitionedBy-leb (λ k. k) numbers n (rises first numbers up)

-- if the numbers rise, those below n come before the others
pub parted_below : (first n : ℕ) (numbers : List ℕ) → RiseFrom first numbers → IsPartitionedBy (λ k. nat_lt k n) numbers
parted_below first n numbers up = IsPartitionedBy-ltb (λ k. k) numbers n (rises first numbers up)

-- the result of the search is how many pass
pub count_at_point : (p : ℕ → Bool) (i : ℕ) (numbers : List ℕ) → i ≤ length numbers
    → IsPartitionPoint (λ k. p k ≡ true) (λ k. p k ≡ false) numbers i → i ≡ count_by p numbers
count_at_point p i [] within point = omega arith
count_at_point p zero (k ∷ numbers) within point =
    let none = count_at_point p zero numbers (omega arith)
    ((λ j d low high. absurd (omega arith)), (λ j d low high. point.1 (suc j) d (omega arith) (omega arith))) in
    let fails : p k ≡ false = point.1 0 0 (omega arith) (omega arith) in
    let counted = sum_by-cons (λ j. cond (p j) 1 0) k numbers in
    let same : count_by p (k ∷ numbers) ≡ 0 + count_by p numbers = counted ∙ rw fails refl in
    omega arith
count_at_point p (suc i) (k ∷ numbers) within point =
    let later = count_at_point p i numbers (omega arith) (
      (λ j d low high. point.0 (suc j) d (omega arith) (omega arith)),
      (λ j d low high. point.1 (suc j) d (omega arith) (omega arith)),
    ) in
    let passes : p k ≡ true = point.0 0 0 (omega arith) (omega arith) in
    let counted : count_by p (k ∷ numbers) ≡ 1 + count_by p numbers = sum_by-cons (λ j. cond (p j) 1 0) k numbers
    ∙ rw passes refl in
    omega arith

-- what a search among the kept numbers finds counts those that pass
pub count_kept : (p : ℕ → Bool) {F : Type 0} {g : Mut F (Bor ℕ × Unit {0}) Bool} {f : F} (inside kept : KeptRevisions)
    (numbers : List ℕ) (i : ℕ) → i ≤ length numbers
    → ((q : ℕ → Bool) → ComputesKey g q f → IsPartitionedBy q numbers
    → IsPartitionPoint (λ k. q k ≡ true) (λ k. q k ≡ false) numbers i)
    → numbers ≡ inside.numbers → inside ≡ kept → IsPartitionedBy p inside.numbers
    → ((a : Bor ℕ × Unit {0}) (r : Bool) (next : F) → Called g f a r next → (r ≡ p a.0.now) × (next ≡ f))
    → i ≡ count_by p kept.numbers
count_kept p inside kept numbers i bound found is viewed parted calls =
    count_at_point p i numbers bound (IsPartitionPoint-from_clause p numbers i found (rw is parted) calls)
    ∙ ap (count_by p) (is ∙ ap (λ (k : KeptRevisions). k.numbers) viewed)
