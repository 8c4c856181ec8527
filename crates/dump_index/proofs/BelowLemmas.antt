-- How paths compare with a directory, and with other paths in the order of their bytes.
use Rattle.std.proofs.Common.{◌≡◌, ℕ, zero, suc, ◌+◌, ◌<◌, ◌≤◌, Bool, true, false, not, ◌&&◌, cond, List, [], ◌∷◌, ◌++◌, length, take, drop, nat_eq, bytes_eq, append-nil, append_assoc, refl, sym, ap, ap₂, ◌∙◌, ◌≢◌, arith, inl, inr}
use Rattle.std.proofs.lemmas.Bool.{cases_lt, eqb-true, eq-eqb, false_from_ne_true, and_from, lt-ltb, and_right}
use Rattle.std.proofs.lemmas.Slice.Eq.{bytes_eq-Decides}
use Rattle.std.specs.List.{list_all}
use Rattle.std.specs.Cmp.Lexicographic.{slice_cmp}
use Rattle.std.specs.Ordering.{ordering_then, is_lt, nat_cmp}
use Rattle.std.specs.declared.cmp.Ordering.{Ordering}
use Rattle.std.specs.declared.cmp.Ordering.TheVariants.{Less, Equal, Greater}
use Rattle.dump_trees.specs.Paths.{is_name}
use Rattle.dump_index.specs.steps.Below.{name_end, GoesFurther}
use Rattle.dump_index.proofs.KeyLemmas.{earlier_place}
use Rattle.dump_trees.proofs.paths.PrefixRests.{same_rest}
use Rattle.std.proofs.Math.Seq.{take-append_seam}
use Rattle.dump_rules.proofs.ReachLemmas.{is_not_below}

-- ---- texts in order

-- how two numbers compare
pub data Sides (m n : ℕ) : Type 0 where
  Lower : m < n → nat_cmp m n ≡ Less → Sides m n
  Level : m ≡ n → nat_cmp m n ≡ Equal → Sides m n
  Higher : n < m → nat_cmp m n ≡ Greater → Sides m n

pub sides : (m n : ℕ) → Sides m n
sides m n =
    elim (cases_lt m n) [
      | inl low ↦ Lower low (earlier_place m n low)
      | inr high ↦
          elim (cases_lt n m) [
            | inl more ↦ Higher more
                (ap (λ b. cond b Less (cond (nat_eq m n) Equal Greater)) (is_not_below m n high)
                ∙ ap (λ b. cond b Equal Greater) (false_from_ne_true (nat_eq m n) (λ is.
                let same : m ≡ n = eqb-true m n is in absurd (omega arith))))
            | inr low ↦
                let same : m ≡ n = omega arith in
                Level same (ap (λ b. cond b Less (cond (nat_eq m n) Equal Greater)) (is_not_below m n high)
                ∙ ap (λ b. cond b Equal Greater) (eq-eqb m n same))
          ]
    ]

not_lower : (m n : ℕ) (r : Ordering) → is_lt (ordering_then (nat_cmp m n) r) ≡ false → n ≤ m
not_lower m n r isnt = cases (sides m n)
  where
    cases : Sides m n → n ≤ m
    cases (Lower low is) =
        absurd (let bad : true ≡ false = sym (ap (λ o. is_lt (ordering_then o r)) is) ∙ isnt in cc)
    cases (Level same is) = omega arith
    cases (Higher more is) = omega arith

level_rest : (m n : ℕ) (r : Ordering) → is_lt (ordering_then (nat_cmp m n) r) ≡ false → m ≡ n → is_lt r ≡ false
level_rest m n r isnt same = cases (sides m n)
  where
    cases : Sides m n → is_lt r ≡ false
    cases (Lower low is) = absurd (omega arith)
    cases (Level level is) = sym (ap (λ o. is_lt (ordering_then o r)) is) ∙ isnt
    cases (Higher more is) = absurd (omega arith)

not_less : (m n : ℕ) (r : Ordering) → n ≤ m → (m ≡ n → is_lt r ≡ false) → is_lt (ordering_then (nat_cmp m n) r) ≡ false
not_less m n r high behind = cases (sides m n)
  where
    cases : Sides m n → is_lt (ordering_then (nat_cmp m n) r) ≡ false
    cases (Lower low is) = absurd (omega arith)
    cases (Level level is) = ap (λ o. is_lt (ordering_then o r)) is ∙ behind level
    cases (Higher more is) = ap (λ o. is_lt (ordering_then o r)) is

-- the first part of a comparison decides if it isn't equal
pub first_part : (o r : Ordering) → is_lt (ordering_then o r) ≡ false → is_lt o ≡ false
first_part Less r isnt = let bad : true ≡ false = isnt in absurd (cc)
first_part Equal r isnt = refl
first_part Greater r isnt = refl

-- a text that comes no later than a text up to the front is up to the front too
pub up_to_before : (front a b : List ℕ) → is_lt (slice_cmp nat_cmp b a) ≡ false
    → is_lt (slice_cmp nat_cmp front (take (length front) b)) ≡ false
    → is_lt (slice_cmp nat_cmp front (take (length front) a)) ≡ false
up_to_before [] a b up low = refl
up_to_before (f ∷ front) [] b up low = refl
up_to_before (f ∷ front) (x ∷ a) [] up low = absurd (let bad : true ≡ false = up in cc)
up_to_before (f ∷ front) (x ∷ a) (y ∷ b) up low =
    let one = not_lower y x (slice_cmp nat_cmp b a) up in
    let two = not_lower f y (slice_cmp nat_cmp front (take (length front) b)) low in
    not_less f x (slice_cmp nat_cmp front (take (length front) a)) (omega arith) (λ same.
    up_to_before front a b (level_rest y x (slice_cmp nat_cmp b a) up (omega arith))
    (level_rest f y (slice_cmp nat_cmp front (take (length front) b)) low (omega arith)))

-- a text that begins with the front is up to the front
pub up_to_own : (front rest : List ℕ) → is_lt (slice_cmp nat_cmp front (take (length front) (front ++ rest))) ≡ false
up_to_own [] rest = refl
up_to_own (f ∷ front) rest =
    not_less f f (slice_cmp nat_cmp front (take (length front) (front ++ rest))) (omega arith)
    (λ same. up_to_own front rest)

-- a text that is up to the front, and comes no earlier than one that begins with the front, begins with the front
pub front_between : (front rest b : List ℕ) → is_lt (slice_cmp nat_cmp b (front ++ rest)) ≡ false
    → is_lt (slice_cmp nat_cmp front (take (length front) b)) ≡ false → b ≡ front ++ drop (length front) b
front_between [] rest b up low = refl
front_between (f ∷ front) rest [] up low = absurd (let bad : true ≡ false = up in cc)
front_between (f ∷ front) rest (y ∷ b) up low =
    let one = not_lower y f (slice_cmp nat_cmp b (front ++ rest)) up in
    let two = not_lower f y (slice_cmp nat_cmp front (take (length front) b)) low in
    let same : y ≡ f = omega arith in
    ap₂ (λ n (text : List ℕ). n ∷ text) same
    (front_between front rest b (level_rest y f (slice_cmp nat_cmp b (front ++ rest)) up same)
    (level_rest f y (slice_cmp nat_cmp front (take (length front) b)) low (sym same)))

-- a text that begins with another one doesn't come before it
pub not_first : (top name : List ℕ) (place : ℕ)
    → is_lt (ordering_then (slice_cmp nat_cmp (top ++ name) top) (nat_cmp place 0)) ≡ false
not_first [] [] place = cases (sides place 0)
  where
    cases : Sides place 0 → is_lt (nat_cmp place 0) ≡ false
    cases (Lower low is) = absurd (omega arith)
    cases (Level same is) = ap is_lt is
    cases (Higher more is) = ap is_lt is
not_first [] (x ∷ name) place = refl
not_first (t ∷ top) name place = cases (not_first top name place) (sides t t)
  where
    cases : is_lt (ordering_then (slice_cmp nat_cmp (top ++ name) top) (nat_cmp place 0)) ≡ false → Sides t t
        → is_lt (ordering_then (ordering_then (nat_cmp t t) (slice_cmp nat_cmp (top ++ name) top)) (nat_cmp place 0)) ≡ false
    cases behind (Lower low is) = absurd (omega arith)
    cases behind (Level same is) =
        ap (λ o. is_lt (ordering_then (ordering_then o (slice_cmp nat_cmp (top ++ name) top)) (nat_cmp place 0))) is
        ∙ behind
    cases behind (Higher more is) = absurd (omega arith)

-- ---- parts of texts

pub parts_of : (n : ℕ) (text : List ℕ) → text ≡ take n text ++ drop n text
parts_of zero text = refl
parts_of (suc n) [] = refl
parts_of (suc n) (b ∷ text) = ap (λ (t : List ℕ). b ∷ t) (parts_of n text)

pub take_into : (top rest : List ℕ) (m n : ℕ) → m ≡ length top + n → take m (top ++ rest) ≡ top ++ take n rest
take_into [] rest m n is = let same : m ≡ n = omega arith in ap (λ k. take k rest) same
take_into (b ∷ top) rest zero n is = absurd (omega arith)
take_into (b ∷ top) rest (suc m) n is = ap (λ (t : List ℕ). b ∷ t) (take_into top rest m n (omega arith))

-- ---- below a directory

pub outside : (top path : List ℕ) → bytes_eq (take (length top) path) top ≡ false → (rest : List ℕ) → path ≡ top ++ rest → ⊥
outside top path other rest is =
    let same : take (length top) path ≡ top = ap (λ (t : List ℕ). take (length top) t) is ∙ take-append_seam top rest in
    let bad : true ≡ false = sym ((bytes_eq-Decides (take (length top) path) top).1 same) ∙ other in
    absurd (cc)

pub inside : (top path : List ℕ) → bytes_eq (take (length top) path) top ≡ true → path ≡ top ++ drop (length top) path
inside top path same =
    parts_of (length top) path
    ∙ ap (λ (t : List ℕ). t ++ drop (length top) path) ((bytes_eq-Decides (take (length top) path) top).0 same)

no_slash : (text : List ℕ) → length text ≤ name_end text → list_all (λ b. not (nat_eq b 47)) text ≡ true
no_slash [] low = refl
no_slash (b ∷ text) low = cases (no_slash text) (nat_eq b 47) refl low
  where
    cases : (length text ≤ name_end text → list_all (λ b. not (nat_eq b 47)) text ≡ true) → (s : Bool) → nat_eq b 47 ≡ s
        → suc (length text) ≤ cond s 0 (suc (name_end text))
        → (not s && list_all (λ b. not (nat_eq b 47)) text) ≡ true
    cases further true is low = absurd (omega arith)
    cases further false is low = further (omega arith)

pub child_name : (rest : List ℕ) → rest ≢ [] → length rest ≤ name_end rest → is_name rest ≡ true
child_name [] some low = absurd (some refl)
child_name (b ∷ rest) some low =
    and_from (Rattle.std.proofs.Common.nat_lt 0 (length (b ∷ rest))) (list_all (λ b. not (nat_eq b 47)) (b ∷ rest))
    (lt-ltb 0 (length (b ∷ rest)) (omega arith)) (no_slash (b ∷ rest) low)

slash_in : (text more : List ℕ) → name_end text < length text
    → list_all (λ b. not (nat_eq b 47)) (take (suc (name_end text)) text ++ more) ≡ false
slash_in [] more low = absurd (omega arith)
slash_in (b ∷ text) more low = cases (slash_in text more) (nat_eq b 47) refl low
  where
    cases : (name_end text < length text
        → list_all (λ c. not (nat_eq c 47)) (take (suc (name_end text)) text ++ more) ≡ false)
        → (s : Bool) → nat_eq b 47 ≡ s → cond s 0 (suc (name_end text)) < suc (length text)
        → list_all (λ c. not (nat_eq c 47)) (take (suc (cond s 0 (suc (name_end text)))) (b ∷ text) ++ more) ≡ false
    cases further true is low = ap (λ x. not x && list_all (λ c. not (nat_eq c 47)) more) is
    cases further false is low =
        ap (λ x. not x && list_all (λ c. not (nat_eq c 47)) (take (suc (name_end text)) text ++ more)) is
        ∙ further (omega arith)

pub further : (top path rest : List ℕ) → path ≡ top ++ rest → name_end rest < length rest
    → GoesFurther top path (take (length top + name_end rest + 1) path)
further top path rest is low = (
  (drop (length top + name_end rest + 1) path, parts_of (length top + name_end rest + 1) path),
  λ more name same.
      let its : take (length top + name_end rest + 1) path ≡ top ++ take (suc (name_end rest)) rest
      = ap (take (length top + name_end rest + 1)) is
      ∙ take_into top rest (length top + name_end rest + 1) (suc (name_end rest)) (omega arith) in
      let name_is : take (suc (name_end rest)) rest ++ more ≡ name
      = same_rest top (take (suc (name_end rest)) rest ++ more) name
      (sym (append_assoc top (take (suc (name_end rest)) rest) more)
      ∙ sym (ap (λ (t : List ℕ). t ++ more) its) ∙ same) in
      ap (λ (t : List ℕ). is_name t) (sym name_is)
      ∙ and_right (Rattle.std.proofs.Common.nat_lt 0 (length (take (suc (name_end rest)) rest ++ more))) _
      (slash_in rest more low),
)

-- the path doesn't go on after the top
pub nothing_more : (top name : List ℕ) → top ≡ top ++ name → is_name name ≡ false
nothing_more top name is =
    let none : [] ≡ name = same_rest top [] name (append-nil top ∙ is) in
    ap (λ (t : List ℕ). is_name t) (sym none)
