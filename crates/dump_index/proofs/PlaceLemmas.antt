-- The latest of this number of places that passes a test.
use Rattle.std.proofs.Common.{◌≡◌, ℕ, zero, suc, ◌<◌, Bool, true, false, ◌||◌, cond, max, Option, Some, None, refl, sym, ap, ◌∙◌, arith, inl, inr, eq-eqb}
use Rattle.std.proofs.lemmas.Bool.{cases_lt, eqb-true}
use Rattle.std.specs.Cmp.{both_ways}
use Rattle.dump_index.specs.steps.Keys.{latest_place}
use Rattle.dump_index.specs.steps.Touching.{later}
use Rattle.dump_index.specs.steps.Looks.{is_place}

-- it is the place after which no place passes the test
pub latest_is : (test : ℕ → Bool) (count place : ℕ) → place < count → test place ≡ true
    → ((k : ℕ) → place < k → k < count → test k ≡ false) → latest_place test count ≡ Some place
latest_is test zero place low holds none = absurd (omega arith)
latest_is test (suc count) place low holds none =
    cases (λ less. latest_is test count place less holds (λ k above below. none k above (omega arith))) (test count) refl
  where
    cases : (place < count → latest_place test count ≡ Some place) → (b : Bool) → test count ≡ b
        → cond b (Some count) (latest_place test count) ≡ Some place
    cases further true is =
        elim (cases_lt place count) [
          | inl less ↦ absurd (let bad : false ≡ true = sym (none count less (omega arith)) ∙ is in cc)
          | inr more ↦ let same : count ≡ place = omega arith in ap (λ n. Some n) same
        ]
    cases further false is =
        elim (cases_lt place count) [
          | inl less ↦ further less
          | inr more ↦
              let same : place ≡ count = omega arith in
              absurd (let bad : true ≡ false = sym holds ∙ ap test same ∙ is in cc)
        ]

-- there is none if no place passes the test
pub latest_none : (test : ℕ → Bool) (count : ℕ) → ((k : ℕ) → k < count → test k ≡ false)
    → latest_place test count ≡ None
latest_none test zero none = refl
latest_none test (suc count) none =
    ap (λ b. cond b (Some count) (latest_place test count)) (none count (omega arith))
    ∙ latest_none test count (λ k low. none k (omega arith))

-- tests that agree
pub latest_same : (one two : ℕ → Bool) (count : ℕ) → ((k : ℕ) → k < count → one k ≡ two k)
    → latest_place one count ≡ latest_place two count
latest_same one two zero same = refl
latest_same one two (suc count) same =
    ap (λ b. cond b (Some count) (latest_place one count)) (same count (omega arith))
    ∙ ap (λ o. cond (two count) (Some count) o) (latest_same one two count (λ k low. same k (omega arith)))

pub latest_low : (test : ℕ → Bool) (count place : ℕ) → latest_place test count ≡ Some place → place < count
latest_low test zero place is = absurd (let bad : None ≡ Some place = is in cc)
latest_low test (suc count) place is = cases (latest_low test count place) (test count) is
  where
    cases : (latest_place test count ≡ Some place → place < count) → (b : Bool)
        → cond b (Some count) (latest_place test count) ≡ Some place → place < suc count
    cases further true here = let same : count ≡ place = (let both : Some count ≡ Some place = here in cc) in omega arith
    cases further false there = let low = further there in omega arith

-- for one test or the other, the latest place is the later of the two tests' latest places
pub latest_or : (one two : ℕ → Bool) (count : ℕ)
    → later (latest_place one count) (latest_place two count) ≡ latest_place (λ place. one place || two place) count
latest_or one two zero = refl
latest_or one two (suc count) =
    cases (latest_or one two count) (latest_low one count) (latest_low two count) (one count) (two count)
  where
    first : (o : Option ℕ) → ((place : ℕ) → o ≡ Some place → place < count) → later (Some count) o ≡ Some count
    first None low = refl
    first (Some place) low =
        let less = low place refl in let same : max count place ≡ count = omega arith in ap (λ n. Some n) same

    second : (o : Option ℕ) → ((place : ℕ) → o ≡ Some place → place < count) → later o (Some count) ≡ Some count
    second None low = refl
    second (Some place) low =
        let less = low place refl in let same : max place count ≡ count = omega arith in ap (λ n. Some n) same

    cases : later (latest_place one count) (latest_place two count) ≡ latest_place (λ place. one place || two place) count
        → ((place : ℕ) → latest_place one count ≡ Some place → place < count)
        → ((place : ℕ) → latest_place two count ≡ Some place → place < count) → (a b : Bool)
        → later (cond a (Some count) (latest_place one count)) (cond b (Some count) (latest_place two count))
        ≡ cond (a || b) (Some count) (latest_place (λ place. one place || two place) count)
    cases both low high true true = let same : max count count ≡ count = omega arith in ap (λ n. Some n) same
    cases both low high true false = first (latest_place two count) high
    cases both low high false true = second (latest_place one count) low
    cases both low high false false = both

pub latest_holds : (test : ℕ → Bool) (count place : ℕ) → latest_place test count ≡ Some place → test place ≡ true
latest_holds test zero place is = absurd (let bad : None ≡ Some place = is in cc)
latest_holds test (suc count) place is = cases (latest_holds test count place) (test count) refl is
  where
    cases : (latest_place test count ≡ Some place → test place ≡ true) → (b : Bool) → test count ≡ b
        → cond b (Some count) (latest_place test count) ≡ Some place → test place ≡ true
    cases further true holds here =
        let same : count ≡ place = (let both : Some count ≡ Some place = here in cc) in sym (ap test same) ∙ holds
    cases further false holds there = further there

-- the latest place for both tests is the latest for the test that it passes
pub latest_first : (one two : ℕ → Bool) (count place : ℕ) → latest_place (λ n. one n || two n) count ≡ Some place
    → one place ≡ true → latest_place one count ≡ Some place
latest_first one two zero place is holds = absurd (let bad : None ≡ Some place = is in cc)
latest_first one two (suc count) place is holds =
    cases (latest_first one two count place) (one count) (two count) refl is
  where
    cases : (latest_place (λ n. one n || two n) count ≡ Some place → one place ≡ true → latest_place one count ≡ Some place)
        → (a b : Bool) → one count ≡ a
        → cond (a || b) (Some count) (latest_place (λ n. one n || two n) count) ≡ Some place
        → cond a (Some count) (latest_place one count) ≡ Some place
    cases further true b a_is here = here
    cases further false true a_is here =
        let same : count ≡ place = (let both : Some count ≡ Some place = here in cc) in
        absurd (let bad : false ≡ true = sym a_is ∙ ap one same ∙ holds in cc)
    cases further false false a_is there = further there holds

pub latest_second : (one two : ℕ → Bool) (count place : ℕ) → latest_place (λ n. one n || two n) count ≡ Some place
    → two place ≡ true → latest_place two count ≡ Some place
latest_second one two count place is holds =
    latest_first two one count place (latest_same _ _ count (λ k low. or_comm (two k) (one k)) ∙ is) holds
  where
    or_comm : (a b : Bool) → (a || b) ≡ (b || a)
    or_comm true true = refl
    or_comm true false = refl
    or_comm false true = refl
    or_comm false false = refl

-- whether the latest place is this one, if both tests may pass there
pub place_is : (test : ℕ → Bool) (count place : ℕ) → (test place ≡ true → latest_place test count ≡ Some place)
    → is_place (latest_place test count) place ≡ test place
place_is test count place top = both_ways _ _ up down
  where
    at : (o : Option ℕ) → is_place o place ≡ true → o ≡ Some place
    at None is = let bad : false ≡ true = is in absurd (cc)
    at (Some other) is = ap (λ n. Some n) (eqb-true other place is)

    up : is_place (latest_place test count) place ≡ true → test place ≡ true
    up is = latest_holds test count place (at (latest_place test count) is)

    down : test place ≡ true → is_place (latest_place test count) place ≡ true
    down holds = ap (λ o. is_place o place) (top holds) ∙ eq-eqb place place refl
