-- The texts of the paths above a path.
use Rattle.std.proofs.Common.{◌≡◌, ℕ, zero, suc, ◌+◌, ◌<◌, ◌≤◌, true, false, ◌&&◌, ◌||◌, List, [], ◌∷◌, length, take, get_or, nat_eq, nat_lt, bytes_eq, refl, sym, ap, subst, ◌∙◌, arith, inl, inr}
use Rattle.std.proofs.lemmas.Bool.{cases_lt, and_parts, and_from, lt-ltb, ltb-true, or_left, or_right, or_cases}
use Rattle.std.specs.Cmp.{both_ways}
use Rattle.dump_index.specs.steps.Touching.{goes_on, stands_over, stands_over_within}

-- the part of a path before one of its slashes

pub cut_goes_on : (top path : List ℕ) (k : ℕ) → k < length path → bytes_eq top (take k path) ≡ true
    → nat_eq (get_or path k 0) 47 ≡ true → goes_on top path ≡ true
cut_goes_on top [] k low same slash = absurd (omega arith)
cut_goes_on [] (c ∷ path) zero low same slash = slash
cut_goes_on [] (c ∷ path) (suc k) low same slash = absurd (let bad : false ≡ true = same in cc)
cut_goes_on (b ∷ top) (c ∷ path) zero low same slash = absurd (let bad : false ≡ true = same in cc)
cut_goes_on (b ∷ top) (c ∷ path) (suc k) low same slash =
    let parts = and_parts (nat_eq b c) (bytes_eq top (take k path)) same in
    and_from (nat_eq b c) (goes_on top path) parts.0 (cut_goes_on top path k (omega arith) parts.1 slash)

pub cut_length : (top path : List ℕ) (k : ℕ) → k < length path → bytes_eq top (take k path) ≡ true → length top ≡ k
cut_length top [] k low same = absurd (omega arith)
cut_length [] (c ∷ path) zero low same = refl
cut_length [] (c ∷ path) (suc k) low same = absurd (let bad : false ≡ true = same in cc)
cut_length (b ∷ top) (c ∷ path) zero low same = absurd (let bad : false ≡ true = same in cc)
cut_length (b ∷ top) (c ∷ path) (suc k) low same =
    let parts = and_parts (nat_eq b c) (bytes_eq top (take k path)) same in
    let behind = cut_length top path k (omega arith) parts.1 in omega arith

pub goes_on_cut : (top path : List ℕ) → goes_on top path ≡ true
    → (length top < length path) × (bytes_eq top (take (length top) path) ≡ true)
    × (nat_eq (get_or path (length top) 0) 47 ≡ true)
goes_on_cut [] [] is = absurd (let bad : false ≡ true = is in cc)
goes_on_cut [] (c ∷ path) is = (omega arith, refl, is)
goes_on_cut (b ∷ top) [] is = absurd (let bad : false ≡ true = is in cc)
goes_on_cut (b ∷ top) (c ∷ path) is =
    let parts = and_parts (nat_eq b c) (goes_on top path) is in
    let behind = goes_on_cut top path parts.1 in
    let low = behind.0 in
    (omega arith, and_from (nat_eq b c) (bytes_eq top (take (length top) path)) parts.0 behind.1, behind.2)

-- one more byte of the path: a slash, or another byte
pub over_more : (top path : List ℕ) (k : ℕ) → k < length path → nat_eq (get_or path k 0) 47 ≡ true
    → (stands_over_within k path top || bytes_eq top (take k path)) ≡ stands_over_within (k + 1) path top
over_more top path k low slash = both_ways _ _ up down
  where
    up : (stands_over_within k path top || bytes_eq top (take k path)) ≡ true → stands_over_within (k + 1) path top ≡ true
    up is =
        elim (or_cases (stands_over_within k path top) (bytes_eq top (take k path)) is) [
          | inl before ↦
              elim (or_cases (bytes_eq top []) (goes_on top path && nat_lt (length top) k) before) [
                | inl root ↦ or_left (bytes_eq top []) (goes_on top path && nat_lt (length top) (k + 1)) root
                | inr above ↦
                    let parts = and_parts (goes_on top path) (nat_lt (length top) k) above in
                    let less = ltb-true (length top) k parts.1 in
                    or_right (bytes_eq top []) (goes_on top path && nat_lt (length top) (k + 1))
                    (and_from (goes_on top path) (nat_lt (length top) (k + 1)) parts.0
                    (lt-ltb (length top) (k + 1) (omega arith)))
              ]
          | inr here ↦
              let same = cut_length top path k low here in
              or_right (bytes_eq top []) (goes_on top path && nat_lt (length top) (k + 1))
              (and_from (goes_on top path) (nat_lt (length top) (k + 1)) (cut_goes_on top path k low here slash)
              (lt-ltb (length top) (k + 1) (omega arith)))
        ]

    down : stands_over_within (k + 1) path top ≡ true → (stands_over_within k path top || bytes_eq top (take k path)) ≡ true
    down is =
        elim (or_cases (bytes_eq top []) (goes_on top path && nat_lt (length top) (k + 1)) is) [
          | inl root ↦
              or_left (stands_over_within k path top) (bytes_eq top (take k path))
              (or_left (bytes_eq top []) (goes_on top path && nat_lt (length top) k) root)
          | inr above ↦
              let parts = and_parts (goes_on top path) (nat_lt (length top) (k + 1)) above in
              let less = ltb-true (length top) (k + 1) parts.1 in
              elim (cases_lt (length top) k) [
                | inl before ↦
                    or_left (stands_over_within k path top) (bytes_eq top (take k path))
                    (or_right (bytes_eq top []) (goes_on top path && nat_lt (length top) k)
                    (and_from (goes_on top path) (nat_lt (length top) k) parts.0 (lt-ltb (length top) k before)))
                | inr at ↦
                    let same : length top ≡ k = omega arith in
                    or_right (stands_over_within k path top) (bytes_eq top (take k path))
                    (subst (λ (n : ℕ). bytes_eq top (take n path) ≡ true) same (goes_on_cut top path parts.0).1)
              ]
        ]

pub over_same : (top path : List ℕ) (k : ℕ) → nat_eq (get_or path k 0) 47 ≡ false
    → stands_over_within k path top ≡ stands_over_within (k + 1) path top
over_same top path k other = ap (λ b. bytes_eq top [] || b) (both_ways _ _ up down)
  where
    up : (goes_on top path && nat_lt (length top) k) ≡ true → (goes_on top path && nat_lt (length top) (k + 1)) ≡ true
    up is =
        let parts = and_parts (goes_on top path) (nat_lt (length top) k) is in
        let less = ltb-true (length top) k parts.1 in
        and_from (goes_on top path) (nat_lt (length top) (k + 1)) parts.0 (lt-ltb (length top) (k + 1) (omega arith))

    down : (goes_on top path && nat_lt (length top) (k + 1)) ≡ true → (goes_on top path && nat_lt (length top) k) ≡ true
    down is =
        let parts = and_parts (goes_on top path) (nat_lt (length top) (k + 1)) is in
        let less = ltb-true (length top) (k + 1) parts.1 in
        elim (cases_lt (length top) k) [
          | inl before ↦ and_from (goes_on top path) (nat_lt (length top) k) parts.0 (lt-ltb (length top) k before)
          | inr at ↦
              let same : length top ≡ k = omega arith in
              absurd (let bad : true ≡ false = sym (subst (λ (n : ℕ). nat_eq (get_or path n 0) 47 ≡ true) same
              (goes_on_cut top path parts.0).2) ∙ other in cc)
        ]

pub over_none : (top path : List ℕ) → stands_over_within 0 path top ≡ bytes_eq top []
over_none top path = both_ways _ _ up (or_left (bytes_eq top []) (goes_on top path && nat_lt (length top) 0))
  where
    up : stands_over_within 0 path top ≡ true → bytes_eq top [] ≡ true
    up is =
        elim (or_cases (bytes_eq top []) (goes_on top path && nat_lt (length top) 0) is) [
          | inl root ↦ root
          | inr above ↦
              let parts = and_parts (goes_on top path) (nat_lt (length top) 0) above in
              absurd (let low = ltb-true (length top) 0 parts.1 in omega arith)
        ]

pub over_all : (top path : List ℕ) (k : ℕ) → length path ≤ k → stands_over_within k path top ≡ stands_over path top
over_all top path k all = ap (λ b. bytes_eq top [] || b) (both_ways _ _ up down)
  where
    up : (goes_on top path && nat_lt (length top) k) ≡ true → goes_on top path ≡ true
    up is = (and_parts (goes_on top path) (nat_lt (length top) k) is).0

    down : goes_on top path ≡ true → (goes_on top path && nat_lt (length top) k) ≡ true
    down is =
        let low = (goes_on_cut top path is).0 in
        and_from (goes_on top path) (nat_lt (length top) k) is (lt-ltb (length top) k (omega arith))
