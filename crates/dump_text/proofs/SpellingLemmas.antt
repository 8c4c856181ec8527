-- The digits of a number, compared with those that are written for it: only leading zeros differ.
use Rattle.std.proofs.lemmas.Bool.{false_from_ne_true}
use Rattle.dump_text.proofs.Prelude.{rules, ◌≡◌, ℕ, ◌<◌, ◌≤◌, ◌^◌, nat_lt, nat_le, Bool, true, false, not, ◌==◌, List, get_or, length, bytes_eq, decimal, Option, Some, None, if◌then◌else◌, sym, ap, ◌∙◌, refl, arith, zero, suc, list_all, is_ascii_digit, digits_value, decimal_digit, decimal-digits_value, first_decimal, IsNumeralModel, IsDigitsTest, numerals_by_value, digits_value_short, and_parts, bytes_eq-Decides, is_number, number_of, spelled_number}

digits_test : IsDigitsTest (λ ds. list_all is_ascii_digit ds ≡ true)
digits_test = search rules

numerals : IsNumeralModel (λ ds. list_all is_ascii_digit ds ≡ true) (digits_value 10)
numerals = numerals_by_value _ digits_test

-- the digits are read as this number
record IsRead (digits : List ℕ) (n : ℕ) : Type 0 where
  some : 0 < length digits
  few : length digits ≤ 18
  all : list_all is_ascii_digit digits ≡ true
  value : digits_value 10 digits ≡ n
  small : n < 2 ^ 64

is_read : (digits : List ℕ) (n : ℕ) → number_of digits ≡ Some n → IsRead digits n
is_read digits n e =
    elim (is_number digits) as (λ (b : Bool). is_number digits ≡ b
    → (if b then Some (digits_value 10 digits) else None) ≡ Some n → IsRead digits n) [
      | true ↦ λ is read. parts is (some_eq _ _ read)
      | false ↦ λ is read. cc
    ] refl e
  where
    some_eq : (m n : ℕ) → Path (Option ℕ) (Some m) (Some n) → m ≡ n
    some_eq m n e = cc

    parts : is_number digits ≡ true → digits_value 10 digits ≡ n → IsRead digits n
    parts is value =
        let (sizes, all) = and_parts _ (list_all is_ascii_digit digits) is in
        let (some, few) = and_parts (nat_lt 0 (length digits)) (nat_le (length digits) 18) sizes in
        let at_most : length digits ≤ 18 = grind (arith, few) in
        let short = digits_value_short numerals digits 18 all at_most in
        record { some = grind (arith, some); few = at_most; all = all; value = value; small = omega (arith, short, value) }

-- digits without a leading zero are those that are written
pub no_zero_leads : (digits : List ℕ) (n : ℕ) → number_of digits ≡ Some n
    → (get_or digits 0 0 ≡ 48 → length digits < 2) → bytes_eq digits (spelled_number n) ≡ true
no_zero_leads digits n e short =
    let read = is_read digits n e in
    let some = read.some in
    let lone : get_or digits 0 0 ≡ 48 → length digits ≡ 1 = λ leads. let few = short leads in omega arith in
    let small : digits_value 10 digits < 2 ^ 64 = rw read.value read.small in
    let same = decimal-digits_value numerals digits read.all read.some lone small in
    (bytes_eq-Decides digits (spelled_number n)).1 (sym same ∙ ap decimal read.value)

-- digits with one aren't
zero_leads : (digits : List ℕ) (n : ℕ) → number_of digits ≡ Some n → 2 ≤ length digits → get_or digits 0 0 ≡ 48
    → bytes_eq digits (spelled_number n) ≡ false
zero_leads digits n e more leads = false_from_ne_true _ (λ t. differ n (is_read digits n e).small ((bytes_eq-Decides _ _).0 t))
  where
    differ : (n : ℕ) → n < 2 ^ 64 → digits ≡ decimal n → ⊥
    differ zero small same =
        let one : length digits ≡ 1 = ap (λ ds. length ds) (same ∙ decimal_digit 0 (omega arith)) in
        omega (arith, more, one)
    differ (suc m) small same =
        let first = first_decimal (suc m) (omega arith) small in
        let zero_first : get_or (decimal (suc m)) 0 0 ≡ 48 = ap (λ ds. get_or ds 0 0) (sym same) ∙ leads in
        omega (arith, first, zero_first)

-- if there is more than one digit, the first one decides
pub first_tells : (digits : List ℕ) (n : ℕ) → number_of digits ≡ Some n → 2 ≤ length digits
    → not (get_or digits 0 0 == 48) ≡ bytes_eq digits (spelled_number n)
first_tells digits n e more =
    elim (get_or digits 0 0 == 48) as (λ (b : Bool). (get_or digits 0 0 == 48) ≡ b
    → not b ≡ bytes_eq digits (spelled_number n)) [
      | true ↦ λ is. sym (zero_leads digits n e more (grind (arith, is)))
      | false ↦ λ is. sym (no_zero_leads digits n e (λ leads. let bad : ⊥ = grind (arith, is, leads) in absurd bad))
    ] refl
