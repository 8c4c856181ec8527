-- What is read of the rows of a line.
use Rattle.cli_support.proofs.Prelude.{◌≡◌, ◌∙◌, ◌≤◌, ℕ, Bool, true, false, refl, sym, ap, subst, List, [], Option, Some, None, Result, Ok, Err, codes, option_map_or, unwrap_or, bytes_eq, ParsesBool, ParsesUnsigned, bytes_eq-Decides, digits_value, without_leading_plus, flag_number, is_set, IsNumber}
use Rattle.clap.specs.Words.{ReadsOne, Text, one_text, rows_of}
use Rattle.clap.specs.declared.parser.matches.Found.{Found}
use Rattle.clap.proofs.WalkLemmas.{one_text-rows}

-- a text that isn't this one differs from it
differs : (text other : Text) → (text ≡ other → ⊥) → bytes_eq text other ≡ false
differs text other not_same = go (bytes_eq text other) refl
  where
    go : (b : Bool) → bytes_eq text other ≡ b → bytes_eq text other ≡ false
    go true e = absurd (not_same ((bytes_eq-Decides text other).0 e))
    go false e = e

-- what is read of a flag, or false if nothing is read, says whether the flag is set
pub flag_is : (E : Type 0) (m : Found) (name : Text) (o : Option Bool) → (one_text m name ≡ None → o ≡ None)
    → ((t : Text) → one_text m name ≡ Some t → ReadsOne {E = E} ParsesBool t o)
    → unwrap_or o false ≡ is_set name (rows_of m)
flag_is E m name o none reads = go (one_text m name) refl
  where
    is : (t : Option Text) → one_text m name ≡ t → is_set name (rows_of m) ≡ option_map_or
        (λ text. bytes_eq text (codes "true")) t false
    is t e = ap (λ u. option_map_or (λ text. bytes_eq text (codes "true")) u false) (sym (one_text-rows m name) ∙ e)

    read : (t : Text) (v : Option Bool) → ReadsOne {E = E} ParsesBool t v → unwrap_or v false ≡ bytes_eq t (codes "true")
    read t (Some true) e = rw e refl
    read t (Some false) e = rw e refl
    read t None e = sym (differs t (codes "true") e.1.0)

    go : (t : Option Text) → one_text m name ≡ t → unwrap_or o false ≡ is_set name (rows_of m)
    go None e = ap (λ v. unwrap_or v false) (none e) ∙ sym (is None e)
    go (Some t) e = read t o (reads t e) ∙ sym (is (Some t) e)

-- a number that is in its range is read unchanged
pub number_is : (E : Type 0) (G : List ℕ → Result ℕ E → Type 0) (m : Found) (name : Text) (most : ℕ) (r : Option ℕ)
    → ((u : List ℕ) (x : Result ℕ E) → G u x → ParsesUnsigned 64 10 u x)
    → IsNumber name most (rows_of m) → ((t : Text) → one_text m name ≡ Some t → ReadsOne G t r)
    → (n : ℕ) × (r ≡ Some n) × (n ≡ flag_number name (rows_of m)) × (1 ≤ n) × (n ≤ most)
number_is E G m name most r only number reads = go r (reads text (one_text-rows m name ∙ number.1))
  where
    text : Text
    text = number.0

    digits : ℕ
    digits = digits_value 10 (without_leading_plus text)

    means : digits ≡ flag_number name (rows_of m)
    means = ap (λ o. digits_value 10 (without_leading_plus (unwrap_or o []))) (sym number.1)

    go : (o : Option ℕ) → ReadsOne G text o → (n : ℕ) × (o ≡ Some n) × (n ≡ flag_number name (rows_of m)) × (1 ≤ n)
        × (n ≤ most)
    go (Some v) read =
        let parsed = only text (Ok v) read in (
          v,
          refl,
          parsed.1 ∙ means,
          subst (λ x. 1 ≤ x) (sym parsed.1) number.2.2,
          subst (λ x. x ≤ most)
              (sym parsed.1) number.2.3,
        )
    go None read = absurd (only text (Err read.0) read.1 (number.2.0, number.2.1))
