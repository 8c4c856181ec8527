-- A part of an entry, a letter and a length and that many bytes, is at the front of a text in one way.
use Rattle.dump_text.proofs.Prelude.{◌≡◌, ℕ, ◌<◌, ◌^◌, nat_lt, nat_le, Bool, true, false, ◌==◌, List, [], ◌∷◌, ◌++◌, ◌+◌, get_or, drop, length, length-append, refl, sym, ap, ◌∙◌, arith, Option, Some, None, if◌then◌else◌, list_all, is_ascii_digit, digits_value, AllDigits, and_parts, decimal_is_IsNumeral, length-decimal-le, drop_at, get_or-drop, digit_from_value, has_byte, is_number, number_of, spelled_number, sized_text, IsFirstLine, IsSized, HasSized, IsLetter}
use Rattle.std.proofs.Common.{append_assoc}
use Rattle.dump_text.proofs.Unique.{tail-eq, split_once, split_by_length}

-- the digits spell a number, and none of them is LF
pub record Spells (digits : List ℕ) (n : ℕ) : Type 0 where
  pub one_line : has_byte 10 digits ≡ false
  pub value : digits_value 10 digits ≡ n

no_lf : (digits : List ℕ) → list_all is_ascii_digit digits ≡ true → has_byte 10 digits ≡ false
no_lf [] all = refl
no_lf (c ∷ digits) all =
    let parts = and_parts (is_ascii_digit c) (list_all is_ascii_digit digits) all in
    let other : (c == 10) ≡ false = grind (arith, parts.0) in
    rw other (no_lf digits parts.1)

some_eq : (m n : ℕ) → Path (Option ℕ) (Some m) (Some n) → m ≡ n
some_eq m n e = cc

-- a number that is read is spelled by its digits
pub number_spells : (digits : List ℕ) (n : ℕ) → number_of digits ≡ Some n → Spells digits n
number_spells digits n e =
    elim (is_number digits) as (λ (b : Bool). is_number digits ≡ b
    → (if b then Some (digits_value 10 digits) else None) ≡ Some n → Spells digits n) [
      | true ↦ λ is read. record {
        one_line = no_lf digits (and_parts _ (list_all is_ascii_digit digits) is).1;
        value = some_eq _ _ read;
      }
      | false ↦ λ is read. cc
    ] refl e

ascii_digits : (digits : List ℕ) → AllDigits 10 digits → list_all is_ascii_digit digits ≡ true
ascii_digits [] all = refl
ascii_digits (c ∷ digits) all =
    let range = digit_from_value c all.0 in
    let one : is_ascii_digit c ≡ true = grind (arith, range) in
    rw one (ascii_digits digits all.1)

-- the digits that are written spell their number
pub spelled_spells : (n : ℕ) → n < 2 ^ 64 → Spells (spelled_number n) n
spelled_spells n small =
    let is = decimal_is_IsNumeral n small in
    record { one_line = no_lf (spelled_number n) (ascii_digits (spelled_number n) is.0.1); value = is.1 }

-- and they are read again, if there aren't too many
pub number_of-spelled : (n : ℕ) → n < 10 ^ 18 → number_of (spelled_number n) ≡ Some n
number_of-spelled n small =
    let fits : n < 2 ^ 64 = omega arith in
    let is = decimal_is_IsNumeral n fits in
    let some : nat_lt 0 (length (spelled_number n)) ≡ true = let l = is.0.0 in grind (arith, l) in
    let few : nat_le (length (spelled_number n)) 18 ≡ true = let l = length-decimal-le 18 n
    (omega arith) small fits in grind (arith, l) in
    let all = ascii_digits (spelled_number n) is.0.1 in
    let number : is_number (spelled_number n) ≡ true = rw (some, few, all) refl in
    rw number (ap (λ (m : ℕ). Some m) is.1)

-- a part and what follows it, byte by byte
pub sized_cut : (letter : ℕ) (digits bytes rest : List ℕ)
    → sized_text (letter ∷ []) digits bytes ++ rest ≡ letter ∷ 32 ∷ (digits ++ 10 ∷ (bytes ++ 10 ∷ rest))
sized_cut letter digits bytes rest =
    ap (λ t. letter ∷ 32 ∷ t)
    (append_assoc (digits ++ 10 ∷ [] ++ bytes) (10 ∷ []) rest ∙ append_assoc (digits ++ 10 ∷ []) bytes (10 ∷ rest)
    ∙ append_assoc digits (10 ∷ []) (bytes ++ 10 ∷ rest))

-- parts at the front of one text are one
pub sized_once : (letter : ℕ) (d e b c x y : List ℕ) → Spells d (length b) → Spells e (length c)
    → sized_text (letter ∷ []) d b ++ x ≡ sized_text (letter ∷ []) e c ++ y → (d ≡ e) × (b ≡ c) × (x ≡ y)
sized_once letter d e b c x y s t is =
    let whole = sym (sized_cut letter d b x) ∙ is ∙ sized_cut letter e c y in
    let lines = tail-eq 32 32 _ _ (tail-eq letter letter _ _ whole) in
    let cut = split_once 10 d e (b ++ 10 ∷ x) (c ++ 10 ∷ y) s.one_line t.one_line lines in
    let sizes : length b ≡ length c = sym s.value ∙ ap (digits_value 10) cut.0 ∙ t.value in
    let parts = split_by_length b c (10 ∷ x) (10 ∷ y) sizes cut.1 in
    (cut.0, parts.0, tail-eq 10 10 x y parts.1)

-- a text begins with a part of this letter in one way
pub part_once : (letter : ℕ) (text other d e b c x y : List ℕ) → IsSized letter text d b x → IsSized letter other e c y
    → text ≡ other
    → (d ≡ e) × (b ≡ c) × (x ≡ y)
part_once letter text other d e b c x y s t is =
    sized_once letter d e b c x y (number_spells d (length b) s.size) (number_spells e (length c) t.size)
    (sym s.cut ∙ is ∙ t.cut)

-- a part is longer than its bytes, and than what follows it
pub part_inside : (letter : ℕ) (text d b x : List ℕ) → text ≡ sized_text (letter ∷ []) d b ++ x
    → (length b < length text) × (length x < length text)
part_inside letter text d b x is =
    let whole = ap length (is ∙ sized_cut letter d b x) in
    let line = length-append d (10 ∷ (b ++ 10 ∷ x)) in
    let bytes = length-append b (10 ∷ x) in
    (grind (arith, whole, line, bytes), grind (arith, whole, line, bytes))

-- what follows the letter and a space is the part's digits, an LF, and what follows those
pub line_of : (letter : ℕ) (text behind d b x : List ℕ) → IsLetter letter text behind → IsSized letter text d b x
    → behind ≡ d ++ 10 ∷ (b ++ 10 ∷ x)
line_of letter text behind d b x line s =
    tail-eq 32 32 behind (d ++ 10 ∷ (b ++ 10 ∷ x))
    (tail-eq letter letter (32 ∷ behind) (32 ∷ (d ++ 10 ∷ (b ++ 10 ∷ x)))
    (sym line ∙ s.cut ∙ sized_cut letter d b x))

-- the digits and what follows them are those of each part that is there
sized_line : (letter : ℕ) (text behind digits rest d b x : List ℕ) → IsLetter letter text behind
    → IsFirstLine behind digits rest
    → IsSized letter text d b x → (digits ≡ d) × (rest ≡ b ++ 10 ∷ x)
sized_line letter text behind digits rest d b x line first s =
    let spells = number_spells d (length b) s.size in
    split_once 10 digits d rest (b ++ 10 ∷ x) first.one_line spells.one_line
    (sym first.cut ∙ line_of letter text behind d b x line s)

-- there is no part if there is no number
pub no_sized-number : (letter : ℕ) (text behind digits rest : List ℕ) → IsLetter letter text behind
    → IsFirstLine behind digits rest
    → number_of digits ≡ None → ¬ HasSized letter text
no_sized-number letter text behind digits rest line first none (d, b, x, s) =
    let same = sized_line letter text behind digits rest d b x line first s in
    let bad : Path (Option ℕ) None (Some (length b)) = sym none ∙ ap number_of same.0 ∙ s.size in cc

-- if there is a part, its bytes and an LF follow its line
pub sized_room : (letter : ℕ) (text behind digits rest : List ℕ) (size : ℕ) → IsLetter letter text behind
    → IsFirstLine behind digits rest
    → number_of digits ≡ Some size → HasSized letter text → (size < length rest) × (get_or rest size 0 ≡ 10)
sized_room letter text behind digits rest size line first read (d, b, x, s) =
    let same = sized_line letter text behind digits rest d b x line first s in
    let size_is : size ≡ length b = some_eq size (length b) (sym read ∙ ap number_of same.0 ∙ s.size) in
    let sizes : length rest ≡ length b + length (10 ∷ x) = ap length same.1 ∙ length-append b (10 ∷ x) in
    let more : length (10 ∷ x) ≡ 1 + length x = omega arith in
    let back : drop size rest ≡ 10 ∷ x = ap (drop size) same.1 ∙ drop_at b (10 ∷ x) size (sym size_is) in (
      omega arith,
      ap (λ n. get_or rest n 0) (omega arith) ∙ sym (get_or-drop size rest 0 0)
          ∙ ap (λ (t : List ℕ). get_or t 0 0) back,
    )
