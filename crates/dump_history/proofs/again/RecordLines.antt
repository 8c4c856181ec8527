-- What the new lines of a kept node keep of the old ones.
use Rattle.dump_history.proofs.Prelude.{◌≡◌, ◌+◌, ◌<◌, ◌^◌, ◌==◌, Bool, true, ◌&&◌, ◌++◌, length, refl, ◌∙◌, arith, None, if◌then◌else◌, list_all, is_ascii_digit, digits_value, list_any-append, list_all-append, is_number, number_of, spelled_number, property_length_name, text_length_name, content_length_name, Header, has_byte, is_named, has_header, with_header_value, first_true, second_true, and_from, number_of-spelled, with_length, with_lengths, without_copy_headers, is_copy_line, put_has, is_plain_line}
use Rattle.std.proofs.Common.{ℕ, nat_lt, nat_le, false, List, [], ◌∷◌, Some}

-- digits

no_zero : (digits : List ℕ) → list_all is_ascii_digit digits ≡ true → has_byte 0 digits ≡ false
no_zero [] all = refl
no_zero (c ∷ digits) all =
    let one = first_true (is_ascii_digit c) (list_all is_ascii_digit digits) all in
    let other : (c == 0) ≡ false = grind (arith, one) in
    let more = no_zero digits (second_true (is_ascii_digit c) (list_all is_ascii_digit digits) all) in
    rw (other, more) refl

number_digits : (digits : List ℕ) (n : ℕ) → number_of digits ≡ Some n → has_byte 0 digits ≡ false
number_digits digits n read = cases (is_number digits) refl read
  where
    cases : (b : Bool) → is_number digits ≡ b → (if b then Some (digits_value 10 digits) else None) ≡ Some n
        → has_byte 0 digits ≡ false
    cases true is e = no_zero digits (second_true (nat_lt 0 (length digits) && nat_le (length digits) 18)
        (list_all is_ascii_digit digits) is)
    cases false is e = cc

-- a number that is written has no zero byte
pub spelled_plain : (n : ℕ) → n < 10 ^ 18 → has_byte 0 (spelled_number n) ≡ false
spelled_plain n small = number_digits (spelled_number n) n (number_of-spelled n small)

-- lines without zero bytes

-- a new line without a zero byte adds none
pub plain_put : (name value : List ℕ) → has_byte 0 name ≡ false → has_byte 0 value ≡ false → (headers : List Header)
    → list_all is_plain_line headers ≡ true → list_all is_plain_line (with_header_value name value headers) ≡ true
plain_put name value plain_name plain_value [] all = refl
plain_put name value plain_name plain_value (h ∷ headers) all =
    and_from (is_plain_line (if is_named name h then record { name = name; value = value } else h))
    (list_all is_plain_line (with_header_value name value headers)) (one (is_named name h))
    (plain_put name value plain_name plain_value headers
    (second_true (is_plain_line h) (list_all is_plain_line headers) all))
  where
    one : (b : Bool) → is_plain_line (if b then record { name = name; value = value } else h) ≡ true
    one true = rw (plain_name, plain_value) refl
    one false = first_true (is_plain_line h) (list_all is_plain_line headers) all

plain_length : (name : List ℕ) (n : ℕ) → has_byte 0 name ≡ false → n < 10 ^ 18 → (headers : List Header)
    → list_all is_plain_line headers ≡ true → list_all is_plain_line (with_length name n headers) ≡ true
plain_length name n plain_name small headers all = by_case (has_header name headers) (n == 0)
  where
    line : Header
    line = record { name = name; value = spelled_number n }

    joined : list_all is_plain_line (headers ++ line ∷ []) ≡ true
    joined = list_all-append is_plain_line headers (line ∷ [])
        ∙ rw (all, plain_name, spelled_plain n small) refl

    by_case : (b z : Bool) → list_all is_plain_line
        (if b then with_header_value name (spelled_number n) headers
        else if z then headers else headers ++ line ∷ []) ≡ true
    by_case true z = plain_put name (spelled_number n) plain_name (spelled_plain n small) headers all
    by_case false true = all
    by_case false false = joined

-- without the lines of the copy source, there still is no zero byte
pub plain_gone : (headers : List Header) → list_all is_plain_line headers ≡ true
    → list_all is_plain_line (without_copy_headers headers) ≡ true
plain_gone [] all = refl
plain_gone (h ∷ headers) all = by_case (is_copy_line h.name) refl
    (plain_gone headers (second_true (is_plain_line h) (list_all is_plain_line headers) all))
  where
    by_case : (b : Bool) → is_copy_line h.name ≡ b → list_all is_plain_line (without_copy_headers headers) ≡ true
        → list_all is_plain_line (without_copy_headers (h ∷ headers)) ≡ true
    by_case true is more = rw is more
    by_case false is more =
        rw (is, first_true (is_plain_line h) (list_all is_plain_line headers) all) more

-- the lines with the lengths of a content have no zero byte if the lines before had none
pub plain_lengths : (props text : List ℕ) → length props + length text < 10 ^ 18 → (headers : List Header)
    → list_all is_plain_line headers ≡ true → list_all is_plain_line (with_lengths props text headers) ≡ true
plain_lengths props text small headers all =
    let one = plain_length property_length_name (length props) refl (omega (arith, small)) headers all in
    let two = plain_put text_length_name (spelled_number (length text)) refl
    (spelled_plain (length text) (omega (arith, small)))
    (with_length property_length_name (length props) headers) one in
    plain_length content_length_name (length props + length text) refl small
    (with_header_value text_length_name (spelled_number (length text))
    (with_length property_length_name (length props) headers)) two

-- a line that the record has

length_has : (name other : List ℕ) (n : ℕ) (headers : List Header) → has_header name headers ≡ true
    → has_header name (with_length other n headers) ≡ true
length_has name other n headers has = by_case (has_header other headers) (n == 0)
  where
    line : Header
    line = record { name = other; value = spelled_number n }

    by_case : (b z : Bool) → has_header name
        (if b then with_header_value other (spelled_number n) headers
        else if z then headers else headers ++ line ∷ []) ≡ true
    by_case true z = put_has name other (spelled_number n) headers ∙ has
    by_case false true = has
    by_case false false = list_any-append (is_named name) headers (line ∷ []) ∙ rw has refl

-- new lengths remove no line
pub lengths_have : (name props text : List ℕ) (headers : List Header) → has_header name headers ≡ true
    → has_header name (with_lengths props text headers) ≡ true
lengths_have name props text headers has =
    let one = with_length property_length_name (length props) headers in
    length_has name content_length_name (length props + length text)
    (with_header_value text_length_name (spelled_number (length text)) one)
    (put_has name text_length_name (spelled_number (length text)) one
    ∙ length_has name property_length_name (length props) headers has)
