-- A block that is written unchanged: its numbers and lengths stay, and are spelled as the filter writes them.
use Rattle.dump_filter.proofs.Prelude.{◌≡◌, ℕ, ◌+◌, ◌==◌, nat_eq, nat_le, Bool, true, false, not, ◌&&◌, ◌||◌, List, length, refl, sym, ap, ◌∙◌, Option, Some, None, is_none, unwrap_or, option_and_then, option_eq, eqb-true, not-false, bytes_eq-Decides, number_of, spelled_number, revision_name, copy_revision_name, property_length_name, text_length_name, content_length_name, Header, has_header, count_named, header_value, first_true, second_true, first_false, second_false, false_true, false_from_ne_true, absurd_bool, header_number, header_length, property_length, text_length, has_bad_number, has_bad_lengths, are_spelled, is_spelled, are_written, DumpRecord, BeginsWithRecord, keeps, CopyChange, Same, Renumbered, Dropped, Changes, with_lengths, AreLengths, StaysCopied, copied_headers, new_headers, put_all}
use Rattle.dump_filter.proofs.written.HeaderLemmas.{no_length}
use Rattle.dump_filter.proofs.again.LineChanges.{IsTold, put_same}
use Rattle.dump_filter.proofs.again.Headers.{AreTold, known_once, lengths_again}
use Rattle.dump_filter.proofs.written.LineLemmas.{lengths_are}

-- an optional number that passes the test for another number is that number
pub same_number : (x : Option ℕ) (n : ℕ) → option_eq nat_eq x (Some n) ≡ true → x ≡ Some n
same_number None n same = absurd (false_true same)
same_number (Some m) n same = ap Some (eqb-true m n same)

-- a number that is there and is written unchanged
spelled_value : (name : List ℕ) (n : ℕ) (headers : List Header) → is_spelled name headers ≡ true
    → header_number name headers ≡ Some n
    → header_value name headers ≡ Some (spelled_number n)
spelled_value name n headers spelled is = by_value (header_value name headers) spelled is
  where
    by_number : (digits : List ℕ) (o : Option ℕ) → are_spelled (Some digits) o ≡ true → o ≡ Some n
        → Some digits ≡ Some (spelled_number n)
    by_number digits None spelled is = let bad : None ≡ Some n = is in cc
    by_number digits (Some m) spelled is =
        let same : m ≡ n = cc in
        ap (λ (t : List ℕ). Some t) ((bytes_eq-Decides digits (spelled_number m)).0 spelled ∙ ap spelled_number same)

    by_value : (o : Option (List ℕ)) → are_spelled o (option_and_then number_of o) ≡ true
        → option_and_then number_of o ≡ Some n
        → o ≡ Some (spelled_number n)
    by_value None spelled is = let bad : None ≡ Some n = is in cc
    by_value (Some digits) spelled is = by_number digits (number_of digits) spelled is

-- a header of a number that is there gives one
there : (name : List ℕ) (headers : List Header) → has_header name headers ≡ true
    → (has_header name headers && is_none (header_number name headers)) ≡ false
    → (n : ℕ) × (header_number name headers ≡ Some n)
there name headers has good = by_number (header_number name headers) refl
  where
    by_number : (o : Option ℕ) → header_number name headers ≡ o → (n : ℕ) × (header_number name headers ≡ Some n)
    by_number (Some n) is = (n, is)
    by_number None is = absurd (absurd_bool (has_header name headers && is_none (header_number name headers))
        (rw (has, is) refl) good)

-- the line of a length that is written unchanged has that length
told_of : (name : List ℕ) (n : ℕ) (headers : List Header) → is_spelled name headers ≡ true
    → (has_header name headers && is_none (header_number name headers)) ≡ false
    → (has_header name headers ≡ true → header_length name headers ≡ n) → (has_header name headers ≡ false → n ≡ 0)
    → IsTold name n headers
told_of name n headers spelled good is none = by_case (has_header name headers) refl
  where
    by_case : (b : Bool) → has_header name headers ≡ b → IsTold name n headers
    by_case true has =
        let (m, number) = there name headers has good in
        let same : m ≡ n = sym (ap (λ o. unwrap_or o 0) number) ∙ is has in
        rw has (spelled_value name n headers spelled (number ∙ ap (λ k. Some k) same))
    by_case false has = rw has (none has)

-- which numbers a block without a broken rule has
record AreGood (headers : List Header) : Type 0 where
  pub props : (has_header property_length_name headers && is_none (header_number property_length_name headers)) ≡ false
  pub text : (has_header text_length_name headers && is_none (header_number text_length_name headers)) ≡ false
  pub content : (has_header content_length_name headers && is_none (header_number content_length_name headers)) ≡ false

are_good : (headers : List Header) → has_bad_number headers ≡ false → AreGood headers
are_good headers good =
    let lengths = second_false _ _ (second_false _ _ good) in
    record {
      props = first_false _ _ lengths;
      text = first_false _ _ (second_false _ _ lengths);
      content = first_false _ _ (second_false _ _ (second_false _ _ lengths));
    }

-- the conditions under which a block is written unchanged
record AreParts (headers : List Header) : Type 0 where
  pub revision : is_spelled revision_name headers ≡ true
  pub copy : is_spelled copy_revision_name headers ≡ true
  pub props : is_spelled property_length_name headers ≡ true
  pub text : is_spelled text_length_name headers ≡ true
  pub content : is_spelled content_length_name headers ≡ true
  pub there : (has_header content_length_name headers || property_length headers + text_length headers == 0) ≡ true

parts_of : (headers : List Header) → are_written headers ≡ true → AreParts headers
parts_of headers written =
    let r = is_spelled revision_name headers in
    let c = is_spelled copy_revision_name headers in
    let p = is_spelled property_length_name headers in
    let t = is_spelled text_length_name headers in
    let k = is_spelled content_length_name headers in
    let h = has_header content_length_name headers || property_length headers + text_length headers == 0 in
    let five = first_true (r && c && p && t && k) h written in
    let four = first_true (r && c && p && t) k five in
    let three = first_true (r && c && p) t four in
    let two = first_true (r && c) p three in
    record {
      revision = first_true r c two;
      copy = second_true r c two;
      props = second_true (r && c) p three;
      text = second_true (r && c && p) t four;
      content = second_true (r && c && p && t) k five;
      there = second_true (r && c && p && t && k) h written;
    }

-- if the block of a record is written unchanged, its lines have the lengths of its content
told_all : (number : ℕ) (text : List ℕ) (r : DumpRecord) (after : List ℕ) → BeginsWithRecord number text r after
    → are_written r.headers ≡ true → AreTold r.props r.text r.headers
told_all number text r after b written =
    let parts = parts_of r.headers written in
    let lawful = keeps number r.headers b.lawful in
    let good = are_good r.headers (false_from_ne_true (has_bad_number r.headers) lawful.number_ok) in
    let sum : length r.props + length r.text ≡ property_length r.headers + text_length r.headers
    = ap (λ n. n + length r.text) b.props_fit ∙ ap (λ n. property_length r.headers + n) b.text_fits in
    record {
      props_told = told_of property_length_name (length r.props) r.headers parts.props good.props
          (λ has. sym b.props_fit)
          (λ none. b.props_fit ∙ no_length property_length_name r.headers none);
      text_told = told_of text_length_name (length r.text) r.headers parts.text good.text (λ has. sym b.text_fits)
          (λ none. b.text_fits ∙ no_length text_length_name r.headers none);
      content_told = told_of content_length_name (length r.props + length r.text) r.headers parts.content good.content
          (λ has. adds_up has (first_false _ _ (first_false _ _ (false_from_ne_true (has_bad_lengths r.headers) lawful.lengths)))
          ∙ sym sum)
          (λ none. sum ∙ eqb-true (property_length r.headers + text_length r.headers) 0
          (sym (ap (λ b. b || property_length r.headers + text_length r.headers == 0) none) ∙ parts.there));
    }
  where
    adds_up : has_header content_length_name r.headers ≡ true
        → (has_header content_length_name r.headers
        && not (header_length content_length_name r.headers == property_length r.headers + text_length r.headers))
        ≡ false
        → header_length content_length_name r.headers ≡ property_length r.headers + text_length r.headers
    adds_up has ok = eqb-true (header_length content_length_name r.headers)
        (property_length r.headers + text_length r.headers)
        (not-false (header_length content_length_name r.headers == property_length r.headers + text_length r.headers)
        (sym (ap (λ b. b && not
        (header_length content_length_name r.headers == property_length r.headers + text_length r.headers)) has)
        ∙ ok))

-- to put a number that is already there has no effect
put_known : (name : List ℕ) (o : Option ℕ) (headers : List Header) → nat_le (count_named name headers) 1 ≡ true
    → is_spelled name headers ≡ true
    → ((n : ℕ) → o ≡ Some n → header_number name headers ≡ Some n) → put_all name o headers ≡ headers
put_known name None headers few spelled same = refl
put_known name (Some n) headers few spelled same =
    put_same name (spelled_number n) headers few (spelled_value name n headers spelled (same n refl))

copy_put : (copy : CopyChange) (headers : List Header) → nat_le (count_named copy_revision_name headers) 1 ≡ true
    → is_spelled copy_revision_name headers ≡ true → StaysCopied copy headers → copied_headers copy headers ≡ headers
copy_put Same headers few spelled same = refl
copy_put (Renumbered n) headers few spelled same =
    put_same copy_revision_name (spelled_number n) headers few (spelled_value copy_revision_name n headers spelled same)
copy_put Dropped headers few spelled same = absurd same

-- the block of a record, if it has its own numbers and lengths and all of them are written unchanged
pub stands_as_written : (number : ℕ) (text : List ℕ) (r : DumpRecord) (after : List ℕ) (c : Changes)
    → BeginsWithRecord number text r after
    → are_written r.headers ≡ true → AreLengths r.props r.text c
    → ((n : ℕ) → c.revision ≡ Some n → header_number revision_name r.headers ≡ Some n)
    → StaysCopied c.copy r.headers → new_headers c r.headers ≡ r.headers
stands_as_written number text r after c b written lengths revision copy =
    let parts = parts_of r.headers written in
    let headers = r.headers in
    lengths_are c headers r.props r.text lengths
    ∙ ap (λ (l : List Header). with_lengths r.props r.text (put_all revision_name c.revision l))
    (copy_put c.copy headers (known_once copy_revision_name refl headers b.block) parts.copy copy)
    ∙ ap (with_lengths r.props r.text)
    (put_known revision_name c.revision headers (known_once revision_name refl headers b.block) parts.revision revision)
    ∙ lengths_again r.props r.text headers b.block (told_all number text r after b written)
