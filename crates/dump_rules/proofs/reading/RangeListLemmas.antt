-- A range list is read if it is one, and no number is in ranges of both kinds.
use Rattle.dump_rules.proofs.Prelude.{◌≡◌, ℕ, ◌≤◌, max, Bool, true, false, not, ◌==◌, List, [], ◌∷◌, ◌++◌, nat_le, refl, sym, ap, subst, ◌∙◌, inl, inr, arith, Some, None, Option, list_all, list_any, slice_split, onto_first, join_with_byte, AllZip, is_ascii_digit, and_from, and_parts, or_cases, or_left, or_right, not_from_false, false_from_ne_true, cases_Bool, le-leb, leb-true, none_all, slice_split_at, slice_split_none, join_with_byte-slice_split, first_false, second_false, has_byte, has_byte-append, Range, HasNumber, IsConsistent, star, IsRangeText, IsRangeList, range_of, range_parts, is_other, contradicts, part_contradicts, part_agrees, list_reads}
use Rattle.dump_text.proofs.BoolLemmas.{equals_itself as same}
use Rattle.dump_rules.proofs.reading.RangeLemmas.{number_lacks, range_of_text, text_of_range}

-- cutting text at the byte that joins parts without it gives these parts

-- no part has the byte
abbrev pub AllLack : ℕ → List (List ℕ) → Type 0
AllLack b [] = Unit {0}
AllLack b (part ∷ parts) = (has_byte b part ≡ false) × AllLack b parts

-- cutting a joined text at the byte gives back the parts that it joins, if none of them has the byte
pub split_joined : (b : ℕ) (part : List ℕ) (parts : List (List ℕ)) → AllLack b (part ∷ parts)
    → slice_split (λ c. c == b) (join_with_byte b (part ∷ parts)) ≡ part ∷ parts
split_joined b part [] lack = slice_split_none (λ c. c == b) part (none_all b part lack.0)
split_joined b part (next ∷ parts) lack =
    slice_split_at (λ c. c == b) part b (join_with_byte b (next ∷ parts)) (none_all b part lack.0) (same b)
    ∙ ap (λ l. part ∷ l) (split_joined b next parts lack.1)

onto_lack : (b c : ℕ) (parts : List (List ℕ)) → (c == b) ≡ false → AllLack b parts → AllLack b (onto_first c parts)
onto_lack b c [] other lack = (rw other refl, tt)
onto_lack b c (part ∷ parts) other lack = (rw other lack.0, lack.1)

-- the parts into which a text is cut don't have the byte
pub parts_lack : (b : ℕ) (text : List ℕ) → AllLack b (slice_split (λ c. c == b) text)
parts_lack b [] = (refl, tt)
parts_lack b (c ∷ text) = elim (cases_Bool (c == b)) [
  | inl e ↦ rw e (refl, parts_lack b text)
  | inr e ↦ rw e (onto_lack b c (slice_split (λ x. x == b) text) e (parts_lack b text))
]

-- the parts that are read

-- the part is read as this range
abbrev pub Reads : List ℕ → Range → Type 0
Reads part r = range_of part ≡ Some r

-- a list that is zipped by a relation is zipped by a weaker one
pub zip_map : {A B : Type 0} (P Q : A → B → Type 0) → ((x : A) (y : B) → P x y → Q x y) → (xs : List A) (ys : List B)
    → AllZip P xs ys → AllZip Q xs ys
zip_map P Q each [] [] all = tt
zip_map P Q each (x ∷ xs) (y ∷ ys) all = (each x y all.0, zip_map P Q each xs ys all.1)
zip_map P Q each xs ys all = absurd all

-- a number that is in the ranges is in one of the parts
number_in_part : (parts : List (List ℕ)) (ranges : List Range) → AllZip Reads parts ranges → (kind : Bool) (n : ℕ)
    → HasNumber ranges kind n
    → (test : Option Range → Bool) → ((r : Range) → r.inheritable ≡ kind → r.from ≤ n → n ≤ r.to → test (Some r) ≡ true)
    → list_any (λ part. test (range_of part)) parts ≡ true
number_in_part [] [] all kind n has test passes = absurd has
number_in_part (part ∷ parts) (r ∷ ranges) all kind n (inl here) test passes =
    or_left _ _ (ap test all.0 ∙ passes r here.0 here.1 here.2)
number_in_part (part ∷ parts) (r ∷ ranges) all kind n (inr later) test passes =
    or_right _ _ (number_in_part parts ranges all.1 kind n later test passes)
number_in_part parts ranges all kind n has test passes = absurd all

-- a range of the list passes the test
abbrev Passing : List Range → (Range → Bool) → Type 0
Passing ranges test = (s : Range) × (test s ≡ true) × (s.from ≤ s.to)
    × ((n : ℕ) → s.from ≤ n → n ≤ s.to → HasNumber ranges s.inheritable n)

part_passes : (parts : List (List ℕ)) (ranges : List Range) → AllZip Reads parts ranges → (r : Range)
    → list_any (λ part. part_contradicts r (range_of part)) parts ≡ true → Passing ranges (contradicts r)
part_passes [] [] all r some = let bad : false ≡ true = some in cc
part_passes (part ∷ parts) (s ∷ ranges) all r some = elim (or_cases (contradicts r s) _ (rw all.0 at some)) [
  | inl e ↦ (s, e, (text_of_range part s all.0).order, (λ n low high. inl (refl, low, high)))
  | inr later ↦
      let found = part_passes parts ranges all.1 r later in
      (found.0, found.1, found.2, (λ n low high. inr (found.3 n low high)))
]
part_passes parts ranges all r some = absurd all

-- contradictions

overlap : (r s : Range) (n : ℕ) → is_other r.inheritable s.inheritable ≡ true → r.from ≤ n → n ≤ r.to → s.from ≤ n
    → n ≤ s.to → contradicts r s ≡ true
overlap r s n other r_low r_high s_low s_high =
    rw (other, le-leb r.from s.to (omega arith), le-leb s.from r.to (omega arith)) refl

overlap_parts : (r s : Range) → contradicts r s ≡ true → (is_other r.inheritable s.inheritable ≡ true) × (r.from ≤ s.to)
    × (s.from ≤ r.to)
overlap_parts r s h =
    let outer = and_parts _ (nat_le s.from r.to) h in
    let inner = and_parts (is_other r.inheritable s.inheritable) (nat_le r.from s.to) outer.0 in
    (inner.0, leb-true r.from s.to inner.1, leb-true s.from r.to outer.1)

unlike : (a b : Bool) (ranges : List Range) (n : ℕ) → is_other a b ≡ true → IsConsistent ranges → HasNumber ranges a n
    → HasNumber ranges b n → ⊥
unlike true false ranges n other consistent one two = consistent n one two
unlike false true ranges n other consistent one two = consistent n two one
unlike a b ranges n other consistent one two = let bad : false ≡ true = other in cc

all_not_any : {X : Type 0} (test : X → Bool) (xs : List X) → list_all test xs ≡ true
    → list_any (λ x. not (test x)) xs ≡ true → ⊥
all_not_any test [] all some = let bad : false ≡ true = some in cc
all_not_any test (x ∷ xs) all some =
    let parts = and_parts (test x) (list_all test xs) all in
    let rest : list_any (λ y. not (test y)) xs ≡ true = rw parts.0 at some in
    all_not_any test xs parts.1 rest

consistent_from_agree : (parts : List (List ℕ)) (ranges : List Range) → AllZip Reads parts ranges
    → list_all (λ part. part_agrees parts (range_of part)) parts ≡ true → IsConsistent ranges
consistent_from_agree parts ranges all agree n plain starred =
    all_not_any (λ part. part_agrees parts (range_of part)) parts agree
    (number_in_part parts ranges all true n plain (λ o. not (part_agrees parts o))
    (λ r kind low high. disagrees r kind low high))
  where
    disagrees : (r : Range) → r.inheritable ≡ true → r.from ≤ n → n ≤ r.to → not (part_agrees parts (Some r)) ≡ true
    disagrees r kind low high =
        let some : list_any (λ part. part_contradicts r (range_of part)) parts ≡ true =
        number_in_part parts ranges all false n starred (part_contradicts r)
        (λ s other s_low s_high. overlap r s n (rw (kind, other) refl) low high s_low s_high) in
        rw some refl

-- no part contradicts a list without contradictions, if the list has each of the part's numbers
pub all_agree : (parts : List (List ℕ)) (ranges : List Range) → AllZip Reads parts ranges → IsConsistent ranges
    → (some : List (List ℕ)) (found : List Range) → AllZip Reads some found
    → ((kind : Bool) (n : ℕ) → HasNumber found kind n → HasNumber ranges kind n)
    → list_all (λ part. part_agrees parts (range_of part)) some ≡ true
all_agree parts ranges all consistent [] [] these into = refl
all_agree parts ranges all consistent (part ∷ some) (r ∷ found) these into =
    let rest = all_agree parts ranges all consistent some found these.1 (λ kind n has. into kind n (inr has)) in
    and_from _ _ (ap (part_agrees parts) these.0 ∙ not_from_false _ (false_from_ne_true _ clash)) rest
  where
    clash : list_any (λ p. part_contradicts r (range_of p)) parts ≡ true → ⊥
    clash e =
        let other = part_passes parts ranges all r e in
        let s = other.0 in
        let (unlike_kinds, one, two) = overlap_parts r s other.1 in
        let r_order = (text_of_range part r these.0).order in
        let s_order = other.2 in
        unlike r.inheritable s.inheritable ranges (max r.from s.from) unlike_kinds consistent
        (into r.inheritable (max r.from s.from) (inl (refl, omega arith, omega arith)))
        (other.3 (max r.from s.from) (omega arith) (omega arith))
all_agree parts ranges all consistent some found these into = absurd these

read_all : (parts some : List (List ℕ)) → list_all (λ part. part_agrees parts (range_of part)) some ≡ true
    → (found : List Range) × AllZip Reads some found
read_all parts [] agree = ([], tt)
read_all parts (part ∷ some) agree =
    let both = and_parts (part_agrees parts (range_of part))
    (list_all (λ p. part_agrees parts (range_of p)) some) agree in
    go (range_of part) refl both.0 (read_all parts some both.1)
  where
    go : (o : Option Range) → range_of part ≡ o → part_agrees parts (range_of part) ≡ true
        → ((found : List Range) × AllZip Reads some found)
        → (found : List Range) × AllZip Reads (part ∷ some) found
    go None e agrees rest = let bad : false ≡ true = rw e at agrees in cc
    go (Some r) e agrees rest = (r ∷ rest.0, (e, rest.1))

-- texts that are joined

-- the text is a byte and others
abbrev pub HasFirst : List ℕ → Type 0
HasFirst text = (b : ℕ) × (rest : List ℕ) × (text ≡ b ∷ rest)

-- a joined text begins with a byte if the first of its parts does
pub joined_some : (byte : ℕ) (first : List ℕ) (texts : List (List ℕ)) → HasFirst first
    → HasFirst (join_with_byte byte (first ∷ texts))
joined_some byte first [] some = some
joined_some byte first (next ∷ texts) (b, rest, is) =
    let more = byte ∷ join_with_byte byte (next ∷ texts) in (b, rest ++ more, ap (λ (t : List ℕ). t ++ more) is)

-- range lists

part_lacks : (b : ℕ) (part : List ℕ) (r : Range) → is_ascii_digit b ≡ false → has_byte b (42 ∷ 45 ∷ []) ≡ false
    → IsRangeText part r → has_byte b part ≡ false
part_lacks b part r other marks is = elim is.spelled [
  | inl single ↦
      ap (has_byte b) single.3
      ∙ has_byte-append b single.0 (star r.inheritable) (number_lacks b single.0 r.from other single.1)
      (no_star r.inheritable)
  | inr span ↦
      ap (has_byte b) span.4
      ∙ has_byte-append b (span.0 ++ 45 ∷ [] ++ span.1) (star r.inheritable)
      (has_byte-append b (span.0 ++ 45 ∷ []) span.1
      (has_byte-append b span.0 (45 ∷ []) (number_lacks b span.0 r.from other span.2) no_dash)
      (number_lacks b span.1 r.to other span.3))
      (no_star r.inheritable)
]
  where
    no_star : (kind : Bool) → has_byte b (star kind) ≡ false
    no_star true = refl
    no_star false = rw (first_false (42 == b) (has_byte b (45 ∷ [])) marks) refl

    no_dash : has_byte b (45 ∷ []) ≡ false
    no_dash = second_false (42 == b) (has_byte b (45 ∷ [])) marks

-- the texts of ranges have no byte except digits, stars and dashes
pub all_lack : (b : ℕ) (parts : List (List ℕ)) (ranges : List Range) → is_ascii_digit b ≡ false
    → has_byte b (42 ∷ 45 ∷ []) ≡ false
    → AllZip IsRangeText parts ranges → AllLack b parts
all_lack b [] ranges other marks all = tt
all_lack b (part ∷ parts) [] other marks all = absurd all
all_lack b (part ∷ parts) (r ∷ ranges) other marks all =
    (part_lacks b part r other marks all.0, all_lack b parts ranges other marks all.1)

joined_lacks : (b c : ℕ) (parts : List (List ℕ)) → (c == b) ≡ false → AllLack b parts
    → has_byte b (join_with_byte c parts) ≡ false
joined_lacks b c [] other lack = refl
joined_lacks b c (part ∷ []) other lack = lack.0
joined_lacks b c (part ∷ next ∷ parts) other lack =
    has_byte-append b part (c ∷ join_with_byte c (next ∷ parts)) lack.0
    (rw other (joined_lacks b c (next ∷ parts) other lack.1))

-- a range list has no byte but digits, commas, dashes and stars
pub list_lacks : (b : ℕ) (list : List ℕ) (ranges : List Range) → is_ascii_digit b ≡ false
    → has_byte b (42 ∷ 45 ∷ []) ≡ false → (44 == b) ≡ false
    → IsRangeList list ranges → has_byte b list ≡ false
list_lacks b list ranges other marks comma is =
    ap (has_byte b) is.2 ∙ joined_lacks b 44 is.0 comma (all_lack b is.0 ranges other marks is.1)

-- a range list without contradictions is read
pub list_is_read : (list : List ℕ) (ranges : List Range) → IsRangeList list ranges → IsConsistent ranges
    → list_reads list ≡ true
list_is_read [] ranges is consistent = refl
list_is_read (b ∷ list) ranges is consistent =
    go is.0 is.1 is.2
  where
    go : (parts : List (List ℕ)) → AllZip IsRangeText parts ranges → b ∷ list ≡ join_with_byte 44 parts
        → list_reads (b ∷ list) ≡ true
    go [] all e = let bad : b ∷ list ≡ [] = e in cc
    go (part ∷ parts) all e =
        let cut : range_parts (b ∷ list) ≡ part ∷ parts =
        ap range_parts e ∙ split_joined 44 part parts (all_lack 44 (part ∷ parts) ranges refl refl all) in
        let reads = zip_map IsRangeText Reads range_of_text (part ∷ parts) ranges all in
        subst (λ (l : List (List ℕ)). list_all (λ p. part_agrees l (range_of p)) l ≡ true) (sym cut)
        (all_agree (part ∷ parts) ranges reads consistent (part ∷ parts) ranges reads (λ kind n has. has))

-- what is read is a range list without contradictions
pub read_is_list : (list : List ℕ) → list_reads list ≡ true → (ranges : List Range) × IsRangeList list ranges
    × IsConsistent ranges
read_is_list [] reads = ([], ([], tt, refl), λ n has. absurd has)
read_is_list (b ∷ list) reads =
    let found = read_all (range_parts (b ∷ list)) (range_parts (b ∷ list)) reads in (
      found.0,
      (
        range_parts (b ∷ list),
        zip_map Reads IsRangeText text_of_range (range_parts (b ∷ list)) found.0 found.1,
        sym
            (join_with_byte-slice_split 44 (b ∷ list)),
      ),
      consistent_from_agree (range_parts (b ∷ list)) found.0 found.1 reads,
    )
