-- What lawful header lines say about their record's kind and numbers.
use Rattle.dump_records.proofs.Prelude.{◌≡◌, ℕ, ◌+◌, ◌<◌, ◌^◌, arith, ◌==◌, ◌&&◌, ◌||◌, not, Bool, true, false, List, [], ◌∷◌, refl, sym, ap, ◌∙◌, Option, Some, None, is_some, is_none, count_by, option_and_then, unwrap_or, none-some, and-false, nat_tests, true_from_ne_false, eqb-true, IfSome, version_name, uuid_name, revision_name, path_name, copy_revision_name, copy_path_name, content_length_name, deciding_names, length_names, list_any, number_of, Header, has_header, header_value, first_false, second_false, false_true, is_there, value_at, ValuePlace, has_value, place_has, header_number, header_length, property_length, text_length, version_from, is_one_alone, has_bad_kind, is_read_version, has_bad_version, has_bad_number, KindParts, Version, version_in, IsKindOf}

-- of four names exactly one is there
pub record OneKind (v u s n : Bool) : Type 0 where
  pub node : n ≡ true → (v ≡ false) × (u ≡ false) × (s ≡ false)
  pub uuid : u ≡ true → (v ≡ false) × (s ≡ false) × (n ≡ false)
  pub revision : s ≡ true → (v ≡ false) × (u ≡ false) × (n ≡ false)
  pub version : v ≡ true → (u ≡ false) × (s ≡ false) × (n ≡ false)
  pub left : v ≡ false → s ≡ false → n ≡ false → u ≡ true

one_kind : (v u s n : Bool) → not (count_by (λ (b : Bool). b) (v ∷ u ∷ s ∷ n ∷ []) == 1) ≡ false → OneKind v u s n
one_kind true false false false good = record {
  node = λ is. absurd (false_true is);
  uuid = λ is. absurd (false_true is);
  revision = λ is. absurd (false_true is);
  version = λ is. (refl, refl, refl);
  left = λ no_version no_revision no_node. absurd (false_true (sym no_version));
}
one_kind false true false false good = record {
  node = λ is. absurd (false_true is);
  uuid = λ is. (refl, refl, refl);
  revision = λ is. absurd (false_true is);
  version = λ is. absurd (false_true is);
  left = λ no_version no_revision no_node. refl;
}
one_kind false false true false good = record {
  node = λ is. absurd (false_true is);
  uuid = λ is. absurd (false_true is);
  revision = λ is. (refl, refl, refl);
  version = λ is. absurd (false_true is);
  left = λ no_version no_revision no_node. absurd (false_true (sym no_revision));
}
one_kind false false false true good = record {
  node = λ is. (refl, refl, refl);
  uuid = λ is. absurd (false_true is);
  revision = λ is. absurd (false_true is);
  version = λ is. absurd (false_true is);
  left = λ no_version no_revision no_node. absurd (false_true (sym no_node));
}
one_kind v u s n bad = absurd (grind (arith, nat_tests, bad))

-- the deciding names of lines of some kind
pub deciding : (headers : List Header) → has_bad_kind headers ≡ false
    → OneKind (has_header version_name headers) (has_header uuid_name headers) (has_header revision_name headers)
    (has_header path_name headers)
deciding headers good = one_kind (has_header version_name headers) (has_header uuid_name headers)
    (has_header revision_name headers) (has_header path_name headers)
    (first_false _ (has_header path_name headers && is_one_alone (has_header copy_revision_name headers)
    (has_header copy_path_name headers)) good)

-- if not exactly one of two is there, both are, or neither is
pub both_or_none : (a b : Bool) → is_one_alone a b ≡ false → a ≡ b
both_or_none true true alone = refl
both_or_none true false alone = alone
both_or_none false true alone = sym alone
both_or_none false false alone = refl

-- a node has both copyfrom headers or neither
pub copy_both : (headers : List Header) → has_bad_kind headers ≡ false → has_header path_name headers ≡ true
    → has_header copy_revision_name headers ≡ has_header copy_path_name headers
copy_both headers good node = both_or_none (has_header copy_revision_name headers) (has_header copy_path_name headers)
    (sym (rw node refl) ∙ second_false (not (count_by (λ name. has_header name headers) deciding_names == 1))
    (has_header path_name headers && is_one_alone (has_header copy_revision_name headers)
    (has_header copy_path_name headers)) good)

-- what is missing is none
pub none_of : {A : Type 0} (r : Option A) → is_some r ≡ false → None ≡ r
none_of None missing = refl
none_of (Some x) missing = absurd (false_true (sym missing))

-- if no line has the name, it has no value and no number
pub no_value : (name : List ℕ) (headers : List Header) → has_header name headers ≡ false
    → None ≡ header_value name headers
no_value name headers missing = none_of (header_value name headers) (has_value name headers ∙ missing)

-- a name that isn't among the lines gives no number
pub no_number : (name : List ℕ) (headers : List Header) → has_header name headers ≡ false
    → None ≡ header_number name headers
no_number name headers missing = ap (option_and_then number_of) (no_value name headers missing)

-- a line has the name exactly if the name has a value
pub value_there : (name : List ℕ) (headers : List Header) (v : Option (List ℕ)) → v ≡ header_value name headers
    → has_header name headers ≡ is_some v
value_there name headers v is = sym (has_value name headers) ∙ ap is_some (sym is)

-- and exactly if the name's value has a place
pub place_there : (name dump : List ℕ) (headers : List Header) (place : ValuePlace)
    → value_at dump place ≡ header_value name headers → has_header name headers ≡ is_there place
place_there name dump headers place is =
    value_there name headers (value_at dump place) is ∙ sym (place_has dump place)

-- a number that is there exactly if a line is
both_there : (b : Bool) (n : Option ℕ) → (b ≡ true → n ≡ None → ⊥) → (b ≡ false → None ≡ n) → b ≡ is_some n
both_there true (Some n) some none = refl
both_there true None some none = absurd (some refl refl)
both_there false None some none = refl
both_there false (Some n) some none = absurd (none-some n (none refl))

-- a number is there exactly if its line is, unless that line gives none
number_there : (name : List ℕ) (headers : List Header)
    → (has_header name headers && is_none (header_number name headers)) ≡ false
    → has_header name headers ≡ is_some (header_number name headers)
number_there name headers good = both_there _ _
    (λ has none. false_true (sym good ∙ rw (has, none) refl)) (no_number name headers)

-- a line has the name that gives a number
number_from : (name : List ℕ) (headers : List Header) (n : ℕ) → header_number name headers ≡ Some n
    → has_header name headers ≡ true
number_from name headers n is = true_from_ne_false _ (λ none. none-some n (no_number name headers none ∙ is))

-- a version that is a number is bad if it isn't read
pub bad_version_is : (number n : ℕ) (headers : List Header) → header_number version_name headers ≡ Some n
    → has_bad_version number headers ≡ not (is_read_version n)
bad_version_is number n headers is =
    let has : has_header version_name headers ≡ true = number_from version_name headers n is in
    rw (has, is) (ap (λ b. b || not (is_read_version n)) (and-false (number == 0)))

-- a content length that is a number is bad if it isn't the sum of the other two
pub bad_sum_is : (headers : List Header) (content props text : ℕ)
    → header_number content_length_name headers ≡ Some content
    → props ≡ property_length headers → text ≡ text_length headers
    → (has_header content_length_name headers
    && not (header_length content_length_name headers == property_length headers + text_length headers))
    ≡ not (content == props + text)
bad_sum_is headers content props text is props_is text_is =
    let has : has_header content_length_name headers ≡ true = number_from content_length_name headers content is in
    rw (has, is, ← props_is, ← text_is) refl

-- the numbers of a revision and of a copy source are there exactly if their lines are
module _ (headers : List Header) (good : has_bad_number headers ≡ false) where
  rest : list_any (λ name. has_header name headers && is_none (header_number name headers))
      (copy_revision_name ∷ length_names) ≡ false
  rest = second_false (has_header revision_name headers && is_none (header_number revision_name headers)) _ good

  -- the revision number is given exactly if it is read
  pub revision_there : has_header revision_name headers ≡ is_some (header_number revision_name headers)
  revision_there = number_there revision_name headers
      (first_false _ (list_any (λ name. has_header name headers && is_none (header_number name headers))
      (copy_revision_name ∷ length_names)) good)

  -- the copy revision is given exactly if it is read
  pub copy_there : has_header copy_revision_name headers ≡ is_some (header_number copy_revision_name headers)
  copy_there = number_there copy_revision_name headers
      (first_false _ (list_any (λ name. has_header name headers && is_none
      (header_number name headers)) length_names) rest)

-- a version that is read is a number
pub version_there : (number : ℕ) (headers : List Header) → has_bad_version number headers ≡ false
    → is_some (header_number version_name headers) ≡ has_header version_name headers
version_there number headers good = sym (both_there _ _
    (λ has none. false_true (sym read ∙ rw (has, none) refl)) (no_number version_name headers))
  where
    read : (has_header version_name headers
        && not (is_read_version (unwrap_or (header_number version_name headers) 0))) ≡ false
    read = second_false (number == 0 && not (has_header version_name headers)) _ good

-- and it is a small one
pub version_small : (number : ℕ) (headers : List Header) → has_bad_version number headers ≡ false
    → IfSome (header_number version_name headers) (λ n. n < 2 ^ 8)
version_small number headers good = cases (header_number version_name headers) refl
  where
    cases : (n : Option ℕ) → header_number version_name headers ≡ n → IfSome n (λ n. n < 2 ^ 8)
    cases None found = tt
    cases (Some n) found = small n (sym (bad_version_is number n headers found) ∙ good)
      where
        small : (n : ℕ) → not (is_read_version n) ≡ false → n < 2 ^ 8
        small n read = by_two (n == 2) refl (n == 3) refl
          where
            by_two : (a : Bool) → (n == 2) ≡ a → (b : Bool) → (n == 3) ≡ b → n < 2 ^ 8
            by_two true two b other = let is = eqb-true n 2 two in omega arith
            by_two false other true three = let is = eqb-true n 3 three in omega arith
            by_two false not_two false not_three = absurd (false_true (sym read ∙ rw (not_two, not_three) refl))

-- the version in force is that of the parts that the lines give, if they have one
pub version_said : (dump : List ℕ) (headers : List Header) (parts : KindParts) (before : ℕ)
    → IsKindOf dump headers parts
    → unwrap_or (version_in parts) before ≡ version_from before headers
version_said dump headers (Version number) before said =
    let has : has_header version_name headers ≡ true = sym said.version in
    let found : header_number version_name headers ≡ Some number = sym said.version_number in
    rw (has, found) refl
version_said dump headers parts before said =
    let has : has_header version_name headers ≡ false = sym said.version in
    rw has refl
