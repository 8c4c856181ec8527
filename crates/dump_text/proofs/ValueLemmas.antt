-- The values of the known names among header lines, line by line.
use Rattle.std.proofs.lemmas.Bool.{false_from_ne_true}
use Rattle.dump_text.proofs.Prelude.{◌≡◌, ◌≢◌, ℕ, zero, suc, replicate, ◌<◌, ◌==◌, not, ◌&&◌, Bool, true, false, List, [], ◌∷◌, ◌++◌, length, refl, sym, ap, ◌∙◌, inl, inr, arith, subst, bytes_eq, Option, Some, None, is_some, Bor, slice_index_or, slice_set, slice_range, none-some, same_Some, option_copied, IfSome, cases_Bool, eqb-true, eqb-false, get_or-set_other, get_or-set_same, bytes_eq-Decides, HeaderName, name_text, name_place, known_name, noted_span, AreValues, may_follow, is_named, has_header, header_value, lines_bytes, headers_between, IsBlockBetween, IsPartBetween, is_known, is_there, no_span, value_at, IsSpanOf, ValuePlace, ValueSpan}
use denote.Enum.Declared.{tag_of}
use Rattle.dump_text.specs.contracts.names.HeaderName as enum
use Rattle.dump_text.specs.HeaderLine as line
use Rattle.dump_text.proofs.BoolLemmas.{first_false, second_false}
use Rattle.dump_text.proofs.Unique.{regroup}
use Rattle.dump_text.proofs.BlockLemmas.{has_value, block_bytes, block_size, value_between, rest_between}
use Rattle.dump_text.proofs.NameLemmas.{known_itself, known_text, known_is, text_once, place_once, tag_place}

-- a value is there if its copy is
pub some_copied : (r : Option (Bor (List ℕ))) → is_some r ≡ is_some (option_copied r)
some_copied None = refl
some_copied (Some x) = refl

-- a place has a value if it says so
pub place_has : (dump : List ℕ) (place : ValuePlace) → is_there place ≡ is_some (value_at dump place)
place_has dump place = elim (cases_Bool (is_there place)) [ inl is ↦ rw is refl | inr is ↦ rw is refl ]

-- no value is stored before the first line
pub none_noted : (dump : List ℕ) (count : ℕ) → AreValues dump [] (replicate count no_span)
none_noted dump count name = subst (λ span. IsSpanOf dump span None) (sym (all_none count (name_place name))) none
  where
    none : IsSpanOf dump no_span None
    none = record { stands = refl; ends = refl; rises = omega arith; inside = omega arith }

    all_none : (n i : ℕ) → slice_index_or (replicate n no_span) i no_span ≡ no_span
    all_none zero i = refl
    all_none (suc n) zero = refl
    all_none (suc n) (suc i) = all_none n i

-- a line of another name changes no value
value_other : (name : List ℕ) (hs : List line.Header) (h : line.Header) → is_named name h ≡ false
    → header_value name (hs ++ h ∷ []) ≡ header_value name hs
value_other name [] h other = rw other refl
value_other name (g ∷ hs) h other = elim (cases_Bool (is_named name g)) [
  | inl is ↦ rw is refl
  | inr is ↦ rw is (value_other name hs h other)
]

-- the first line of a name gives its value
value_first : (name : List ℕ) (hs : List line.Header) (h : line.Header) → has_header name hs ≡ false
    → is_named name h ≡ true
    → header_value name (hs ++ h ∷ []) ≡ Some h.value
value_first name [] h none is = rw is refl
value_first name (g ∷ hs) h none is =
    rw (first_false (is_named name g) _ none) (value_first name hs h (second_false (is_named name g) _ none) is)

-- the line of a name and value
abbrev pub line_of : List ℕ → List ℕ → line.Header
line_of name value = record { name = name; value = value }

-- what is stored for a line after other lines
module _ (dump : List ℕ) (headers : List line.Header) (spans : List ValueSpan) (are : AreValues dump headers spans)
    (name : List ℕ) where
  -- a line of no known name may follow, and changes nothing
  pub unknown_follows : known_name name ≡ None → true ≡ may_follow headers name
  unknown_follows none = let no : is_known name ≡ false = known_is name ∙ ap is_some none in rw no refl

  -- a line of a name that isn't known changes no value
  pub unknown_noted : known_name name ≡ None → (value : List ℕ)
      → AreValues dump (headers ++ line_of name value ∷ []) spans
  unknown_noted none value n =
      subst (IsSpanOf dump (noted_span spans n))
      (sym (value_other (name_text n) headers (line_of name value) (false_from_ne_true _ other))) (are n)
    where
      other : bytes_eq name (name_text n) ≡ true → ⊥
      other same = none-some n (sym none ∙ ap known_name ((bytes_eq-Decides name (name_text n)).0 same) ∙ known_itself n)

  -- a line of a known name may follow if the name has no value yet
  pub known_follows : (n : HeaderName) → known_name name ≡ Some n
      → may_follow headers name ≡ not (is_there (noted_span spans n).place)
  known_follows n is =
      let known : is_known name ≡ true = known_is name ∙ ap is_some is in
      let has : has_header name headers ≡ is_there (noted_span spans n).place =
      ap (λ t. has_header t headers) (known_text name n is) ∙ sym (has_value (name_text n) headers)
      ∙ ap is_some (sym (are n).stands) ∙ sym (place_has dump (noted_span spans n).place) in
      ap (λ b. not (b && has_header name headers)) known ∙ ap not has

  -- and then its value is the line's
  pub known_noted : (n : HeaderName) → known_name name ≡ Some n → name_place n < length spans
      → is_there (noted_span spans n).place ≡ false → (span : ValueSpan) (value : List ℕ)
      → IsSpanOf dump span (Some value)
      → AreValues dump (headers ++ line_of name value ∷ []) (slice_set spans (name_place n) span)
  known_noted n is inside free span value stands m = by_place (name_place m == name_place n) refl
    where
      same_name : name ≡ name_text n
      same_name = known_text name n is

      none : has_header (name_text n) headers ≡ false
      none = sym (has_value (name_text n) headers) ∙ ap is_some (sym (are n).stands)
          ∙ sym (place_has dump (noted_span spans n).place) ∙ free

      here : header_value (name_text n) (headers ++ line_of name value ∷ []) ≡ Some value
      here = value_first (name_text n) headers (line_of name value) none
          ((bytes_eq-Decides name (name_text n)).1 same_name)

      by_place : (b : Bool) → (name_place m == name_place n) ≡ b
          → IsSpanOf dump (noted_span (slice_set spans (name_place n) span) m)
          (header_value (name_text m) (headers ++ line_of name value ∷ []))
      by_place true at =
          let one : m ≡ n = place_once m n (eqb-true (name_place m) (name_place n) at) in
          subst (λ k. IsSpanOf dump (noted_span (slice_set spans (name_place n) span) k)
          (header_value (name_text k) (headers ++ line_of name value ∷ []))) (sym one)
          (subst (λ s. IsSpanOf dump s (header_value (name_text n) (headers ++ line_of name value ∷ [])))
          (sym (get_or-set_same spans (name_place n) span no_span inside))
          (subst (IsSpanOf dump span) (sym here) stands))
      by_place false at =
          let apart : name_place m ≢ name_place n = eqb-false (name_place m) (name_place n) at in
          let other : header_value (name_text m) (headers ++ line_of name value ∷ []) ≡ header_value (name_text m) headers =
          value_other (name_text m) headers (line_of name value)
          (false_from_ne_true _ (λ same. apart (ap name_place
          (text_once m n (sym ((bytes_eq-Decides name (name_text m)).0 same) ∙ same_name))))) in
          subst (λ s. IsSpanOf dump s (header_value (name_text m) (headers ++ line_of name value ∷ [])))
          (sym (get_or-set_other spans (name_place n) (name_place m) span no_span apart))
          (subst (IsSpanOf dump (noted_span spans m)) (sym other) (are m))

-- a value is stored at the place of its name
pub span_of_name : (dump : List ℕ) (headers : List line.Header) (spans : List ValueSpan) → AreValues dump headers spans
    → (name : HeaderName)
    → IsSpanOf dump (slice_index_or spans (tag_of enum.the_type name) no_span) (header_value (name_text name) headers)
span_of_name dump headers spans are name =
    subst (λ i. IsSpanOf dump (slice_index_or spans i no_span) (header_value (name_text name) headers))
    (sym (tag_place name)) (are name)

-- a value among the lines of a block is in the block
pub value_lent : (dump : List ℕ) (place after : ℕ) → IsBlockBetween dump place after → (name value : List ℕ)
    → header_value name (headers_between dump place after) ≡ Some value → IsPartBetween dump place after value
value_lent dump place after stands name value is =
    in_lines (headers_between dump place after) (10 ∷ [])
    (subst (IsPartBetween dump place after) (block_bytes dump place after stands) whole) is
  where
    whole : IsPartBetween dump place after (slice_range dump place after)
    whole = (
      place,
      after,
      omega arith,
      (let size = block_size dump place after stands in omega arith),
      omega arith,
      refl,
    )

    in_lines : (hs : List line.Header) (tail : List ℕ) → IsPartBetween dump place after (lines_bytes hs ++ tail)
        → header_value name hs ≡ Some value → IsPartBetween dump place after value
    in_lines [] tail part is = cc
    in_lines (h ∷ hs) tail part is = elim (cases_Bool (is_named name h)) [
      | inl here ↦
          subst (IsPartBetween dump place after) (same_Some h.value value (rw here at is))
          (value_between dump place after _ (line.header_text h) h.name h.value (lines_bytes hs ++ tail) part
          (regroup h hs tail) refl)
      | inr other ↦
          in_lines hs tail (rest_between dump place after _ (line.header_text h) (lines_bytes hs ++ tail) part
          (regroup h hs tail)) (rw other at is)
    ]

-- what holds of a copied value holds of the value
pub if_copied : (r : Option (Bor (List ℕ))) (P : List ℕ → Type 0)
    → ((value : List ℕ) → option_copied r ≡ Some value → P value) → IfSome r (λ x. P x.now)
if_copied None P all = tt
if_copied (Some x) P all = all x.now refl
