-- The range that a text is read as is the one that it spells.
use Rattle.dump_rules.proofs.Prelude.{◌≡◌, ◌⊎◌, ℕ, ◌+◌, ◌-◌, ◌≤◌, Bool, true, false, not, ◌&&◌, ◌==◌, List, [], ◌∷◌, ◌++◌, take, drop, length, nat_le, refl, sym, ap, subst, ◌∙◌, inl, inr, arith, Some, None, Option, append-nil, append_assoc, length-append, length-drop, take-length, range_parts, bytes_eq, position, list_all, slice_split, is_ascii_digit, nat_tests, and_parts, take-append-drop, take_at, drop_at, slice_split_at, slice_split_none, bytes_eq-Decides, both_ways, cases_Bool, false_from_ne_true, leb-true, le-leb, le-ltb, lt-ltb, not-not, at_place, no_place, none_all, nowhere, position_at, is_number, number_of, has_byte, has_byte-append, has_at, back_lacks, Range, star, IsSingle, IsSpan, IsRangeText, ends_in_star, without_star, both, ends_at, ends_of, range_between, range_of}
use Rattle.dump_text.proofs.BoolLemmas.{equals_itself as same}

-- digits

not_digit : (b c : ℕ) → is_ascii_digit b ≡ false → is_ascii_digit c ≡ true → (c == b) ≡ false
not_digit b c other digit = grind (arith, nat_tests)

digits_lack : (b : ℕ) (text : List ℕ) → is_ascii_digit b ≡ false → list_all is_ascii_digit text ≡ true
    → has_byte b text ≡ false
digits_lack b [] other all = refl
digits_lack b (c ∷ text) other all =
    let parts = and_parts _ _ all in
    rw (not_digit b c other parts.0) (digits_lack b text other parts.1)

-- a text that is read as a number passes the test for numbers
pub number_parts : (text : List ℕ) (n : ℕ) → number_of text ≡ Some n → is_number text ≡ true
number_parts text n is = elim (cases_Bool (is_number text)) [
  | inl e ↦ e
  | inr e ↦ let bad : None ≡ Some n = rw e at is in cc
]

-- a text that is read as a number has no byte except digits
pub number_lacks : (b : ℕ) (text : List ℕ) (n : ℕ) → is_ascii_digit b ≡ false → number_of text ≡ Some n
    → has_byte b text ≡ false
number_lacks b text n other is =
    let parts = and_parts _ _ (number_parts text n is) in digits_lack b text other parts.1

-- the byte at the end

ends_is : (b : ℕ) (body : List ℕ) → drop (length (body ++ b ∷ []) - 1) (body ++ b ∷ []) ≡ b ∷ []
ends_is b body =
    let size = length-append body (b ∷ []) in
    drop_at body (b ∷ []) (length (body ++ b ∷ []) - 1) (omega arith)

-- a text without the byte at its end is what is before that byte
pub front_is : (b : ℕ) (body : List ℕ) → take (length (body ++ b ∷ []) - 1) (body ++ b ∷ []) ≡ body
front_is b body =
    let size = length-append body (b ∷ []) in
    take_at body (b ∷ []) (length (body ++ b ∷ []) - 1) (omega arith)

drop_lacks : (b k : ℕ) (text : List ℕ) → has_byte b text ≡ false → has_byte b (drop k text) ≡ false
drop_lacks b k text none = back_lacks b (take k text) (drop k text) (ap (has_byte b) (take-append-drop k text) ∙ none)

-- a text without the byte doesn't end in it
pub no_end : (b : ℕ) (text : List ℕ) → has_byte b text ≡ false → bytes_eq (drop (length text - 1) text) (b ∷ []) ≡ false
no_end b text none = false_from_ne_true _ (λ e.
    let same = (bytes_eq-Decides (drop (length text - 1) text) (b ∷ [])).0 e in
    both_ways _ (drop_lacks b (length text - 1) text none) (ap (has_byte b) same ∙ has_at b [] []))

-- a text followed by the byte ends in it
pub ends_so : (b : ℕ) (body : List ℕ) → bytes_eq (drop (length (body ++ b ∷ []) - 1) (body ++ b ∷ [])) (b ∷ []) ≡ true
ends_so b body = (bytes_eq-Decides (drop (length (body ++ b ∷ []) - 1) (body ++ b ∷ [])) (b ∷ [])).1 (ends_is b body)

-- a text that ends in the byte is the rest of it, followed by the byte
pub ends_parts : (b : ℕ) (text : List ℕ) → bytes_eq (drop (length text - 1) text) (b ∷ []) ≡ true
    → text ≡ take (length text - 1) text ++ b ∷ []
ends_parts b text e =
    sym (take-append-drop (length text - 1) text)
    ∙ ap (λ t. take (length text - 1) text ++ t) ((bytes_eq-Decides (drop (length text - 1) text) (b ∷ [])).0 e)

-- stars

star_is : (body : List ℕ) (kind : Bool) → has_byte 42 body ≡ false → ends_in_star (body ++ star kind) ≡ not kind
star_is body true none = rw (append-nil body) (no_end 42 body none)
star_is body false none = ends_so 42 body

star_cut : (body : List ℕ) (kind : Bool) → has_byte 42 body ≡ false → without_star (body ++ star kind) ≡ body
star_cut body true none = rw (append-nil body, no_end 42 body none) refl
star_cut body false none = rw (ends_so 42 body) (front_is 42 body)

star_parts : (text : List ℕ) → text ≡ without_star text ++ star (not (ends_in_star text))
star_parts text = elim (cases_Bool (ends_in_star text)) [
  | inl e ↦ rw e (ends_parts 42 text e)
  | inr e ↦ rw e (sym (append-nil text))
]

-- dashes

position_none : (b : ℕ) (text : List ℕ) → has_byte b text ≡ false → position (λ c. c == b) text ≡ None
position_none b text none =
    rw (nowhere b text none, le-ltb (length text) (length text) (omega arith)) refl

position_some : (b : ℕ) (front rest : List ℕ) → has_byte b front ≡ false
    → position (λ c. c == b) (front ++ b ∷ rest) ≡ Some (length front)
position_some b front rest none =
    let size = length-append front (b ∷ rest) in
    rw (position_at b front rest none, lt-ltb (length front) (length (front ++ b ∷ rest)) (omega arith)) refl

-- a text is cut at its first such byte
pub position_split : (b k : ℕ) (text : List ℕ) → position (λ c. c == b) text ≡ Some k
    → slice_split (λ c. c == b) text ≡ take k text ∷ slice_split (λ c. c == b) (drop (k + 1) text)
position_split b k text is =
    let at = at_place b text k (sym is) in
    ap (slice_split (λ c. c == b)) at.cut
    ∙ slice_split_at (λ c. c == b) (take k text) b (drop (k + 1) text) (none_all b (take k text) at.before) (same b)

-- and isn't cut if it has no such byte
pub position_whole : (b : ℕ) (text : List ℕ) → position (λ c. c == b) text ≡ None
    → slice_split (λ c. c == b) text ≡ text ∷ []
position_whole b text is = slice_split_none (λ c. c == b) text (none_all b text (no_place b text (sym is)))

-- the parts of a list are the text before its first comma, and then the parts after it
pub cut_first : (k : ℕ) (list : List ℕ) → position (λ b. b == 44) list ≡ Some k
    → range_parts list ≡ take k list ∷ range_parts (take (length list - (k + 1)) (drop (k + 1) list))
cut_first k list is =
    let size = length-drop (k + 1) list in
    let whole = ap (λ n. take n (drop (k + 1) list)) (sym size) ∙ take-length (drop (k + 1) list) in
    position_split 44 k list is ∙ ap (λ (t : List ℕ). take k list ∷ range_parts t) (sym whole)

ends_single : (text : List ℕ) (n : ℕ) → number_of text ≡ Some n → ends_of text ≡ Some (n, n)
ends_single text n is =
    let none = position_none 45 text (number_lacks 45 text n refl is) in
    rw none (rw is refl)

ends_span : (from_text to_text : List ℕ) (from to : ℕ) → number_of from_text ≡ Some from → number_of to_text ≡ Some to
    → ends_of (from_text ++ 45 ∷ to_text) ≡ Some (from, to)
ends_span from_text to_text from to is_from is_to =
    let found = position_some 45 from_text to_text (number_lacks 45 from_text from refl is_from) in
    let first = take_at from_text (45 ∷ to_text) (length from_text) refl in
    let whole : drop (length from_text + 1) (from_text ++ 45 ∷ to_text) ≡ to_text =
    ap (λ t. drop (length from_text + 1) t) (sym (append_assoc from_text (45 ∷ []) to_text))
    ∙ drop_at (from_text ++ 45 ∷ []) to_text (length from_text + 1) (length-append from_text (45 ∷ [])) in
    ap (λ p. ends_at p (from_text ++ 45 ∷ to_text)) found
    ∙ rw (first, whole) (rw (is_from, is_to) refl)

-- ranges

between : (from to : ℕ) (kind : Bool) → 1 ≤ from → from ≤ to → range_between (Some (from, to)) kind ≡ Some
    (record { from = from; to = to; inheritable = kind })
between from to kind low order =
    rw (le-leb 1 from low, le-leb from to order) refl

-- what a text spells is read
spelled : (body : List ℕ) (r : Range) → has_byte 42 body ≡ false → ends_of body ≡ Some (r.from, r.to) → 1 ≤ r.from
    → r.from ≤ r.to
    → range_of (body ++ star r.inheritable) ≡ Some r
spelled body r none ends low order =
    rw (star_cut body r.inheritable none, star_is body r.inheritable none, not-not r.inheritable, ends)
    (between r.from r.to r.inheritable low order)

-- a text that is a range is read as that range
pub range_of_text : (text : List ℕ) (r : Range) → IsRangeText text r → range_of text ≡ Some r
range_of_text text r is = elim is.spelled [
  | inl single ↦
      let ends = ends_single single.0 r.from single.1 ∙ ap (λ (n : ℕ). Some (r.from, n)) (sym single.2) in
      ap range_of single.3 ∙ spelled single.0 r (number_lacks 42 single.0 r.from refl single.1) ends is.low is.order
  | inr span ↦
      let ends = ends_span span.0 span.1 r.from r.to span.2 span.3 in
      let none = has_byte-append 42 span.0 (45 ∷ span.1) (number_lacks 42 span.0 r.from refl span.2)
      (number_lacks 42 span.1 r.to refl span.3) in
      let whole : text ≡ (span.0 ++ 45 ∷ span.1) ++ star r.inheritable =
      span.4 ∙ ap (λ t. t ++ star r.inheritable) (append_assoc span.0 (45 ∷ []) span.1) in
      ap range_of whole ∙ spelled (span.0 ++ 45 ∷ span.1) r none ends is.low is.order
]

-- what is read is spelled

both_parts : (a b : Option ℕ) (from to : ℕ) → both a b ≡ Some (from, to) → (a ≡ Some from) × (b ≡ Some to)
both_parts None b from to is = let bad : Path (Option (ℕ × ℕ)) None (Some (from, to)) = is in cc
both_parts (Some a) None from to is = let bad : Path (Option (ℕ × ℕ)) None (Some (from, to)) = is in cc
both_parts (Some a) (Some b) from to is =
    let pair : Some (a, b) ≡ Some (from, to) = is in
    let e : (a, b) ≡ (from, to) = cc in
    (ap (λ (p : ℕ × ℕ). Some p.0) e, ap (λ (p : ℕ × ℕ). Some p.1) e)

between_parts : (ends : Option (ℕ × ℕ)) (kind : Bool) (r : Range) → range_between ends kind ≡ Some r
    → (ends ≡ Some (r.from, r.to)) × (kind ≡ r.inheritable) × (1 ≤ r.from) × (r.from ≤ r.to)
between_parts None kind r is = let bad : None ≡ Some r = is in cc
between_parts (Some (from, to)) kind r is = go (nat_le 1 from && nat_le from to) refl
  where
    go : (t : Bool) → (nat_le 1 from && nat_le from to) ≡ t
        → Path (Option (ℕ × ℕ)) (Some (from, to)) (Some (r.from, r.to)) × (kind ≡ r.inheritable) × (1 ≤ r.from)
        × (r.from ≤ r.to)
    go false e = let bad : None ≡ Some r = rw e at is in cc
    go true e =
        let parts = and_parts (nat_le 1 from) (nat_le from to) e in
        let low = leb-true 1 from parts.0 in
        let order = leb-true from to parts.1 in
        let made : Some (record { from = from; to = to; inheritable = kind }) ≡ Some r = rw e at is in
        let one : Path Range (record { from = from; to = to; inheritable = kind }) r = cc in
        let f = ap (λ (x : Range). x.from) one in
        let t = ap (λ (x : Range). x.to) one in
        (ap (λ (x : Range). Some (x.from, x.to)) one, ap (λ (x : Range). x.inheritable) one, omega arith, omega arith)

ends_parts_of : (body : List ℕ) (r : Range) → ends_of body ≡ Some (r.from, r.to)
    → IsSingle (body ++ star r.inheritable) r ⊎ IsSpan (body ++ star r.inheritable) r
ends_parts_of body r is = go (position (λ b. b == 45) body) refl is
  where
    go : (p : Option ℕ) → position (λ b. b == 45) body ≡ p → ends_at p body ≡ Some (r.from, r.to)
        → IsSingle (body ++ star r.inheritable) r ⊎ IsSpan (body ++ star r.inheritable) r
    go None e is =
        let parts = both_parts (number_of body) (number_of body) r.from r.to is in
        let twice : Some r.from ≡ Some r.to = sym parts.0 ∙ parts.1 in
        let one : r.to ≡ r.from = cc in
        inl (body, parts.0, one, refl)
    go (Some k) e is =
        let parts = both_parts (number_of (take k body)) (number_of (drop (k + 1) body)) r.from r.to is in
        let cut = (at_place 45 body k (sym e)).cut in
        inr (
          take k body,
          drop (k + 1) body,
          parts.0,
          parts.1,
          ap (λ t. t ++ star r.inheritable) (cut ∙ sym (append_assoc (take k body) (45 ∷ []) (drop (k + 1) body))),
        )

-- a text that is read as a range is that range
pub text_of_range : (text : List ℕ) (r : Range) → range_of text ≡ Some r → IsRangeText text r
text_of_range text r is =
    let parts = between_parts (ends_of (without_star text)) (not (ends_in_star text)) r is in
    let whole : text ≡ without_star text ++ star r.inheritable =
    star_parts text ∙ ap (λ k. without_star text ++ star k) parts.1 in
    record {
      low = parts.2;
      order = parts.3;
      spelled = subst (λ (t : List ℕ). IsSingle t r ⊎ IsSpan t r) (sym whole)
          (ends_parts_of (without_star text) r parts.0);
    }
