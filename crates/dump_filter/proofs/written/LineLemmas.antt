-- The new lines of a block, line by line.
use Rattle.dump_filter.proofs.Prelude.{◌≡◌, ℕ, ◌==◌, Bool, true, false, ◌||◌, List, [], ◌∷◌, ◌++◌, map, filter, refl, sym, ap, ◌∙◌, Option, Some, None, bytes_eq, if◌then◌else◌, or-false, map-append, map-id, map-map, list_any-append, spelled_number, revision_name, copy_revision_name, property_length_name, text_length_name, content_length_name, Header, is_named, has_header, with_header_value, CopyChange, Same, Renumbered, Dropped, Changes, with_length, with_lengths, copied_headers, copy_number, is_copy_line, lines_that_stay, numbered, with_number, renewed, renewed_lines, added, new_headers, AreLengths, put_all}
use Rattle.std.proofs.lemmas.List.{append-nil}
use Rattle.dump_filter.proofs.again.LineChanges.{of_name, of_length, put_has, put_absent, same_has, go_change}

-- the line, with this number if the line has this name and there is a number
abbrev put : List ℕ → Option ℕ → Header → Header
put name o h = if is_named name h then with_number h o else h

put_all-map : (name : List ℕ) (o : Option ℕ) (headers : List Header)
    → put_all name o headers ≡ map (put name o) headers
put_all-map name None headers = sym (map-id headers) ∙ (λ i. map (λ h. same (is_named name h) h i) headers)
  where
    same : (b : Bool) (h : Header) → h ≡ (if b then h else h)
    same true h = refl
    same false h = refl
put_all-map name (Some n) headers = λ i. map (λ h. one h i) headers
  where
    one : (h : Header) → (if is_named name h then numbered name n else h) ≡ put name (Some n) h
    one h = of_name name h (λ h. (if is_named name h then numbered name n else h) ≡ put name (Some n) h)
        (λ is. refl) (λ is. rw is refl)

-- one more number in lines that are seen one by one
more : (name : List ℕ) (o : Option ℕ) (f : Header → Header) (lines headers : List Header) → lines ≡ map f headers
    → put_all name o lines ≡ map (λ h. put name o (f h)) headers
more name o f lines headers is =
    ap (put_all name o) is ∙ put_all-map name o (map f headers) ∙ map-map (put name o) f headers

-- the line with its lengths, and with all its numbers, put one after another
abbrev put_lengths : Changes → Header → Header
put_lengths c h =
    put content_length_name (Some c.content)
    (put text_length_name (Some c.text) (put property_length_name (Some c.props) h))

abbrev put_each : Changes → Header → Header
put_each c h = put_lengths c (put revision_name c.revision (put copy_revision_name (copy_number c.copy) h))

each : (c : Changes) (h : Header) → put_each c h ≡ renewed c h
each c h =
    let P : Header → Type 0 = λ h. put_each c h ≡ renewed c h in
    of_name revision_name h P (λ is. on_revision c.revision) (λ r.
    of_name copy_revision_name h P (λ is. on_copy (copy_number c.copy)) (λ k.
    of_name property_length_name h P (λ is. refl) (λ p.
    of_name text_length_name h P (λ is. refl) (λ t.
    of_name content_length_name h P (λ is. refl) (λ l. rw k (rw r (rw p (rw t (rw l refl)))))))))
  where
    on_revision : (o : Option ℕ) → let line : Header = record { name = revision_name; value = h.value } in
        put_lengths c (with_number line o) ≡ with_number line o
    on_revision None = refl
    on_revision (Some n) = refl

    on_copy : (o : Option ℕ) → let line : Header = record { name = copy_revision_name; value = h.value } in
        put_lengths c (put revision_name c.revision (with_number line o)) ≡ with_number line o
    on_copy None = refl
    on_copy (Some n) = refl

-- a copy that remains one loses no line
all_stay : (headers : List Header) → filter (λ h. true) headers ≡ headers
all_stay [] = refl
all_stay (h ∷ headers) = ap (λ (t : List Header). h ∷ t) (all_stay headers)

copied : (copy : CopyChange) (headers : List Header)
    → copied_headers copy headers ≡ put_all copy_revision_name (copy_number copy) (lines_that_stay copy headers)
copied Same headers = sym (all_stay headers)
copied (Renumbered n) headers =
    ap (with_header_value copy_revision_name (spelled_number n)) (sym (all_stay headers))
copied Dropped headers = refl

copied_has : (name : List ℕ) → is_copy_line name ≡ false → (copy : CopyChange) (headers : List Header)
    → has_header name (copied_headers copy headers) ≡ has_header name headers
copied_has name free Same headers = refl
copied_has name free (Renumbered n) headers = put_has name copy_revision_name (spelled_number n) headers
copied_has name free Dropped headers = same_has is_copy_line headers _ (go_change headers) name free

put_all_has : (other name : List ℕ) (o : Option ℕ) (headers : List Header)
    → has_header other (put_all name o headers) ≡ has_header other headers
put_all_has other name None headers = refl
put_all_has other name (Some n) headers = put_has other name (spelled_number n) headers

-- the line of a length, at its old place or at the end
length_is : (name : List ℕ) (n : ℕ) (headers : List Header)
    → with_length name n headers ≡ with_header_value name (spelled_number n) headers ++ added name n headers
length_is name n headers = of_length name n headers
    (λ new. new ≡ with_header_value name (spelled_number n) headers ++ added name n headers)
    (λ is. rw is (sym (append-nil _)))
    (λ is zero. rw (is, zero) (sym (append-nil _ ∙ put_absent name (spelled_number n) headers is)))
    (λ is some. rw (is, some) (ap (λ (t : List Header). t ++ numbered name n ∷ [])
    (sym (put_absent name (spelled_number n) headers is))))

-- an added line has no other name
added_lacks : (other name : List ℕ) (n : ℕ) (headers : List Header) → bytes_eq name other ≡ false
    → has_header other (added name n headers) ≡ false
added_lacks other name n headers differ = cases (has_header name headers) (n == 0)
  where
    cases : (b z : Bool) → has_header other (if b then [] else if z then [] else numbered name n ∷ []) ≡ false
    cases true z = refl
    cases false true = refl
    cases false false = rw differ refl

added_same : (name : List ℕ) (n : ℕ) (old new : List Header) → has_header name new ≡ has_header name old
    → added name n new ≡ added name n old
added_same name n old new same = ap (λ b. if b then [] else if n == 0 then [] else numbered name n ∷ []) same

module _ (c : Changes) (headers : List Header) where
  -- the lines with their numbers, then with the length of the properties, and of the text; and the line that is added
  abbrev base : List Header
  base = put_all revision_name c.revision (copied_headers c.copy headers)

  abbrev props : List Header
  props = with_header_value property_length_name (spelled_number c.props) base

  abbrev text : List Header
  text = with_header_value text_length_name (spelled_number c.text) props

  abbrev missing : List Header
  missing = added property_length_name c.props headers

  base_has : (name : List ℕ) → is_copy_line name ≡ false → has_header name base ≡ has_header name headers
  base_has name free = put_all_has name revision_name c.revision _ ∙ copied_has name free c.copy headers

  put_missing : (name : List ℕ) (n : ℕ) (lines : List Header) → bytes_eq property_length_name name ≡ false
      → with_header_value name (spelled_number n) (lines ++ missing)
      ≡ with_header_value name (spelled_number n) lines ++ missing
  put_missing name n lines differ =
      map-append _ lines missing ∙ ap (λ (t : List Header). with_header_value name (spelled_number n) lines ++ t)
      (put_absent name (spelled_number n) missing (added_lacks name property_length_name c.props headers differ))

  with_text : with_header_value text_length_name (spelled_number c.text) (with_length property_length_name c.props base)
      ≡ text ++ missing
  with_text = ap (with_header_value text_length_name (spelled_number c.text))
      (length_is property_length_name c.props base
      ∙ ap (λ (t : List Header). props ++ t) (added_same property_length_name c.props headers base
      (base_has property_length_name refl)))
      ∙ put_missing text_length_name c.text props refl

  content_has : has_header content_length_name (text ++ missing) ≡ has_header content_length_name headers
  content_has =
      list_any-append (is_named content_length_name) text missing
      ∙ ap (λ b. has_header content_length_name text || b)
      (added_lacks content_length_name property_length_name c.props headers refl)
      ∙ or-false _ ∙ put_has content_length_name text_length_name (spelled_number c.text) props
      ∙ put_has content_length_name property_length_name (spelled_number c.props) base
      ∙ base_has content_length_name refl

  all_put : with_header_value content_length_name (spelled_number c.content) text ≡ renewed_lines c headers
  all_put =
      more content_length_name (Some c.content) _ _ _ (more text_length_name (Some c.text) _ _ _
      (more property_length_name (Some c.props) _ _ _ (more revision_name c.revision _ _ _
      (copied c.copy headers ∙ put_all-map copy_revision_name (copy_number c.copy) _))))
      ∙ (λ i. map (λ h. each c h i) (lines_that_stay c.copy headers))

  -- the lines that are written, one by one
  pub lines_are : new_headers c headers ≡ (renewed_lines c headers ++ added property_length_name c.props headers)
      ++ added content_length_name c.content headers
  lines_are =
      ap (with_length content_length_name c.content) with_text
      ∙ length_is content_length_name c.content (text ++ missing)
      ∙ (λ i. (put_missing content_length_name c.content text refl
      ∙ ap (λ (t : List Header). t ++ missing) all_put) i ++ added_same content_length_name c.content headers (text ++ missing) content_has i)

  -- the lines that are written, with the lengths of what follows them
  pub lengths_are : (ps bytes : List ℕ) → AreLengths ps bytes c → new_headers c headers
      ≡ with_lengths ps bytes (put_all revision_name c.revision (copied_headers c.copy headers))
  lengths_are ps bytes lengths = λ i. with_length content_length_name (lengths.content_is i)
      (with_header_value text_length_name (spelled_number (lengths.text_is i))
      (with_length property_length_name (lengths.props_is i) base))
