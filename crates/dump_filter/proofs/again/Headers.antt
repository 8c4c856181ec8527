-- The header lines that are written for a record, when they are read again.
use Rattle.dump_filter.proofs.Prelude.{◌≡◌, ℕ, ◌+◌, ◌<◌, ◌^◌, ◌==◌, nat_le, Bool, true, false, not, ◌&&◌, ◌||◌, List, [], ◌∷◌, length, refl, sym, ap, ◌∙◌, arith, bytes_eq, is_none, list_all, list_any, eqb-true, bytes_eq-Decides, spelled_number, version_name, uuid_name, revision_name, path_name, copy_revision_name, copy_path_name, property_length_name, text_length_name, content_length_name, known_names, Header, has_header, count_named, with_header_value, is_block, spelled_spells, header_number, header_length, property_length, text_length, is_one_alone, has_bad_kind, has_bad_version, has_bad_number, has_bad_lengths, is_lawful, deciding, keeps, with_length, with_lengths, equals_itself, first_true, second_true, first_false, second_false, false_from_ne_true, absurd_bool}
use Rattle.dump_filter.proofs.again.LineChanges.{IsChange, same_has, both_changes, put_has, put_change, length_change, block_names, IsTold, told_later, told_put, told_length, told_reads, told_put_again, told_length_again}

-- a known name occurs at most once in a block
pub known_once : (name : List ℕ) → list_any (bytes_eq name) known_names ≡ true → (headers : List Header)
    → is_block headers ≡ true → nat_le (count_named name headers) 1 ≡ true
known_once name known headers block = among known_names known (block_names headers block)
  where
    test : List ℕ → Bool
    test n = nat_le (count_named n headers) 1

    among : (names : List (List ℕ)) → list_any (bytes_eq name) names ≡ true → list_all test names ≡ true
        → test name ≡ true
    among [] known all = cc
    among (n ∷ names) known all = by_name (among names) (bytes_eq name n) refl
      where
        by_name : (list_any (bytes_eq name) names ≡ true → list_all test names ≡ true → test name ≡ true) → (b : Bool)
            → bytes_eq name n ≡ b → test name ≡ true
        by_name more true is = ap test ((bytes_eq-Decides name n).0 is) ∙ first_true (test n) (list_all test names) all
        by_name more false is = more (sym (ap (λ b. b || list_any (bytes_eq name) names) is) ∙ known)
            (second_true (test n) (list_all test names) all)

-- whether the name is that of a length
abbrev pub is_length_name : List ℕ → Bool
is_length_name name =
    (bytes_eq property_length_name name || bytes_eq text_length_name name) || bytes_eq content_length_name name

-- the lines have the lengths of this content
pub record AreTold (props text : List ℕ) (headers : List Header) : Type 0 where
  pub props_told : IsTold property_length_name (length props) headers
  pub text_told : IsTold text_length_name (length text) headers
  pub content_told : IsTold content_length_name (length props + length text) headers

module _ (props text : List ℕ) (headers : List Header) (small : length props + length text < 10 ^ 18) where
  one : List Header
  one = with_length property_length_name (length props) headers

  two : List Header
  two = with_header_value text_length_name (spelled_number (length text)) one

  props_change : IsChange (λ name. bytes_eq property_length_name name) headers one
  unfolding one
  props_change = length_change property_length_name (length props) headers (omega (arith, small))
      (λ no_lf. rw no_lf refl)

  text_change : IsChange (λ name. bytes_eq text_length_name name) one two
  unfolding two
  text_change = put_change text_length_name (spelled_number (length text)) one
      (spelled_spells (length text) (omega (arith, small))).one_line

  content_change : IsChange (λ name. bytes_eq content_length_name name) two (with_lengths props text headers)
  unfolding one two
  content_change = length_change content_length_name (length props + length text) two small (λ no_lf. rw no_lf refl)

  -- new lengths change only lines of lengths
  pub lengths_change : IsChange is_length_name headers (with_lengths props text headers)
  lengths_change =
      both_changes (λ name. bytes_eq property_length_name name || bytes_eq text_length_name name) headers two
      (with_lengths props text headers) (λ name. bytes_eq content_length_name name)
      (both_changes (λ name. bytes_eq property_length_name name) headers one two
      (λ name. bytes_eq text_length_name name) props_change text_change)
      content_change

  text_there : has_header text_length_name one ≡ has_header text_length_name headers
  text_there = same_has (λ name. bytes_eq property_length_name name) headers one props_change text_length_name refl

  -- a text length is neither added nor removed
  pub text_stays : has_header text_length_name (with_lengths props text headers) ≡ has_header text_length_name headers
  unfolding two
  text_stays =
      same_has (λ name. bytes_eq content_length_name name) two
      (with_lengths props text headers) content_change text_length_name refl
      ∙ put_has text_length_name text_length_name (spelled_number (length text)) one ∙ text_there

  -- no line is added for properties if there are none
  pub props_stay : length props ≡ 0 → has_header property_length_name headers ≡ false → has_header property_length_name
      (with_lengths props text headers) ≡ false
  unfolding one two
  props_stay empty none =
      same_has (λ name. bytes_eq content_length_name name) two
      (with_lengths props text headers) content_change property_length_name refl
      ∙ same_has (λ name. bytes_eq text_length_name name) one two text_change property_length_name refl
      ∙ rw (none, empty) none

  -- if there is no text without a text length, the new lengths give the content
  pub lengths_told : (has_header text_length_name headers ≡ false → length text ≡ 0)
      → AreTold props text (with_lengths props text headers)
  unfolding one two
  lengths_told missing = record {
    props_told = told_later property_length_name (length props) (λ name. bytes_eq content_length_name name) two
        (with_lengths props text headers) content_change refl
        (told_later property_length_name (length props)
        (λ name. bytes_eq text_length_name name) one two text_change refl
        (told_length property_length_name (length props) headers));
    text_told = told_later text_length_name (length text) (λ name. bytes_eq content_length_name name) two
        (with_lengths props text headers) content_change refl
        (told_put text_length_name (length text) one (λ none. missing (sym text_there ∙ none)));
    content_told = told_length content_length_name (length props + length text) two;
  }

-- the lengths that the lines have are those of the content
pub told_lengths : (props text : List ℕ) (headers : List Header) → length props + length text < 10 ^ 18
    → AreTold props text headers
    → (length props ≡ property_length headers) × (length text ≡ text_length headers)
told_lengths props text headers small told =
    let p = told_reads property_length_name (length props) headers (omega (arith, small)) told.props_told in
    let t = told_reads text_length_name (length text) headers (omega (arith, small)) told.text_told in
    (sym p.0, sym t.0)

-- and they are written unchanged
pub lengths_again : (props text : List ℕ) (headers : List Header) → is_block headers ≡ true → AreTold props text headers
    → with_lengths props text headers ≡ headers
lengths_again props text headers block told =
    ap (λ (l : List Header). with_length content_length_name (length props + length text)
    (with_header_value text_length_name (spelled_number (length text)) l))
    (told_length_again property_length_name (length props) headers
    (known_once property_length_name refl headers block) told.props_told)
    ∙ ap (λ (l : List Header). with_length content_length_name (length props + length text) l)
    (told_put_again text_length_name (length text) headers
    (known_once text_length_name refl headers block) told.text_told)
    ∙ told_length_again content_length_name (length props + length text) headers
    (known_once content_length_name refl headers block) told.content_told

-- a revision or node isn't a version or UUID record
pub no_others : (headers : List Header) → has_bad_kind headers ≡ false
    → (has_header revision_name headers || has_header path_name headers) ≡ true
    → (has_header version_name headers ≡ false) × (has_header uuid_name headers ≡ false)
no_others headers good either = cases (has_header revision_name headers) refl
  where
    cases : (b : Bool) → has_header revision_name headers ≡ b
        → (has_header version_name headers ≡ false) × (has_header uuid_name headers ≡ false)
    cases true is = let one = (deciding headers good).revision is in (one.0, one.1)
    cases false is =
        let node = sym (ap (λ b. b || has_header path_name headers) is) ∙ either in
        let one = (deciding headers good).node node in
        (one.0, one.1)

-- what new lines have in common with old ones, so that they break no rule either
pub record StaysLawful (old new : List Header) : Type 0 where
  pub version : has_header version_name new ≡ has_header version_name old
  pub uuid : has_header uuid_name new ≡ has_header uuid_name old
  pub revision : has_header revision_name new ≡ has_header revision_name old
  pub node : has_header path_name new ≡ has_header path_name old
  pub text : has_header text_length_name new ≡ has_header text_length_name old
  pub copies : (has_header path_name new && is_one_alone (has_header copy_revision_name new)
      (has_header copy_path_name new)) ≡ false
  pub revision_number : (has_header revision_name new && is_none (header_number revision_name new)) ≡ false
  pub copy_number : (has_header copy_revision_name new && is_none (header_number copy_revision_name new)) ≡ false

-- a revision or node with new lines
module _ (number : ℕ) (old new : List Header) (lawful : is_lawful number old ≡ true)
    (either : (has_header revision_name old || has_header path_name old) ≡ true) (stays : StaysLawful old new) where
  good_kind : has_bad_kind old ≡ false
  good_kind = false_from_ne_true (has_bad_kind old) (keeps number old lawful).kind

  none_else : (has_header version_name old ≡ false) × (has_header uuid_name old ≡ false)
  none_else = no_others old good_kind either

  new_kind : has_bad_kind new ≡ false
  new_kind =
      rw (stays.copies, stays.version, stays.uuid, stays.revision, stays.node)
      (last (first_false _ _ good_kind))
    where
      last : {b : Bool} → b ≡ false → (b || false) ≡ false
      last is = rw is refl

  new_version : (m : ℕ) → (m ≡ 0 → has_header version_name old ≡ true) → has_bad_version m new ≡ false
  new_version m first = rw (stays.version, none_else.0) (by_zero (m == 0) refl)
    where
      by_zero : (b : Bool) → (m == 0) ≡ b → ((m == 0) && true || false) ≡ false
      by_zero true is = absurd (absurd_bool (has_header version_name old) (first (eqb-true m 0 is)) none_else.0)
      by_zero false is = rw is refl

  module _ (props text : List ℕ) (small : length props + length text < 10 ^ 18) (told : AreTold props text new) where
    read_props : (header_length property_length_name new ≡ length props)
        × ((has_header property_length_name new && is_none (header_number property_length_name new)) ≡ false)
    read_props = told_reads property_length_name (length props) new (omega (arith, small)) told.props_told

    read_text : (header_length text_length_name new ≡ length text)
        × ((has_header text_length_name new && is_none (header_number text_length_name new)) ≡ false)
    read_text = told_reads text_length_name (length text) new (omega (arith, small)) told.text_told

    read_content : (header_length content_length_name new ≡ length props + length text)
        × ((has_header content_length_name new && is_none (header_number content_length_name new)) ≡ false)
    read_content = told_reads content_length_name (length props + length text) new small told.content_told

    new_number : has_bad_number new ≡ false
    new_number = rw (stays.revision_number, stays.copy_number, read_props.1, read_text.1, read_content.1) refl

    new_lengths : has_bad_lengths new ≡ false
    new_lengths =
        rw (
          read_content.0,
          read_props.0,
          read_text.0,
          stays.version,
          stays.uuid,
          stays.revision,
          stays.text,
          none_else.0,
          none_else.1,
        )
        (sum (has_header content_length_name new) (length props + length text)
        (second_false _ _ (false_from_ne_true (has_bad_lengths old) (keeps number old lawful).lengths)))
      where
        sum : {b : Bool} (c : Bool) (n : ℕ) → b ≡ false → ((c && not (n == n)) || false || b) ≡ false
        sum true n is = rw (is, equals_itself n) refl
        sum false n is = rw is refl

    -- new lines that have their lengths break no rule in any place, except that a version record has to be first
    pub lawful_again : (m : ℕ) → (m ≡ 0 → has_header version_name old ≡ true) → is_lawful m new ≡ true
    lawful_again m first = rw (new_kind, new_version m first, new_number, new_lengths) refl
