-- What is written for a record is a record again.
use Rattle.dump_filter.proofs.Prelude.{◌≡◌, ℕ, ◌+◌, ◌<◌, ◌^◌, ◌==◌, Bool, true, false, not, ◌&&◌, ◌||◌, List, [], ◌++◌, length, refl, sym, ap, ◌∙◌, subst, arith, inl, Some, is_none, bytes_eq, length-append, flat_map, MatchBool, if◌then◌else◌, and-false, eqb-true, bytes_eq-Decides, spelled_number, version_name, uuid_name, revision_name, path_name, copy_revision_name, copy_path_name, property_length_name, text_length_name, content_length_name, Header, has_header, header_value, with_header_value, is_block, block_text, Property, IsPropertyBlock, has_deletes, block_end, entry_text, property_block_text, short_block, header_number, version_from, property_length, text_length, has_bad_kind, has_bad_version, has_bad_number, has_bad_lengths, DumpRecord, is_lawful, BeginsWithRecord, deciding, Keeps, keeps, takes_deletes, HasPropertyList, new_block, with_lengths, without_copy_headers, is_copy_line, whole_text, first_false, second_false, false_from_ne_true, absurd_bool}
use Rattle.dump_filter.proofs.written.HeaderLemmas.{no_length}
use Rattle.dump_filter.proofs.again.LineChanges.{IsChange, spelled_line, same_has, block_stays, both_changes, put_has, put_change, go_change, gone, IsTold, told_put, told_reads}
use Rattle.dump_filter.proofs.again.Headers.{is_length_name, AreTold, lengths_change, text_stays, props_stay, lengths_told, told_lengths, lengths_again, no_others, StaysLawful, lawful_again}

-- version and UUID records

-- lines that break no rule in one place of a dump break none in another one, except that a version record has to be
-- first
pub any_number : (number m : ℕ) (headers : List Header) → is_lawful number headers ≡ true
    → (m ≡ 0 → has_header version_name headers ≡ true) → is_lawful m headers ≡ true
any_number number m headers lawful first =
    rw (
      false_from_ne_true (has_bad_kind headers) k.kind,
      version,
      false_from_ne_true (has_bad_number headers) k.number_ok,
      false_from_ne_true
          (has_bad_lengths headers) k.lengths,
    ) refl
  where
    k : Keeps number headers
    k = keeps number headers lawful

    by_zero : (b : Bool) → (m == 0) ≡ b → ((m == 0) && not (has_header version_name headers)) ≡ false
    by_zero true is = rw (is, first (eqb-true m 0 is)) refl
    by_zero false is = rw is refl

    version : has_bad_version m headers ≡ false
    version = rw (by_zero (m == 0) refl) (second_false _ _ (false_from_ne_true (has_bad_version number headers) k.version))

-- a record that is no revision and no node has no content
module _ (headers : List Header) (good : has_bad_kind headers ≡ false) (fine : has_bad_lengths headers ≡ false)
    (no_revision : has_header revision_name headers ≡ false) (no_node : has_header path_name headers ≡ false) where
  one_of : (has_header version_name headers || has_header uuid_name headers) ≡ true
  one_of = cases (has_header version_name headers) refl
    where
      cases : (v : Bool) → has_header version_name headers ≡ v
          → (has_header version_name headers || has_header uuid_name headers) ≡ true
      cases true is = rw is refl
      cases false is = rw is ((deciding headers good).left is no_revision no_node)

  no_lengths : (has_header property_length_name headers ||
      (has_header text_length_name headers || (has_header content_length_name headers || false))) ≡ false
  no_lengths = when_true _ _ one_of (second_false _ _ (first_false _ _ fine))
    where
      when_true : (a b : Bool) → a ≡ true → (a && b) ≡ false → b ≡ false
      when_true true b is none = none
      when_true false b is none = cc

  -- for such a record, the lengths of properties and text are 0
  pub no_content : (property_length headers ≡ 0) × (text_length headers ≡ 0)
  no_content = (
    no_length property_length_name headers (first_false _ _ no_lengths),
    no_length text_length_name headers
        (first_false _ _ (second_false _ _ no_lengths)),
  )

-- what the new lines of a revision or node have in common with the old ones

-- if lines that break no rule are unchanged, they have all that they need to break none
pub stays_same : (number : ℕ) (headers : List Header) → is_lawful number headers ≡ true → StaysLawful headers headers
stays_same number headers lawful =
    let k = keeps number headers lawful in
    let numbers = false_from_ne_true (has_bad_number headers) k.number_ok in
    record {
      version = refl;
      uuid = refl;
      revision = refl;
      node = refl;
      text = refl;
      copies = second_false _ _ (false_from_ne_true (has_bad_kind headers) k.kind);
      revision_number = first_false _ _ numbers;
      copy_number = first_false _ _ (second_false _ _ numbers);
    }

-- with a new number, they still have what they need to break no rule
pub stays_number : (name : List ℕ) (old : List Header) (n : ℕ) → n < 10 ^ 18 → has_header name old ≡ true
    → StaysLawful old old → StaysLawful old (with_header_value name (spelled_number n) old)
stays_number name old n small has stays = record {
  version = there version_name;
  uuid = there uuid_name;
  revision = there revision_name;
  node = there path_name;
  text = there text_length_name;
  copies = rw (there path_name, there copy_revision_name, there copy_path_name) stays.copies;
  revision_number = reads revision_name stays.revision_number (bytes_eq name revision_name) refl;
  copy_number = reads copy_revision_name stays.copy_number (bytes_eq name copy_revision_name) refl;
}
  where
    new : List Header
    new = with_header_value name (spelled_number n) old

    there : (other : List ℕ) → has_header other new ≡ has_header other old
    there other = put_has other name (spelled_number n) old

    told : IsTold name n new
    told = told_put name n old (λ none. absurd (absurd_bool (has_header name old) has none))

    reads : (other : List ℕ) → (has_header other old && is_none (header_number other old)) ≡ false → (b : Bool)
        → bytes_eq name other ≡ b → (has_header other new && is_none (header_number other new)) ≡ false
    reads other read true is =
        subst (λ (m : List ℕ). (has_header m new && is_none (header_number m new)) ≡ false)
        ((bytes_eq-Decides name other).0 is) (told_reads name n new small told).1
    reads other read false apart =
        rw (there other, (put_change name (spelled_number n) old (spelled_line n small)).same other apart) read

-- without their copy source, they still have what they need to break no rule
pub stays_plain : (old : List Header) → StaysLawful old old → StaysLawful old (without_copy_headers old)
stays_plain old stays =
    let change = go_change old in
    let has = same_has is_copy_line old (without_copy_headers old) change in
    record {
      version = has version_name refl;
      uuid = has uuid_name refl;
      revision = has revision_name refl;
      node = has path_name refl;
      text = has text_length_name refl;
      copies = rw (gone copy_revision_name refl old, gone copy_path_name refl old)
          (and-false (has_header path_name (without_copy_headers old)));
      revision_number = rw (has revision_name refl, change.same revision_name refl) stays.revision_number;
      copy_number = rw (gone copy_revision_name refl old) refl;
    }

stays_lengths : (old mid : List Header) (props text : List ℕ) → length props + length text < 10 ^ 18
    → StaysLawful old mid → StaysLawful old (with_lengths props text mid)
stays_lengths old mid props text small stays =
    let change = lengths_change props text mid small in
    let has = same_has is_length_name mid (with_lengths props text mid) change in
    record {
      version = has version_name refl ∙ stays.version;
      uuid = has uuid_name refl ∙ stays.uuid;
      revision = has revision_name refl ∙ stays.revision;
      node = has path_name refl ∙ stays.node;
      text = text_stays props text mid small ∙ stays.text;
      copies = rw (has path_name refl, has copy_revision_name refl, has copy_path_name refl) stays.copies;
      revision_number = rw (has revision_name refl, change.same revision_name refl) stays.revision_number;
      copy_number = rw (has copy_revision_name refl, change.same copy_revision_name refl) stays.copy_number;
    }

-- a revision's or a node's lines before their lengths are written
pub record AreNewLines (old new : List Header) : Type 0 where
  pub touches : List ℕ → Bool
  pub change : IsChange touches old new
  pub stays : StaysLawful old new
  pub props_there : has_header property_length_name new ≡ has_header property_length_name old

-- lines with a new number, as the new lines of a record
abbrev pub numbered_lines : (name : List ℕ) (old : List Header) (n : ℕ) → n < 10 ^ 18 → has_header name old ≡ true
    → StaysLawful old old → AreNewLines old (with_header_value name (spelled_number n) old)
numbered_lines name old n small has stays = record {
  touches = bytes_eq name;
  change = put_change name (spelled_number n) old (spelled_line n small);
  stays = stays_number name old n small has stays;
  props_there = put_has property_length_name name (spelled_number n) old;
}

-- a revision or node r with these lines and properties, as it is written
pub record IsRewritten {number : ℕ} {text behind : List ℕ} {r : DumpRecord} (b : BeginsWithRecord number text r behind)
    (mid : List Header) (padded : Bool) (new : List Property) : Type 0 where
  pub either : (has_header revision_name r.headers || has_header path_name r.headers) ≡ true
  pub mid_lines : AreNewLines r.headers mid
  pub small : length (new_block padded r new) + length r.text < 10 ^ 18
  pub none : (padded || has_header property_length_name r.headers) ≡ false → new ≡ []

-- the record that is written: with the new lines, and the lengths of its new properties
module _ {number : ℕ} {text behind : List ℕ} {r : DumpRecord} {b : BeginsWithRecord number text r behind}
    {mid : List Header} {padded : Bool} {new : List Property} (w : IsRewritten b mid padded new) where
  abbrev props : List ℕ
  props = new_block padded r new

  abbrev pub lines : List Header
  lines = with_lengths props r.text mid

  -- the record that is written, at a place of the new text
  abbrev pub again : ℕ → DumpRecord
  again place = record { place = place; version = r.version; headers = lines; props = props; text = r.text }

  -- only lines of lengths differ from the lines before
  pub others : IsChange is_length_name mid lines
  others = lengths_change props r.text mid w.small

  no_text : has_header text_length_name mid ≡ false → length r.text ≡ 0
  no_text missing = b.text_fits ∙ no_length text_length_name r.headers (sym w.mid_lines.stays.text ∙ missing)

  told : AreTold props r.text lines
  told = lengths_told props r.text mid w.small no_text

  -- the new lines give the lengths of the properties and of the text
  pub lengths_fit : (length props ≡ property_length lines) × (length r.text ≡ text_length lines)
  lengths_fit = told_lengths props r.text lines w.small told

  -- the new lines still have what they need from the old ones to break no rule
  pub new_stays : StaysLawful r.headers lines
  new_stays = stays_lengths r.headers mid props r.text w.small w.mid_lines.stays

  -- the new lines are a block
  pub new_is_block : is_block lines ≡ true
  new_is_block = by_revision (has_header revision_name r.headers) refl
    where
      stay : (name : List ℕ) → has_header name lines ≡ true → is_block lines ≡ true
      stay name has =
          block_stays (λ other. w.mid_lines.touches other || is_length_name other) r.headers lines
          (both_changes w.mid_lines.touches r.headers mid lines is_length_name w.mid_lines.change others)
          name has b.block

      by_revision : (b : Bool) → has_header revision_name r.headers ≡ b → is_block lines ≡ true
      by_revision true is = stay revision_name (new_stays.revision ∙ is)
      by_revision false is = stay path_name (new_stays.node ∙ sym (ap (λ b. b || has_header path_name r.headers) is)
          ∙ w.either)

  -- the new lines break no rule in any place of a dump, except that a version record has to be first
  pub new_lawful : (m : ℕ) → (m ≡ 0 → has_header version_name r.headers ≡ true) → is_lawful m lines ≡ true
  new_lawful = lawful_again number r.headers lines b.lawful w.either new_stays props r.text w.small told

  -- there is no version line, neither before nor now
  pub new_version_line : (before : ℕ) → version_from before lines ≡ version_from before r.headers
  new_version_line before =
      let good = false_from_ne_true (has_bad_kind r.headers) (keeps number r.headers b.lawful).kind in
      rw (new_stays.version, (no_others r.headers good w.either).0) refl

  -- the block of the new properties is one that is read again, and it stays unchanged
  reads : IsPropertyBlock props new
  reads = by_block (padded || has_header property_length_name r.headers) refl w.small
    where
      by_block : (b : Bool) → (padded || has_header property_length_name r.headers) ≡ b
          → length (if b then property_block_text new else []) + length r.text < 10 ^ 18
          → IsPropertyBlock
          (if padded || has_header property_length_name r.headers then property_block_text new else []) new
      by_block true is few = rw is (short_block new (omega (arith, few)))
      by_block false is few = rw is (inl (refl, w.none is))

  -- the new properties are those of the record, if it may delete properties
  pub reads_list : (has_deletes new ≡ true → takes_deletes r ≡ true) → (place : ℕ) → HasPropertyList (again place) new
  reads_list may place = (reads, λ deletes. ap (λ node. node && r.version == 3) new_stays.node ∙ may deletes)

  same_props : new_block false (again 0) new ≡ props
  same_props = by_block (padded || has_header property_length_name r.headers) refl told.props_told
    where
      some_there : (b : Bool) → has_header property_length_name lines ≡ b
          → MatchBool b (header_value property_length_name lines ≡ Some
          (spelled_number (length (property_block_text new))))
          (length (property_block_text new) ≡ 0) → has_header property_length_name lines ≡ true
      some_there true is t = is
      some_there false is t = absurd (some_bytes t)
        where
          some_bytes : length (flat_map entry_text new ++ block_end) ≡ 0 → ⊥
          some_bytes empty = let size = length-append (flat_map entry_text new) block_end in omega (arith, size, empty)

      by_block : (b : Bool) → (padded || has_header property_length_name r.headers) ≡ b
          → IsTold property_length_name (length props) lines → new_block false (again 0) new ≡ props
      by_block true is t =
          let full : props ≡ property_block_text new = rw is refl in
          let there = some_there (has_header property_length_name lines) refl
          (subst (λ (bytes : List ℕ). IsTold property_length_name (length bytes) lines) full t) in
          rw there (sym full)
      by_block false is t =
          let empty : props ≡ [] = rw is refl in
          let missing : has_header property_length_name lines ≡ false =
          props_stay props r.text mid w.small (ap length empty)
          (w.mid_lines.props_there ∙ second_false padded (has_header property_length_name r.headers) is) in
          rw missing (sym empty)

  same_lines : with_lengths props r.text lines ≡ lines
  same_lines = lengths_again props r.text lines new_is_block told

  -- if the lines are the same, what is written is the same
  pub same_text : (headers : List Header) → headers ≡ lines
      → whole_text headers (new_block false (again 0) new) r.text ≡ whole_text mid props r.text
  same_text headers same =
      ap (λ (bytes : List ℕ). whole_text headers bytes r.text) same_props
      ∙ ap (λ (l : List Header). whole_text l props r.text) same
      ∙ ap (λ (l : List Header). block_text l ++ props ++ r.text) same_lines
