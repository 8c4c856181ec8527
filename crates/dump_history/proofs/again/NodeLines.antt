-- What the node that is read again keeps of a kept node's lines.
use Rattle.dump_history.proofs.Prelude.{◌≡◌, Bool, true, ◌||◌, length, refl, sym, ap, ◌∙◌, subst, bytes_eq, Option, None, is_some, option_and_then, unwrap_or, MatchBool, if◌then◌else◌, list_all, number_of, spelled_number, copy_revision_name, copy_path_name, property_length_name, text_length_name, Header, has_header, header_value, with_header_value, property_block_text, first_false, second_false, has_value, number_of-spelled, header_number, DumpRecord, Settings, KeptRevisions, is_copy, has_text, new_block, with_lengths, becomes_plain, without_copy_headers, IsWrittenCopyNumber, IsNewCopy, is_copy_line, spelled_line, put_own, put_change, go_change, gone, is_length_name, lengths_change, text_stays, props_stay, IsNodeAgain, is_short, is_plain_line, copy_path, number_there}
use Rattle.std.proofs.Common.{ℕ, false, List, [], Some}
use Rattle.dump_history.proofs.again.RecordLines.{plain_put, plain_gone, plain_lengths, spelled_plain, lengths_have}

-- a node r becomes a plain one, stays a copy, or is no copy: what is true of the lines in each of these cases is true
-- of them
by_new_copy : (P : List Header → Type 0) (settings : Settings) (kept : KeptRevisions) (r : DumpRecord)
    → (becomes_plain settings r ≡ true → P (without_copy_headers r.headers))
    → ((number n : ℕ) → becomes_plain settings r ≡ false → is_copy r ≡ true
    → header_number copy_revision_name r.headers ≡ Some number
    → IsWrittenCopyNumber settings kept number n
    → P (with_header_value copy_revision_name (spelled_number n) r.headers))
    → (becomes_plain settings r ≡ false → is_copy r ≡ false → P r.headers)
    → (mid : List Header) → IsNewCopy settings kept r mid → P mid
by_new_copy P settings kept r plain renumbered same mid copy =
    by_plain (becomes_plain settings r) refl (is_copy r) refl copy
  where
    by_plain : (b : Bool) → becomes_plain settings r ≡ b → (c : Bool) → is_copy r ≡ c
        → MatchBool b (mid ≡ without_copy_headers r.headers) (MatchBool c
        ((number n : ℕ) × (header_number copy_revision_name r.headers ≡ Some number)
        × IsWrittenCopyNumber settings kept number n
        × (mid ≡ with_header_value copy_revision_name (spelled_number n) r.headers)) (mid ≡ r.headers)) → P mid
    by_plain true is c copies lines = subst P (sym lines) (plain is)
    by_plain false is true copies (number, n, read, written, lines) =
        subst P (sym lines) (renumbered number n is copies read written)
    by_plain false is false copies lines = subst P (sym lines) (same is copies)

-- whether the filter may write another line of this name in a node, or omit it
abbrev pub is_rewritten : List ℕ → Bool
is_rewritten name = is_copy_line name || (bytes_eq copy_revision_name name || is_length_name name)

module _ (settings : Settings) (kept : KeptRevisions) (r s : DumpRecord) (a : IsNodeAgain settings kept r s) where
  abbrev props : List ℕ
  props = new_block false r a.new

  -- what is true of the lines with their lengths is true of the node's lines
  on_lines : (P : List Header → Type 0) → P (with_lengths props r.text a.mid) → P s.headers
  on_lines P is = subst P (sym a.lines) is

  -- a change of the copy source doesn't change a line with another name
  mid_value : (name : List ℕ) → is_copy_line name ≡ false → bytes_eq copy_revision_name name ≡ false
      → header_value name a.mid ≡ header_value name r.headers
  mid_value name other apart =
      by_new_copy (λ mid. header_value name mid ≡ header_value name r.headers) settings kept r
      (λ plain. (go_change r.headers).same name other)
      (λ number n stays copies read written.
      (put_change copy_revision_name (spelled_number n) r.headers
      (spelled_line n (a.number_fits number n read written))).same name apart)
      (λ stays none. refl) a.mid a.new_copy

  -- new lengths change no other line
  late_value : (name : List ℕ) → is_length_name name ≡ false
      → header_value name s.headers ≡ header_value name a.mid
  late_value name other =
      on_lines (λ lines. header_value name lines ≡ header_value name a.mid)
      ((lengths_change props r.text a.mid a.small).same name other)

  -- a line that isn't rewritten keeps its value
  pub value_stays : (name : List ℕ) → is_rewritten name ≡ false
      → header_value name s.headers ≡ header_value name r.headers
  value_stays name stays =
      let later = second_false (is_copy_line name) _ stays in
      late_value name (second_false (bytes_eq copy_revision_name name) (is_length_name name) later)
      ∙ mid_value name (first_false (is_copy_line name) _ stays)
      (first_false (bytes_eq copy_revision_name name) (is_length_name name) later)

  mid_has : (name : List ℕ) → is_copy_line name ≡ false → bytes_eq copy_revision_name name ≡ false
      → has_header name a.mid ≡ has_header name r.headers
  mid_has name other apart = sym (has_value name a.mid) ∙ ap is_some (mid_value name other apart)
      ∙ has_value name r.headers

  -- there is a text exactly if there was one
  pub text_there : has_text s ≡ has_text r
  text_there = on_lines (λ lines. has_header text_length_name lines ≡ has_header text_length_name r.headers)
      (text_stays props r.text a.mid a.small ∙ mid_has text_length_name refl refl)

  -- there are properties exactly if there were some
  pub props_there : has_header property_length_name s.headers ≡ has_header property_length_name r.headers
  props_there = on_lines (λ lines. has_header property_length_name lines ≡ has_header property_length_name r.headers)
      (by_case (has_header property_length_name r.headers) refl)
    where
      before : has_header property_length_name a.mid ≡ has_header property_length_name r.headers
      before = mid_has property_length_name refl refl

      by_case : (b : Bool) → has_header property_length_name r.headers ≡ b
          → has_header property_length_name (with_lengths props r.text a.mid)
          ≡ has_header property_length_name r.headers
      by_case true is = lengths_have property_length_name props r.text a.mid (before ∙ is) ∙ sym is
      by_case false is =
          let empty : length props ≡ 0 = ap (λ b. length (if b then property_block_text a.new else [])) is in
          props_stay props r.text a.mid a.small empty (before ∙ is) ∙ sym is

  -- the lines still have no zero byte
  pub plain_stays : list_all is_plain_line r.headers ≡ true → list_all is_plain_line s.headers ≡ true
  plain_stays all = on_lines (λ lines. list_all is_plain_line lines ≡ true)
      (plain_lengths props r.text a.small a.mid
      (by_new_copy (λ mid. list_all is_plain_line mid ≡ true) settings kept r
      (λ plain. plain_gone r.headers all)
      (λ number n stays copies read written.
      plain_put copy_revision_name (spelled_number n) refl
      (spelled_plain n (a.number_fits number n read written)) r.headers all)
      (λ stays none. all) a.mid a.new_copy))

  -- the copy source of the node that is read again

  late_has : (name : List ℕ) → is_length_name name ≡ false → has_header name s.headers ≡ has_header name a.mid
  late_has name other = sym (has_value name s.headers) ∙ ap is_some (late_value name other) ∙ has_value name a.mid

  -- what remains of the copy source. If the node becomes a plain one, or had no source, nothing remains. If it stays a
  -- copy, its path and the written number remain.
  abbrev pub HasNewSource : Bool → Bool → Type 0
  HasNewSource plain copies =
      MatchBool plain (is_copy s ≡ false)
      (MatchBool copies
      ((number n : ℕ) × (header_number copy_revision_name r.headers ≡ Some number)
      × IsWrittenCopyNumber settings kept number n
      × (header_number copy_revision_name s.headers ≡ Some n) × (is_copy s ≡ true) × (copy_path s ≡ copy_path r))
      (is_copy s ≡ false))

  -- the copy source of the node that is read again, from what becomes of the old one
  pub new_source : HasNewSource (becomes_plain settings r) (is_copy r)
  new_source = by_plain (becomes_plain settings r) (is_copy r) refl a.new_copy
    where
      by_plain : (b c : Bool) → is_copy r ≡ c
          → MatchBool b (a.mid ≡ without_copy_headers r.headers) (MatchBool c
          ((number n : ℕ) × (header_number copy_revision_name r.headers ≡ Some number)
          × IsWrittenCopyNumber settings kept number n
          × (a.mid ≡ with_header_value copy_revision_name (spelled_number n) r.headers)) (a.mid ≡ r.headers))
          → HasNewSource b c
      by_plain true c is lines = late_has copy_path_name refl ∙ ap (has_header copy_path_name) lines
          ∙ gone copy_path_name refl r.headers
      by_plain false true is (number, n, read, written, lines) =
          let small = a.number_fits number n read written in
          let change = put_change copy_revision_name (spelled_number n) r.headers (spelled_line n small) in
          let path = late_value copy_path_name refl ∙ ap (header_value copy_path_name) lines
          ∙ change.same copy_path_name refl in
          let digits = late_value copy_revision_name refl ∙ ap (header_value copy_revision_name) lines
          ∙ put_own copy_revision_name (spelled_number n) r.headers
          (number_there copy_revision_name r.headers number read)
          in (
            number,
            n,
            read,
            written,
            ap (option_and_then number_of) digits ∙ number_of-spelled n small,
            sym (has_value copy_path_name s.headers) ∙ ap is_some path ∙ has_value copy_path_name r.headers ∙ is,
            ap (λ (o : Option (List ℕ)). unwrap_or o []) path,
          )
      by_plain false false is lines = late_has copy_path_name refl ∙ ap (has_header copy_path_name) lines ∙ is

  -- the path of the copy source is still canonical
  pub short_stays : is_short (copy_path r) ≡ true → is_short (copy_path s) ≡ true
  short_stays short = by_source (becomes_plain settings r) (is_copy r) new_source
    where
      none_short : is_copy s ≡ false → is_short (copy_path s) ≡ true
      none_short none = by_value (header_value copy_path_name s.headers)
          (has_value copy_path_name s.headers ∙ none)
        where
          by_value : (o : Option (List ℕ)) → is_some o ≡ false → is_short (unwrap_or o []) ≡ true
          by_value None is = refl
          by_value (Some path) is = cc

      by_source : (b c : Bool) → HasNewSource b c → is_short (copy_path s) ≡ true
      by_source true c none = none_short none
      by_source false true (number, n, read, written, again, there, same) = ap is_short same ∙ short
      by_source false false none = none_short none
