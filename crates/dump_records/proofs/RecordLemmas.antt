-- What a record borrows from its block.
use Rattle.dump_records.proofs.Prelude.{◌≡◌, ℕ, ◌-◌, Bool, true, false, if◌then◌else◌, List, Option, Some, None, Bor, drop, refl, sym, ◌∙◌, subst, arith, option_copied, IfSome, length-take, length-drop, path_name, copy_path_name, Header, has_header, header_value, is_copied_node, part_of_node, IsPartBetween, block_size, value_lent, if_copied, Record, place_after, record_item, IsInBlock}
use Rattle.dump_records.proofs.HeaderLemmas.{no_value}

-- a header's value is in the block
pub value_in_block : (r : Record) (name : List ℕ) (value : List ℕ)
    → Some value ≡ header_value name (record_item r).headers → IsInBlock r value
value_in_block r name value is =
    let b = r.block in
    subst (λ (n : ℕ). IsPartBetween b.dump.now b.place n value) (sym (block_size b.dump.now b.place b.after b.stands))
    (value_lent b.dump.now b.place b.after b.stands name value (sym is))

-- so is a value that may be missing
pub copy_in_block : (r : Record) (name : List ℕ) (found : Option (Bor (List ℕ)))
    → option_copied found ≡ header_value name (record_item r).headers
    → IfSome found (λ value. IsInBlock r value.now)
copy_in_block r name found is = if_copied found (IsInBlock r) (λ value at. value_in_block r name value (sym at ∙ is))

-- a record with a header that only copies have is a node
pub copy_has : (r : Record) (name : List ℕ)
    → (has_header path_name (record_item r).headers ≡ true → has_header copy_path_name (record_item r).headers ≡ false
    → has_header name (record_item r).headers ≡ false)
    → (if is_copied_node r.header.parts then header_value name (record_item r).headers else None)
    ≡ part_of_node (record_item r) (header_value name (record_item r).headers)
copy_has r name other = cases (has_header path_name headers) (has_header copy_path_name headers) refl refl
  where
    headers : List Header
    headers = (record_item r).headers

    cases : (node copied : Bool) → has_header path_name headers ≡ node → has_header copy_path_name headers ≡ copied
        → (if is_copied_node r.header.parts then header_value name headers else None)
        ≡ part_of_node (record_item r) (header_value name headers)
    cases true true node copied =
        let copy : is_copied_node r.header.parts ≡ true = r.says.kind.copied ∙ rw (node, copied) refl in
        rw (node, copy) refl
    cases true false node copied =
        let copy : is_copied_node r.header.parts ≡ false = r.says.kind.copied ∙ rw (node, copied) refl in
        rw (node, copy) (no_value name headers (other node copied))
    cases false copied node other_is =
        let copy : is_copied_node r.header.parts ≡ false = r.says.kind.copied ∙ rw node refl in
        rw (node, copy) refl

-- what follows a record begins at its end
pub end_of_record : (r : Record) → place_after (record_item r) ≡ r.after
end_of_record r =
    let b = r.block in
    let dump = b.dump.now in
    let block = block_size dump b.place b.after b.stands in
    let up = r.inside.props in
    let on = r.inside.text in
    let end = r.inside.end in
    let props = length-take (r.text_from - b.after) (drop b.after dump) in
    let text = length-take (r.after - r.text_from) (drop r.text_from dump) in
    let behind_block = length-drop b.after dump in
    let behind_props = length-drop r.text_from dump in
    omega arith
