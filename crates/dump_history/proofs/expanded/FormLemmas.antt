-- What remains of a node, and the nodes before it: they are nodes, break no rule, and make their changes.
use Rattle.dump_history.proofs.Prelude.{◌≡◌, ◌+◌, ◌==◌, Bool, true, not, ◌&&◌, ◌||◌, ◌++◌, length, refl, sym, ap, ◌∙◌, subst, lit<, if◌then◌else◌, list_all, list_any, bytes_eq, Option, None, is_some, unwrap_or, option_and_then, number_of, header_number, first_true, second_true, and_from, first_false, second_false, false_from_ne_true, or-true, has_byte, has_header, header_value, has_value, path_name, action_name, property_length_name, text_length_name, content_length_name, prop_delta_name, text_delta_name, node_kind_name, copy_path_name, copy_revision_name, is_block, IsCutInto, property_length, text_length, BeginsWithRecord, DumpRecord, record_text, is_lawful, Property, HasPropertyList, is_node, is_revision_record, is_copy, node_path, copy_path, put_has, put_own, put_change, alone, is_short, path_of, Made, PropertyChange, TextChange, Change, Patching, MakesChange, change_of, made_of, makes, copied_from, made_by_kind, is_plain_line, loads_as_written}
use Rattle.std.proofs.Common.{ℕ, false, List, [], ◌∷◌, Some, codes, is_none}
use Rattle.std.proofs.Math.Bool.{and-false}
use Rattle.dump_records.specs.HeaderRules.{has_bad_kind, has_bad_version, has_bad_number, has_bad_lengths, is_one_alone}
use Rattle.dump_records.proofs.Unique as unique
use Rattle.dump_text.specs.Names.{version_name, uuid_name, revision_name}
use Rattle.dump_text.specs.PropertyList.{IsPropertyBlock}
use Rattle.dump_filter.proofs.again.LineChanges.{IsChange, same_has, block_stays}
use Rattle.dump_filter.proofs.again.Headers.{no_others}
use Rattle.dump_history.specs.RecordChanges.{has_action}
use Rattle.dump_history.specs.WrittenNodes.{WrittenNode, node_record, can_be_written}
use Rattle.dump_history.specs.steps.WrittenNodes.{replacing}
use Rattle.dump_history.specs.steps.ExpandedDumps.{as_replacement}
use Rattle.dump_history.proofs.again.NodeChanges.{makes_change, node_change, change_is}
use Rattle.dump_history.proofs.again.RecordLines.{plain_put}
use Rattle.dump_history.proofs.expanded.NodeLemmas.{written_nodes_are_records}

-- nodes

-- the record is a node, and no revision or version record
pub record IsNode (s : DumpRecord) : Type 0 where
  pub node : is_node s ≡ true
  pub no_revision : is_revision_record s ≡ false
  pub no_version : has_header version_name s.headers ≡ false

-- a lawful node is such a node
pub lawful_node : (number : ℕ) (r : DumpRecord) → is_lawful number r.headers ≡ true → is_node r ≡ true → IsNode r
lawful_node number r lawful node = record {
  node = node;
  no_revision = alone number r lawful node;
  no_version =
      (no_others r.headers (false_from_ne_true (has_bad_kind r.headers) (unique.keeps number r.headers lawful).kind)
      (ap (λ b. is_revision_record r || b) node ∙ or-true (is_revision_record r))).0;
}

-- a written node is such a node
pub written_node : (place version : ℕ) (w : WrittenNode) → IsNode (node_record place version w)
written_node place version (WrittenNode.Deletion path) =
    record { node = refl; no_revision = refl; no_version = refl }
written_node place version (WrittenNode.Copy kind number source path) =
    record { node = refl; no_revision = refl; no_version = refl }
written_node place version (WrittenNode.Directory replaces path entries) =
    record { node = refl; no_revision = refl; no_version = refl }
written_node place version (WrittenNode.File replaces path entries text None None) =
    record { node = refl; no_revision = refl; no_version = refl }
written_node place version (WrittenNode.File replaces path entries text None (Some sha1)) =
    record { node = refl; no_revision = refl; no_version = refl }
written_node place version (WrittenNode.File replaces path entries text (Some md5) None) =
    record { node = refl; no_revision = refl; no_version = refl }
written_node place version (WrittenNode.File replaces path entries text (Some md5) (Some sha1)) =
    record { node = refl; no_revision = refl; no_version = refl }

-- rules

-- the rules that each record of a dump keeps
pub record Fits (r : DumpRecord) : Type 0 where
  pub number : ℕ
  pub block : is_block r.headers ≡ true
  pub lawful : is_lawful number r.headers ≡ true
  pub props_fit : length r.props ≡ property_length r.headers
  pub text_fits : length r.text ≡ text_length r.headers

-- all of these records keep the rules
abbrev pub AllFit : List DumpRecord → Type 0
AllFit [] = Unit {0}
AllFit (r ∷ records) = Fits r × AllFit records

fits_at : (number : ℕ) (text after : List ℕ) (r : DumpRecord) → BeginsWithRecord number text r after → Fits r
fits_at number text after r b = record {
  number = number;
  block = b.block;
  lawful = b.lawful;
  props_fit = b.props_fit;
  text_fits = b.text_fits;
}

-- the records into which a text is split keep the rules
pub all_fit : (number place : ℕ) (text rest : List ℕ) (records : List DumpRecord)
    → IsCutInto number place text records rest → AllFit records
all_fit number place text rest [] cut = tt
all_fit number place text rest (r ∷ records) (lfs, front, after, is, at, b, more) = (
  fits_at number front after r b,
  all_fit (number + 1) (r.place + length (record_text r)) after rest records more,
)

-- a written node keeps the rules
pub written_fits : (place version : ℕ) (w : WrittenNode) → can_be_written w ≡ true → Fits (node_record place version w)
written_fits place version w can =
    fits_at 1 (record_text (node_record place version w) ++ []) [] (node_record place version w)
    (written_nodes_are_records w 1 place version [] can (lit< tt))

-- a test of names that is false for each name that the rules use
pub record IsApart (touches : List ℕ → Bool) : Type 0 where
  pub version : touches version_name ≡ false
  pub uuid : touches uuid_name ≡ false
  pub revision : touches revision_name ≡ false
  pub node : touches path_name ≡ false
  pub props : touches property_length_name ≡ false
  pub text : touches text_length_name ≡ false
  pub content : touches content_length_name ≡ false

-- the new lines of a node fit if the old ones did; either both lines of its copy source are there, or neither is
module _ (r s : DumpRecord) (fits : Fits r) (node : is_node r ≡ true) (touches : List ℕ → Bool)
    (change : IsChange touches r.headers s.headers) (apart : IsApart touches)
    (copies : is_one_alone (has_header copy_revision_name s.headers) (has_header copy_path_name s.headers) ≡ false)
    (number_read : (has_header copy_revision_name s.headers
    && is_none (header_number copy_revision_name s.headers)) ≡ false)
    (same_props : s.props ≡ r.props) (same_text : s.text ≡ r.text) where
  kept_rules : unique.Keeps fits.number r.headers
  kept_rules = unique.keeps fits.number r.headers fits.lawful

  there : (name : List ℕ) → touches name ≡ false → has_header name s.headers ≡ has_header name r.headers
  there name other = same_has touches r.headers s.headers change name other

  new_kind : has_bad_kind s.headers ≡ false
  new_kind =
      rw (
        copies,
        and-false (has_header path_name s.headers),
        there version_name apart.version,
        there uuid_name apart.uuid,
        there revision_name apart.revision,
        there path_name apart.node,
      )
      (last (first_false _ _ (false_from_ne_true (has_bad_kind r.headers) kept_rules.kind)))
    where
      last : {b : Bool} → b ≡ false → (b || false) ≡ false
      last is = rw is refl

  new_version : has_bad_version fits.number s.headers ≡ false
  new_version = rw (there version_name apart.version, change.same version_name apart.version)
      (false_from_ne_true (has_bad_version fits.number r.headers) kept_rules.version)

  new_number : has_bad_number s.headers ≡ false
  new_number =
      let numbers = false_from_ne_true (has_bad_number r.headers) kept_rules.number_ok in
      let revision : (has_header revision_name r.headers && is_none (header_number revision_name r.headers)) ≡ false =
      first_false _ _ numbers in
      rw (
        number_read,
        there revision_name apart.revision,
        change.same revision_name apart.revision,
        there property_length_name apart.props,
        there text_length_name apart.text,
        there content_length_name apart.content,
        change.same property_length_name apart.props,
        change.same text_length_name apart.text,
        change.same content_length_name apart.content,
        revision,
      )
      (second_false _ _ (second_false _ _ numbers))

  new_lengths : has_bad_lengths s.headers ≡ false
  new_lengths =
      rw (
        there version_name apart.version,
        there uuid_name apart.uuid,
        there revision_name apart.revision,
        there property_length_name apart.props,
        there text_length_name apart.text,
        there content_length_name apart.content,
        change.same property_length_name apart.props,
        change.same text_length_name apart.text,
        change.same content_length_name apart.content,
      )
      (false_from_ne_true (has_bad_lengths r.headers) kept_rules.lengths)

  pub changed_fits : Fits s
  changed_fits = record {
    number = fits.number;
    block = block_stays touches r.headers s.headers change path_name (there path_name apart.node ∙ node) fits.block;
    lawful = rw (new_kind, new_version, new_number, new_lengths) refl;
    props_fit = ap length same_props ∙ fits.props_fit ∙ sym (ap (λ (o : Option (List ℕ)).
        unwrap_or (option_and_then number_of o) 0) (change.same property_length_name apart.props));
    text_fits = ap length same_text ∙ fits.text_fits ∙ sym (ap (λ (o : Option (List ℕ)).
        unwrap_or (option_and_then number_of o) 0) (change.same text_length_name apart.text));
  }

-- a lawful node has both lines of a copy source or neither; one of them has a number
source_lines : (r : DumpRecord) → Fits r → is_node r ≡ true
    → is_one_alone (has_header copy_revision_name r.headers) (has_header copy_path_name r.headers) ≡ false
source_lines r fits node =
    let both : (has_header path_name r.headers
    && is_one_alone (has_header copy_revision_name r.headers) (has_header copy_path_name r.headers)) ≡ false =
    second_false _ _ (false_from_ne_true (has_bad_kind r.headers) (unique.keeps fits.number r.headers fits.lawful).kind) in
    sym (ap (λ b. b
    && is_one_alone (has_header copy_revision_name r.headers) (has_header copy_path_name r.headers)) node) ∙ both

source_number : (r : DumpRecord) → Fits r
    → (has_header copy_revision_name r.headers && is_none (header_number copy_revision_name r.headers)) ≡ false
source_number r fits =
    first_false _ _ (second_false _ _ (false_from_ne_true (has_bad_number r.headers)
    (unique.keeps fits.number r.headers fits.lawful).number_ok))

-- a node that replaces fits
pub replacing_fits : (r : DumpRecord) → Fits r → is_node r ≡ true → Fits (as_replacement r)
replacing_fits r fits node = changed_fits r (as_replacement r) fits node (λ name. bytes_eq action_name name)
    (put_change action_name (codes "replace") r.headers refl)
    (record { version = refl; uuid = refl; revision = refl; node = refl; props = refl; text = refl; content = refl })
    (rw (
      put_has copy_revision_name action_name (codes "replace") r.headers,
      put_has copy_path_name action_name (codes "replace") r.headers,
    ) (source_lines r fits node))
    (rw (
      put_has copy_revision_name action_name (codes "replace") r.headers,
      (put_change action_name (codes "replace") r.headers refl).same copy_revision_name refl,
    ) (source_number r fits)) refl refl

-- a node that replaces is a node
pub replacing_node : (r : DumpRecord) → IsNode r → IsNode (as_replacement r)
replacing_node r n = record {
  node = put_has path_name action_name (codes "replace") r.headers ∙ n.node;
  no_revision = put_has revision_name action_name (codes "replace") r.headers ∙ n.no_revision;
  no_version = put_has version_name action_name (codes "replace") r.headers ∙ n.no_version;
}

-- changes

-- whether the value of a header is this text
abbrev tells : Option (List ℕ) → List ℕ → Bool
tells o text = bytes_eq (unwrap_or o []) text

-- whether the names of properties contain no zero byte
abbrev plain_names : List Property → Bool
plain_names ps = list_all (λ (p : Property). not (has_byte 0 p.name)) ps

-- a node whose lines change keeps its property list, and its texts stay plain
module _ (r s : DumpRecord) (touches : List ℕ → Bool) (change : IsChange touches r.headers s.headers)
    (node_stays : touches path_name ≡ false) (same_version : s.version ≡ r.version) (same_props : s.props ≡ r.props)
  where
    new_there : (name : List ℕ) → touches name ≡ false → has_header name s.headers ≡ has_header name r.headers
    new_there name other = same_has touches r.headers s.headers change name other

    pub new_list : (ps : List Property) → HasPropertyList r ps → HasPropertyList s ps
    new_list ps (block, deletes) = (
      subst (λ (t : List ℕ). IsPropertyBlock t ps) (sym same_props) block,
      λ some. (λ i. new_there path_name node_stays i && (same_version i == 3)) ∙ deletes some,
    )

    pub new_plain : (ps : List Property)
        → (list_all is_plain_line r.headers ≡ true → list_all is_plain_line s.headers ≡ true)
        → (is_short (copy_path r) ≡ true → is_short (copy_path s) ≡ true)
        → loads_as_written r ps ≡ true → loads_as_written s ps ≡ true
    new_plain ps lines short is =
        let three = first_true (list_all is_plain_line r.headers && plain_names ps && is_short (node_path r))
        (is_short (copy_path r)) is in
        let two = first_true (list_all is_plain_line r.headers && plain_names ps) (is_short (node_path r)) three in
        and_from (list_all is_plain_line s.headers && plain_names ps && is_short (node_path s)) (is_short (copy_path s))
        (and_from (list_all is_plain_line s.headers && plain_names ps) (is_short (node_path s))
        (and_from (list_all is_plain_line s.headers) (plain_names ps)
        (lines (first_true (list_all is_plain_line r.headers) (plain_names ps) two))
        (second_true (list_all is_plain_line r.headers) (plain_names ps) two))
        (ap (λ o. is_short (unwrap_or o [])) (change.same path_name node_stays)
        ∙ second_true (list_all is_plain_line r.headers && plain_names ps) (is_short (node_path r)) three))
        (short (second_true (list_all is_plain_line r.headers && plain_names ps && is_short (node_path r))
        (is_short (copy_path r)) is))

-- a node that adds makes the change that replaces, with the action that does
module _ (patched : Patching) (r : DumpRecord) (adds : has_action (codes "add") r ≡ true) where
  abbrev new : DumpRecord
  new = as_replacement r

  new_change : IsChange (λ name. bytes_eq action_name name) r.headers new.headers
  new_change = put_change action_name (codes "replace") r.headers refl

  new_value : (name : List ℕ) → bytes_eq action_name name ≡ false
      → header_value name new.headers ≡ header_value name r.headers
  new_value name other = new_change.same name other

  has_it : (name : List ℕ) → has_header name new.headers ≡ has_header name r.headers
  has_it name = put_has name action_name (codes "replace") r.headers

  -- the node has an action
  action_there : has_header action_name r.headers ≡ true
  action_there = by_value (header_value action_name r.headers) (has_value action_name r.headers) adds
    where
      by_value : (o : Option (List ℕ)) → is_some o ≡ has_header action_name r.headers → tells o (codes "add") ≡ true
          → has_header action_name r.headers ≡ true
      by_value None is none = cc
      by_value (Some action) is told = sym is

  action : header_value action_name new.headers ≡ Some (codes "replace")
  action = put_own action_name (codes "replace") r.headers action_there

  old_makes : makes r ≡ true
  old_makes = rw adds refl

  new_makes : makes new ≡ true
  new_makes = rw action refl

  replaced_made : made_of new ≡ made_of r
  replaced_made = (λ i. if new_makes i then if has_it copy_path_name i then
      Some (Made.Copied (unwrap_or (option_and_then number_of (new_value copy_revision_name refl i)) 0)
      (path_of (unwrap_or (new_value copy_path_name refl i) [])))
      else if tells (new_value node_kind_name refl i) (codes "dir") then Some Made.NewDirectory
      else if tells (new_value node_kind_name refl i) (codes "file") then Some Made.NewFile
      else None else None)
      ∙ ap (λ b. if b then if is_copy r then Some (copied_from r) else made_by_kind r else None) (sym old_makes)

  replaced_change : (ps : List Property) → node_change patched new ps ≡ replacing true (node_change patched r ps)
  replaced_change ps = λ i. record {
    path = path_of (unwrap_or (new_value path_name refl i) []);
    deletes = tells (action i) (codes "delete") || tells (action i) (codes "replace");
    made = replaced_made i;
    props = if has_it property_length_name i then
        Some (if has_it path_name i && (r.version == 3) && tells (new_value prop_delta_name refl i) (codes "true") then
        PropertyChange.Edited ps else PropertyChange.Replaced ps) else None;
    text = if has_it text_length_name i then
        Some (if has_it path_name i && (r.version == 3) && tells (new_value text_delta_name refl i) (codes "true") then
        TextChange.Patched (patched r.text) else TextChange.Replaced r.text) else None;
  }

  makes_still : makes_change r ≡ true → makes_change new ≡ true
  makes_still is = (λ i. list_any (λ word. tells (action i) word)
      (codes "add" ∷ codes "change" ∷ codes "delete" ∷ codes "replace" ∷ [])
      && not (not (r.version == 3) && (tells (new_value prop_delta_name refl i) (codes "true")
      || tells (new_value text_delta_name refl i) (codes "true"))))
      ∙ second_true _ _ is

  pub replacing_makes : (c : Change) → MakesChange patched r c
      → MakesChange patched (as_replacement r) (replacing true c)
  replacing_makes c (ps, list, plain, is) =
      let (made, change) = change_is patched r ps c is in (
        ps,
        new_list r new (λ name. bytes_eq action_name name) new_change refl refl refl ps list,
        new_plain r new (λ name. bytes_eq action_name name) new_change refl refl refl ps
            (plain_put action_name (codes "replace") refl refl r.headers)
            (λ short. ap (λ o. is_short (unwrap_or o [])) (new_value copy_path_name refl) ∙ short) plain,
        (let one : change_of patched new ps ≡ Some (node_change patched new ps) = rw (makes_still made) refl in
            one ∙ ap (λ (d : Change). Some d) (replaced_change ps ∙ ap (replacing true) change)),
      )
