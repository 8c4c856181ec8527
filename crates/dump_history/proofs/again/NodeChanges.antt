-- What is written of a kept node, read again, makes the filtered change.
use Rattle.dump_history.proofs.Prelude.{◌≡◌, Bool, true, not, ◌&&◌, ◌||◌, ◌==◌, refl, sym, ap, ◌∙◌, subst, bytes_eq, Option, None, is_some, unwrap_or, MatchBool, if◌then◌else◌, list_all, list_any, bytes_eq-Decides, action_name, node_kind_name, path_name, property_length_name, text_delta_name, prop_delta_name, has_byte, has_header, header_value, Property, first_true, second_true, and_from, not-true, absurd_bool, DumpRecord, has_prop_delta, has_text_delta, Settings, keeps_path, IsNewMergeinfo, KeptRevisions, is_mergeinfo, mergeinfo_name, value_of, is_node, is_copy, has_text, node_path, has_lost_source, property_list_once, AreNewProperties, IsNewProperty, is_whole_file, becomes_plain, IsWrittenCopyNumber, IsNodeAgain, IsReadAgain, path_of, is_short, keeps, Made, PropertyChange, TextChange, Change, KeepsEntries, edits_props, sets_whole_text, sets_whole, AreNewProps, IsNewMade, IsNewChange, keeps_text, Patching, has_known_action, deletes, makes, made_by_kind, copy_path, copied_from, made_of, property_change_of, text_change_of, has_undefined_delta, change_of, is_plain_line, loads_as_written, MakesChange}
use Rattle.std.proofs.Common.{ℕ, false, List, [], ◌∷◌, codes, Some}
use Rattle.dump_history.proofs.again.NodeLines.{value_stays, text_there, props_there, plain_stays, HasNewSource, new_source, short_stays}

-- whether the property's name contains no zero byte
abbrev is_plain_property : Property → Bool
is_plain_property p = not (has_byte 0 p.name)

-- the names of properties don't change
plain_names : (settings : Settings) (kept : KeptRevisions) (ps qs : List Property)
    → AreNewProperties settings kept ps qs
    → list_all is_plain_property qs ≡ list_all is_plain_property ps
plain_names settings kept [] [] all = refl
plain_names settings kept [] (q ∷ qs) all = absurd all
plain_names settings kept (p ∷ ps) [] all = absurd all
plain_names settings kept (p ∷ ps) (q ∷ qs) all =
    λ i. not (has_byte 0 (all.0.0 i)) && plain_names settings kept ps qs all.1 i

-- what is written of a property keeps its name, and has a value if the property had one
pub entries_kept : (settings : Settings) (kept : KeptRevisions) → KeepsEntries (IsNewProperty settings kept)
entries_kept settings kept old new is = (is.0, by_case (is_mergeinfo old) refl is.1)
  where
    by_case : (b : Bool) → is_mergeinfo old ≡ b
        → MatchBool b ((value : List ℕ) × (new.value ≡ Some value) × IsNewMergeinfo settings kept (value_of old) value)
        (new.value ≡ old.value)
        → is_some new.value ≡ is_some old.value
    by_case true tells (value, set, told) = ap (λ (o : Option (List ℕ)). is_some o) set
        ∙ sym (second_true (bytes_eq old.name mergeinfo_name) (is_some old.value) tells)
    by_case false tells same = ap (λ (o : Option (List ℕ)). is_some o) same

-- whether the node makes a change
abbrev pub makes_change : DumpRecord → Bool
makes_change r = has_known_action r && not (has_undefined_delta r)

-- the change of a node that makes one
abbrev pub node_change : Patching → DumpRecord → List Property → Change
node_change patched r ps = record {
  path = path_of (node_path r);
  deletes = deletes r;
  made = made_of r;
  props = property_change_of r ps;
  text = text_change_of patched r;
}

-- a node makes a change, and this is the change
pub change_is : (patched : Patching) (r : DumpRecord) (ps : List Property) (c : Change)
    → change_of patched r ps ≡ Some c
    → (makes_change r ≡ true) × (node_change patched r ps ≡ c)
change_is patched r ps c is = by_case (makes_change r) is
  where
    by_case : (b : Bool) → (if b then Some (node_change patched r ps) else None) ≡ Some c
        → (b ≡ true) × (node_change patched r ps ≡ c)
    by_case true e = (refl, some_once e)
      where
        some_once : {x y : Change} → Some x ≡ Some y → x ≡ y
        some_once same = cc
    by_case false e = cc

-- a change is made at the node's path
pub change_path : (patched : Patching) (r : DumpRecord) (c : Change) → MakesChange patched r c
    → c.path ≡ path_of (node_path r)
change_path patched r c (ps, list, plain, is) = ap (λ (d : Change). d.path) (sym (change_is patched r ps c is).1)

-- a node makes only one change
pub change_once : (patched : Patching) (r : DumpRecord) (c d : Change) → MakesChange patched r c
    → MakesChange patched r d → c ≡ d
change_once patched r c d (ps, list, plain, is) (qs, other, plain_too, also) =
    let same : ps ≡ qs = property_list_once r ps qs list other in
    sym (change_is patched r ps c is).1 ∙ ap (node_change patched r) same ∙ (change_is patched r qs d also).1

module _ (patched : Patching) (settings : Settings) (kept : KeptRevisions) (r s : DumpRecord)
    (same_version : s.version ≡ r.version) (same_node : is_node s ≡ is_node r) (a : IsNodeAgain settings kept r s) where
  action : header_value action_name s.headers ≡ header_value action_name r.headers
  action = value_stays settings kept r s a action_name refl

  kind : header_value node_kind_name s.headers ≡ header_value node_kind_name r.headers
  kind = value_stays settings kept r s a node_kind_name refl

  path : header_value path_name s.headers ≡ header_value path_name r.headers
  path = value_stays settings kept r s a path_name refl

  same_path : node_path s ≡ node_path r
  same_path = ap (λ (o : Option (List ℕ)). unwrap_or o []) path

  -- whether the value of a header is this text
  abbrev tells : Option (List ℕ) → List ℕ → Bool
  tells o value = bytes_eq (unwrap_or o []) value

  same_known : has_known_action s ≡ has_known_action r
  same_known = ap (λ o. list_any (λ word. tells o word)
      (codes "add" ∷ codes "change" ∷ codes "delete" ∷ codes "replace" ∷ [])) action

  same_deleting : deletes s ≡ deletes r
  same_deleting = ap (λ o. tells o (codes "delete") || tells o (codes "replace")) action

  same_makes : makes s ≡ makes r
  same_makes = ap (λ o. tells o (codes "add") || tells o (codes "replace")) action

  same_by_kind : made_by_kind s ≡ made_by_kind r
  same_by_kind = ap (λ o. if tells o (codes "dir") then Some Made.NewDirectory
      else if tells o (codes "file") then Some Made.NewFile else None) kind

  same_delta : has_undefined_delta s ≡ has_undefined_delta r
  same_delta = λ i. not (same_version i == 3)
      && (tells (value_stays settings kept r s a prop_delta_name refl i) (codes "true")
      || tells (value_stays settings kept r s a text_delta_name refl i) (codes "true"))

  same_prop_delta : has_prop_delta s ≡ has_prop_delta r
  same_prop_delta = λ i. same_node i && (same_version i == 3)
      && tells (value_stays settings kept r s a prop_delta_name refl i) (codes "true")

  same_text_delta : has_text_delta s ≡ has_text_delta r
  same_text_delta = λ i. same_node i && (same_version i == 3)
      && tells (value_stays settings kept r s a text_delta_name refl i) (codes "true")

  still_makes : makes_change r ≡ true → makes_change s ≡ true
  still_makes is = rw (same_known, same_delta) is

  still_plain : loads_as_written r a.old ≡ true → loads_as_written s a.new ≡ true
  still_plain is =
      let lines = list_all is_plain_line r.headers in
      let names = list_all is_plain_property a.old in
      let source = is_short (copy_path r) in
      let three = first_true (lines && names && is_short (node_path r)) source is in
      let two = first_true (lines && names) (is_short (node_path r)) three in
      and_from (list_all is_plain_line s.headers && list_all is_plain_property a.new && is_short (node_path s))
      (is_short (copy_path s))
      (and_from (list_all is_plain_line s.headers && list_all is_plain_property a.new) (is_short (node_path s))
      (and_from (list_all is_plain_line s.headers) (list_all is_plain_property a.new)
      (plain_stays settings kept r s a (first_true lines names two))
      (plain_names settings kept a.old a.new a.new_props ∙ second_true lines names two))
      (ap is_short same_path ∙ second_true (lines && names) (is_short (node_path r)) three))
      (short_stays settings kept r s a (second_true (lines && names && is_short (node_path r)) source is))

  -- what a node makes, and what the node that is read again makes

  abbrev IsMadeAgain : Option Made → Option Made → Type 0
  IsMadeAgain old new = IsNewMade settings (IsWrittenCopyNumber settings kept)
      (sets_whole (node_change patched r a.old)) old new

  kept_source : becomes_plain settings r ≡ false → is_copy r ≡ true → keeps settings (path_of (copy_path r)) ≡ true
  kept_source stays copies = keeps_text settings (copy_path r) ∙ by_case (keeps_path settings (copy_path r)) refl
    where
      by_case : (b : Bool) → keeps_path settings (copy_path r) ≡ b → keeps_path settings (copy_path r) ≡ true
      by_case true is = is
      by_case false is =
          let lost : has_lost_source settings r ≡ true = rw (copies, is) refl in
          absurd (absurd_bool (becomes_plain settings r)
          (and_from (has_lost_source settings r) (is_whole_file r) lost (a.whole lost)) stays)

  lost_source : becomes_plain settings r ≡ true → keeps settings (path_of (copy_path r)) ≡ false
  lost_source plain = keeps_text settings (copy_path r)
      ∙ not-true (keeps_path settings (copy_path r))
      (second_true (is_copy r) (not (keeps_path settings (copy_path r)))
      (first_true (has_lost_source settings r) (is_whole_file r) plain))

  -- the new node makes what the old one makes, by its kind
  same_kind_made : (o : Option Made) → made_by_kind r ≡ o → IsMadeAgain o o
  same_kind_made o is = by_case (tells (header_value node_kind_name r.headers) (codes "dir"))
      (tells (header_value node_kind_name r.headers) (codes "file")) is
    where
      by_case : (d f : Bool) → (if d then Some Made.NewDirectory else if f then Some Made.NewFile else None) ≡ o
          → IsMadeAgain o o
      by_case true f e = subst (λ (m : Option Made). IsMadeAgain m m) e tt
      by_case false true e = subst (λ (m : Option Made). IsMadeAgain m m) e tt
      by_case false false e = subst (λ (m : Option Made). IsMadeAgain m m) e tt

  file_made : is_whole_file r ≡ true → made_by_kind s ≡ Some Made.NewFile
  file_made whole =
      let file = first_true (tells (header_value node_kind_name r.headers) (codes "file")) _
      (first_true _ _ whole) in
      let value = (bytes_eq-Decides (unwrap_or (header_value node_kind_name r.headers) []) (codes "file")).0 file in
      same_by_kind ∙ rw value refl

  whole_text : is_whole_file r ≡ true → sets_whole_text (text_change_of patched r) ≡ true
  whole_text whole =
      let file = tells (header_value node_kind_name r.headers) (codes "file") in
      let both = second_true file (has_text r && not (has_text_delta r))
      (first_true (file && (has_text r && not (has_text_delta r))) _ whole) in
      rw (
        first_true (has_text r) (not (has_text_delta r)) both,
        not-true (has_text_delta r) (second_true (has_text r) (not (has_text_delta r)) both),
      ) refl

  whole_change : is_whole_file r ≡ true → sets_whole (node_change patched r a.old) ≡ true
  whole_change whole =
      and_from (sets_whole_text (text_change_of patched r)) (not (edits_props (property_change_of r a.old)))
      (whole_text whole)
      (by_length (has_header property_length_name r.headers))
    where
      replaces : has_prop_delta r ≡ false
      replaces = not-true (has_prop_delta r)
          (second_true (tells (header_value node_kind_name r.headers) (codes "file")
          && (has_text r && not (has_text_delta r))) (not (has_prop_delta r)) whole)

      by_length : (b : Bool) → not (edits_props (if b then
          Some (if has_prop_delta r then PropertyChange.Edited a.old else PropertyChange.Replaced a.old) else None))
          ≡ true
      by_length true = rw replaces refl
      by_length false = refl

  new_made : IsMadeAgain (made_of r) (made_of s)
  new_made = by_makes (makes r) refl
    where
      by_source : (b c : Bool) → becomes_plain settings r ≡ b → is_copy r ≡ c → HasNewSource settings kept r s a b c
          → IsMadeAgain (if c then Some (copied_from r) else made_by_kind r)
          (if is_copy s then Some (copied_from s) else made_by_kind s)
      by_source true true plain copies none =
          let whole = second_true (has_lost_source settings r) (is_whole_file r) plain in
          rw (none, file_made whole) (lost_source plain, whole_change whole)
      by_source true false plain no_copy none =
          absurd (absurd_bool (is_copy r) (first_true (is_copy r) _
          (first_true (has_lost_source settings r) (is_whole_file r) plain)) no_copy)
      by_source false true stays copies (number, n, read, written, again, there, same) =
          rw (there, again, read) (kept_source stays copies, written, ap path_of same)
      by_source false false stays no_copy none =
          rw (none, same_by_kind) (same_kind_made (made_by_kind r) refl)

      by_makes : (b : Bool) → makes r ≡ b → IsMadeAgain (made_of r) (made_of s)
      by_makes true is = rw (same_makes, is)
          (by_source (becomes_plain settings r) (is_copy r) refl refl (new_source settings kept r s a))
      by_makes false is = rw (same_makes, is) tt

  new_props : AreNewProps (IsNewProperty settings kept) (property_change_of r a.old) (property_change_of s a.new)
  new_props = rw (props_there settings kept r s a, same_prop_delta)
      (by_length (has_header property_length_name r.headers) (has_prop_delta r))
    where
      by_length : (b d : Bool) → AreNewProps (IsNewProperty settings kept)
          (if b then Some (if d then PropertyChange.Edited a.old else PropertyChange.Replaced a.old) else None)
          (if b then Some (if d then PropertyChange.Edited a.new else PropertyChange.Replaced a.new) else None)
      by_length true true = a.new_props
      by_length true false = a.new_props
      by_length false d = tt

  same_text : text_change_of patched s ≡ text_change_of patched r
  same_text = λ i. if text_there settings kept r s a i then
      Some (if same_text_delta i then TextChange.Patched (patched (a.text i)) else TextChange.Replaced (a.text i))
      else None

  new_node_change : IsNewChange settings (IsNewProperty settings kept) (IsWrittenCopyNumber settings kept)
      (node_change patched r a.old) (node_change patched s a.new)
  new_node_change = record {
    path = ap path_of same_path;
    deletes = same_deleting;
    made = new_made;
    props = new_props;
    text = same_text;
  }

  -- what is written of a node that makes a change makes the filtered change
  pub makes_new_change : (c : Change) → MakesChange patched r c → (new : Change) × MakesChange patched s new
      × IsNewChange settings (IsNewProperty settings kept) (IsWrittenCopyNumber settings kept) c new
  makes_new_change c (ps, list, plain, is) =
      let same : ps ≡ a.old = property_list_once r ps a.old list a.old_list in
      let made = change_is patched r a.old c (sym (ap (change_of patched r) same) ∙ is) in
      let again : change_of patched s a.new ≡ Some (node_change patched s a.new) = rw (still_makes made.0) refl in (
        node_change patched s a.new,
        (a.new, a.new_list, still_plain (sym (ap (loads_as_written r) same) ∙ plain), again),
        subst (λ (old : Change). IsNewChange settings (IsNewProperty settings kept)
            (IsWrittenCopyNumber settings kept) old (node_change patched s a.new)) made.1 new_node_change,
      )

-- what is written of a kept node is read again as a node that makes the filtered change
pub node_makes_new_change : (patched : Patching) (settings : Settings) (kept : KeptRevisions) (r : DumpRecord)
    (after : List DumpRecord) (front : List ℕ) (s : DumpRecord) → IsReadAgain settings kept r after front s
    → is_node r ≡ true → (c : Change) → MakesChange patched r c
    → (new : Change) × MakesChange patched s new
    × IsNewChange settings (IsNewProperty settings kept) (IsWrittenCopyNumber settings kept) c new
node_makes_new_change patched settings kept r after front s read node c change =
    makes_new_change patched settings kept r s read.version read.node (read.node_again node) c change
