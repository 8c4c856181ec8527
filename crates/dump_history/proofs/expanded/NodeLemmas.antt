-- The nodes that are written in place of others are records of a dump, and make their changes.
use Rattle.dump_history.proofs.Prelude.{◌≡◌, ◌+◌, ◌<◌, ◌^◌, ◌==◌, Bool, true, not, ◌&&◌, ◌++◌, length, Option, None, refl, sym, inl, arith, list_all, spelled_number, has_byte, Property, property_block_text, first_true, second_true, not-true, absurd_bool, number_of-spelled, equals_itself, subst, DumpRecord, record_text, is_lawful, BeginsWithRecord, HasPropertyList, is_short, Patching, MakesChange, change_of, loads_as_written}
use Rattle.std.proofs.Common.{ℕ, false, List, [], Some}
use Rattle.std.proofs.Math.Bool.{and-false}
use Rattle.std.proofs.lemmas.Bool.{ltb-true}
use Rattle.dump_text.specs.PropertyList.{has_deletes, IsPropertyBlock}
use Rattle.dump_text.proofs.WrittenLemmas.{short_block}
use Rattle.dump_filter.proofs.again.LineChanges.{spelled_line}
use Rattle.dump_history.specs.WrittenNodes.{NodeKind, WrittenNode, making_word, node_lines, node_record, is_plain_value, is_plain_option, is_plain_path, are_plain_entries, is_readable, can_be_written}
use Rattle.dump_history.specs.steps.WrittenNodes.{written_change, WrittenNodesAreRecords, WrittenNodesMakeChanges}
use Rattle.dump_history.proofs.again.RecordLines.{spelled_plain}

-- a value without LF and zero bytes
record IsPlain (value : List ℕ) : Type 0 where
  pub no_lf : has_byte 10 value ≡ false
  pub no_zero : has_byte 0 value ≡ false

plain : (value : List ℕ) → is_plain_value value ≡ true → IsPlain value
plain value is = record {
  no_lf = not-true (has_byte 10 value) (first_true (not (has_byte 10 value)) (not (has_byte 0 value)) is);
  no_zero = not-true (has_byte 0 value) (second_true (not (has_byte 10 value)) (not (has_byte 0 value)) is);
}

-- a path that is read as it is
record IsPlainPath (path : List ℕ) : Type 0 where
  pub value : IsPlain path
  pub short : is_short path ≡ true

plain_path : (path : List ℕ) → is_plain_path path ≡ true → IsPlainPath path
plain_path path is = record {
  value = plain path (first_true (is_plain_value path) (is_short path) is);
  short = second_true (is_plain_value path) (is_short path) is;
}

-- a number that is read again
record IsRead (n : ℕ) : Type 0 where
  pub small : n < 10 ^ 18
  pub value : IsPlain (spelled_number n)

read_small : (n : ℕ) → n < 10 ^ 18 → IsRead n
read_small n small = record {
  small = small;
  value = record { no_lf = spelled_line n small; no_zero = spelled_plain n small };
}

read : (n : ℕ) → is_readable n ≡ true → IsRead n
read n is = read_small n (ltb-true n (10 ^ 18) is)

-- entries that set properties
record AreSettings (entries : List Property) : Type 0 where
  pub names : list_all (λ (p : Property). not (has_byte 0 p.name)) entries ≡ true
  pub set : has_deletes entries ≡ false

settings_of : (entries : List Property) → are_plain_entries entries ≡ true → AreSettings entries
settings_of entries is =
    let names = list_all (λ (p : Property). not (has_byte 0 p.name)) entries in record {
      names = first_true names (not (has_deletes entries)) is;
      set = not-true (has_deletes entries) (second_true names (not (has_deletes entries)) is);
    }

-- the conditions for each kind of node, one by one

copy_parts : (kind : NodeKind) (number : ℕ) (source path : List ℕ)
    → can_be_written (WrittenNode.Copy kind number source path) ≡ true
    → IsPlainPath path × IsPlainPath source × IsRead number
copy_parts kind number source path is =
    let two = first_true (is_plain_path path && is_plain_path source) (is_readable number) is in (
      plain_path path (first_true (is_plain_path path) (is_plain_path source) two),
      plain_path source (second_true (is_plain_path path) (is_plain_path source) two),
      read number (second_true (is_plain_path path && is_plain_path source) (is_readable number) is),
    )

directory_parts : (replaces : Bool) (path : List ℕ) (entries : List Property)
    → can_be_written (WrittenNode.Directory replaces path entries) ≡ true
    → IsPlainPath path × AreSettings entries × IsRead (length (property_block_text entries))
directory_parts replaces path entries is =
    let size = is_readable (length (property_block_text entries)) in
    let two = first_true (is_plain_path path && are_plain_entries entries) size is in (
      plain_path path (first_true (is_plain_path path) (are_plain_entries entries) two),
      settings_of entries (second_true (is_plain_path path) (are_plain_entries entries) two),
      read (length (property_block_text entries))
          (second_true (is_plain_path path && are_plain_entries entries) size is),
    )

-- the conditions for a file
record IsPlainFile (path : List ℕ) (entries : List Property) (text : List ℕ) (md5 sha1 : Option (List ℕ))
    : Type 0 where
  pub path_is : IsPlainPath path
  pub settings : AreSettings entries
  pub sum : IsRead (length (property_block_text entries) + length text)
  pub block : IsRead (length (property_block_text entries))
  pub size : IsRead (length text)
  pub md5_plain : is_plain_option md5 ≡ true
  pub sha1_plain : is_plain_option sha1 ≡ true

file_parts : (replaces : Bool) (path : List ℕ) (entries : List Property) (text : List ℕ) (md5 sha1 : Option (List ℕ))
    → can_be_written (WrittenNode.File replaces path entries text md5 sha1) ≡ true
    → IsPlainFile path entries text md5 sha1
file_parts replaces path entries text md5 sha1 is =
    let size = is_readable (length (property_block_text entries) + length text) in
    let two = is_plain_path path && are_plain_entries entries in
    let four = first_true (two && size && is_plain_option md5) (is_plain_option sha1) is in
    let three = first_true (two && size) (is_plain_option md5) four in
    let both = first_true two size three in
    let sum = read (length (property_block_text entries) + length text) (second_true two size three) in
    let small = sum.small in
    record {
      path_is = plain_path path (first_true (is_plain_path path) (are_plain_entries entries) both);
      settings = settings_of entries (second_true (is_plain_path path) (are_plain_entries entries) both);
      sum = sum;
      block = read_small (length (property_block_text entries)) (omega (arith, small));
      size = read_small (length text) (omega (arith, small));
      md5_plain = second_true (two && size) (is_plain_option md5) four;
      sha1_plain = second_true (two && size && is_plain_option md5) (is_plain_option sha1) is;
    }

-- a number that isn't the first one
later : (number : ℕ) → 0 < number → (number == 0) ≡ false
later number above = grind (arith, above)

-- each node is a record of the dump

module _ (number place version : ℕ) (after : List ℕ) (above : 0 < number) where
  abbrev IsRecord : WrittenNode → Type 0
  IsRecord w = BeginsWithRecord number (record_text (node_record place version w) ++ after)
      (node_record place version w) after

  deletion_record : (path : List ℕ) → IsPlainPath path → IsRecord (WrittenNode.Deletion path)
  deletion_record path p = record {
    block = rw p.value.no_lf refl;
    lawful = rw (later number above) refl;
    props_fit = refl;
    text_fits = refl;
    spelled = refl;
  }

  copy_record : (kind : NodeKind) (n : ℕ) (source path : List ℕ) → IsPlainPath path → IsPlainPath source → IsRead n
      → IsRecord (WrittenNode.Copy kind n source path)
  copy_record NodeKind.Dir n source path p s r = record {
    block = rw (p.value.no_lf, s.value.no_lf, r.value.no_lf) refl;
    lawful = rw (later number above, number_of-spelled n r.small) refl;
    props_fit = refl;
    text_fits = refl;
    spelled = refl;
  }
  copy_record NodeKind.File n source path p s r = record {
    block = rw (p.value.no_lf, s.value.no_lf, r.value.no_lf) refl;
    lawful = rw (later number above, number_of-spelled n r.small) refl;
    props_fit = refl;
    text_fits = refl;
    spelled = refl;
  }

  -- a length without a second one is the sum
  alone_is : (n : ℕ) → (n == n + 0) ≡ true
  alone_is n = grind arith

  making_plain : (replaces : Bool) → has_byte 10 (making_word replaces) ≡ false
  making_plain true = refl
  making_plain false = refl

  directory_record : (replaces : Bool) (path : List ℕ) (entries : List Property) → IsPlainPath path
      → IsRead (length (property_block_text entries)) → IsRecord (WrittenNode.Directory replaces path entries)
  directory_record replaces path entries p r = record {
    block = rw (p.value.no_lf, making_plain replaces, r.value.no_lf) refl;
    lawful = rw (
      later number above,
      number_of-spelled (length (property_block_text entries)) r.small,
      alone_is (length (property_block_text entries)),
    ) refl;
    props_fit = rw (number_of-spelled (length (property_block_text entries)) r.small) refl;
    text_fits = refl;
    spelled = refl;
  }

  file_lawful : (replaces : Bool) (path : List ℕ) (entries : List Property) (text : List ℕ) (md5 sha1 : Option (List ℕ))
      → IsPlainFile path entries text md5 sha1
      → is_lawful number (node_lines (WrittenNode.File replaces path entries text md5 sha1)) ≡ true
  file_lawful replaces path entries text None None f =
      rw (
        later number above,
        number_of-spelled _ f.block.small,
        number_of-spelled _ f.size.small,
        number_of-spelled _ f.sum.small,
        equals_itself (length (property_block_text entries) + length text),
      ) refl
  file_lawful replaces path entries text (Some md5) None f =
      rw (
        later number above,
        number_of-spelled _ f.block.small,
        number_of-spelled _ f.size.small,
        number_of-spelled _ f.sum.small,
        equals_itself (length (property_block_text entries) + length text),
      ) refl
  file_lawful replaces path entries text None (Some sha1) f =
      rw (
        later number above,
        number_of-spelled _ f.block.small,
        number_of-spelled _ f.size.small,
        number_of-spelled _ f.sum.small,
        equals_itself (length (property_block_text entries) + length text),
      ) refl
  file_lawful replaces path entries text (Some md5) (Some sha1) f =
      rw (
        later number above,
        number_of-spelled _ f.block.small,
        number_of-spelled _ f.size.small,
        number_of-spelled _ f.sum.small,
        equals_itself (length (property_block_text entries) + length text),
      ) refl

  file_record : (replaces : Bool) (path : List ℕ) (entries : List Property) (text : List ℕ) (md5 sha1 : Option (List ℕ))
      → IsPlainFile path entries text md5 sha1 → IsRecord (WrittenNode.File replaces path entries text md5 sha1)
  file_record replaces path entries text None None f = record {
    block = rw (
      f.path_is.value.no_lf,
      making_plain replaces,
      f.block.value.no_lf,
      f.size.value.no_lf,
      f.sum.value.no_lf,
    ) refl;
    lawful = file_lawful replaces path entries text None None f;
    props_fit = rw (number_of-spelled _ f.block.small) refl;
    text_fits = rw (number_of-spelled _ f.size.small) refl;
    spelled = refl;
  }
  file_record replaces path entries text (Some md5) None f = record {
    block = rw (
      f.path_is.value.no_lf,
      making_plain replaces,
      f.block.value.no_lf,
      f.size.value.no_lf,
      (plain md5 f.md5_plain).no_lf,
      f.sum.value.no_lf,
    ) refl;
    lawful = file_lawful replaces path entries text (Some md5) None f;
    props_fit = rw (number_of-spelled _ f.block.small) refl;
    text_fits = rw (number_of-spelled _ f.size.small) refl;
    spelled = refl;
  }
  file_record replaces path entries text None (Some sha1) f = record {
    block = rw (
      f.path_is.value.no_lf,
      making_plain replaces,
      f.block.value.no_lf,
      f.size.value.no_lf,
      (plain sha1 f.sha1_plain).no_lf,
      f.sum.value.no_lf,
    ) refl;
    lawful = file_lawful replaces path entries text None (Some sha1) f;
    props_fit = rw (number_of-spelled _ f.block.small) refl;
    text_fits = rw (number_of-spelled _ f.size.small) refl;
    spelled = refl;
  }
  file_record replaces path entries text (Some md5) (Some sha1) f = record {
    block = rw (
      f.path_is.value.no_lf,
      making_plain replaces,
      f.block.value.no_lf,
      f.size.value.no_lf,
      (plain md5 f.md5_plain).no_lf,
      (plain sha1 f.sha1_plain).no_lf,
      f.sum.value.no_lf,
    ) refl;
    lawful = file_lawful replaces path entries text (Some md5) (Some sha1) f;
    props_fit = rw (number_of-spelled _ f.block.small) refl;
    text_fits = rw (number_of-spelled _ f.size.small) refl;
    spelled = refl;
  }

pub written_nodes_are_records : WrittenNodesAreRecords
written_nodes_are_records (WrittenNode.Deletion path) number place version after can above =
    deletion_record number place version after above path (plain_path path can)
written_nodes_are_records (WrittenNode.Copy kind n source path) number place version after can above =
    let (p, s, r) = copy_parts kind n source path can in
    copy_record number place version after above kind n source path p s r
written_nodes_are_records (WrittenNode.Directory replaces path entries) number place version after can above =
    let (p, s, r) = directory_parts replaces path entries can in
    directory_record number place version after above replaces path entries p r
written_nodes_are_records (WrittenNode.File replaces path entries text md5 sha1) number place version after can above =
    file_record number place version after above replaces path entries text md5 sha1
    (file_parts replaces path entries text md5 sha1 can)

-- each node makes its change

none_set : (r : DumpRecord) → r.props ≡ [] → HasPropertyList r []
none_set r empty = (inl (empty, refl), λ deletes. cc)

block_set : (r : DumpRecord) (entries : List Property) → r.props ≡ property_block_text entries
    → length (property_block_text entries) < 10 ^ 18 → has_deletes entries ≡ false → HasPropertyList r entries
block_set r entries is small set = (
  subst (λ (t : List ℕ). IsPropertyBlock t entries) (sym is) (short_block entries small),
  λ deletes. absurd (absurd_bool (has_deletes entries) deletes set),
)

module _ (patched : Patching) (place version : ℕ) where
  abbrev Makes : WrittenNode → Type 0
  Makes w = MakesChange patched (node_record place version w) (written_change w)

  deletion_makes : (path : List ℕ) → IsPlainPath path → Makes (WrittenNode.Deletion path)
  deletion_makes path p = (
    [],
    none_set (node_record place version (WrittenNode.Deletion path)) refl,
    rw (p.value.no_zero, p.short) refl,
    rw (and-false (not (version == 3))) refl,
  )

  copy_makes : (kind : NodeKind) (n : ℕ) (source path : List ℕ) → IsPlainPath path → IsPlainPath source → IsRead n
      → Makes (WrittenNode.Copy kind n source path)
  copy_makes NodeKind.Dir n source path p s r = (
    [],
    none_set (node_record place version (WrittenNode.Copy NodeKind.Dir n source path)) refl,
    rw (p.value.no_zero, s.value.no_zero, r.value.no_zero, p.short, s.short) refl,
    rw (and-false (not (version == 3)), number_of-spelled n r.small) refl,
  )
  copy_makes NodeKind.File n source path p s r = (
    [],
    none_set (node_record place version (WrittenNode.Copy NodeKind.File n source path)) refl,
    rw (p.value.no_zero, s.value.no_zero, r.value.no_zero, p.short, s.short) refl,
    rw (and-false (not (version == 3)), number_of-spelled n r.small) refl,
  )

  making_no_zero : (replaces : Bool) → has_byte 0 (making_word replaces) ≡ false
  making_no_zero true = refl
  making_no_zero false = refl

  directory_makes : (replaces : Bool) (path : List ℕ) (entries : List Property) → IsPlainPath path → AreSettings entries
      → IsRead (length (property_block_text entries)) → Makes (WrittenNode.Directory replaces path entries)
  directory_makes true path entries p s r = (
    entries,
    block_set (node_record place version (WrittenNode.Directory true path entries)) entries refl r.small s.set,
    rw (p.value.no_zero, r.value.no_zero, s.names, p.short) refl,
    rw (and-false (not (version == 3)), and-false (version == 3)) refl,
  )
  directory_makes false path entries p s r = (
    entries,
    block_set (node_record place version (WrittenNode.Directory false path entries)) entries refl r.small s.set,
    rw (p.value.no_zero, r.value.no_zero, s.names, p.short) refl,
    rw (and-false (not (version == 3)), and-false (version == 3)) refl,
  )

  file_plain : (replaces : Bool) (path : List ℕ) (entries : List Property) (text : List ℕ) (md5 sha1 : Option (List ℕ))
      → IsPlainFile path entries text md5 sha1
      → loads_as_written (node_record place version (WrittenNode.File replaces path entries text md5 sha1)) entries ≡ true
  file_plain replaces path entries text None None f =
      rw (
        f.path_is.value.no_zero,
        making_no_zero replaces,
        f.block.value.no_zero,
        f.size.value.no_zero,
        f.sum.value.no_zero,
        f.settings.names,
        f.path_is.short,
      ) refl
  file_plain replaces path entries text (Some md5) None f =
      rw (
        f.path_is.value.no_zero,
        making_no_zero replaces,
        f.block.value.no_zero,
        f.size.value.no_zero,
        (plain md5 f.md5_plain).no_zero,
        f.sum.value.no_zero,
        f.settings.names,
        f.path_is.short,
      ) refl
  file_plain replaces path entries text None (Some sha1) f =
      rw (
        f.path_is.value.no_zero,
        making_no_zero replaces,
        f.block.value.no_zero,
        f.size.value.no_zero,
        (plain sha1 f.sha1_plain).no_zero,
        f.sum.value.no_zero,
        f.settings.names,
        f.path_is.short,
      ) refl
  file_plain replaces path entries text (Some md5) (Some sha1) f =
      rw (
        f.path_is.value.no_zero,
        making_no_zero replaces,
        f.block.value.no_zero,
        f.size.value.no_zero,
        (plain md5 f.md5_plain).no_zero,
        (plain sha1 f.sha1_plain).no_zero,
        f.sum.value.no_zero,
        f.settings.names,
        f.path_is.short,
      ) refl

  file_change : (replaces : Bool) (path : List ℕ) (entries : List Property) (text : List ℕ) (md5 sha1 : Option (List ℕ))
      → change_of patched (node_record place version (WrittenNode.File replaces path entries text md5 sha1)) entries
      ≡ Some (written_change (WrittenNode.File replaces path entries text md5 sha1))
  file_change true path entries text None None =
      rw (and-false (not (version == 3)), and-false (version == 3)) refl
  file_change true path entries text (Some md5) None =
      rw (and-false (not (version == 3)), and-false (version == 3)) refl
  file_change true path entries text None (Some sha1) =
      rw (and-false (not (version == 3)), and-false (version == 3)) refl
  file_change true path entries text (Some md5) (Some sha1) =
      rw (and-false (not (version == 3)), and-false (version == 3)) refl
  file_change false path entries text None None =
      rw (and-false (not (version == 3)), and-false (version == 3)) refl
  file_change false path entries text (Some md5) None =
      rw (and-false (not (version == 3)), and-false (version == 3)) refl
  file_change false path entries text None (Some sha1) =
      rw (and-false (not (version == 3)), and-false (version == 3)) refl
  file_change false path entries text (Some md5) (Some sha1) =
      rw (and-false (not (version == 3)), and-false (version == 3)) refl

  file_makes : (replaces : Bool) (path : List ℕ) (entries : List Property) (text : List ℕ) (md5 sha1 : Option (List ℕ))
      → IsPlainFile path entries text md5 sha1 → Makes (WrittenNode.File replaces path entries text md5 sha1)
  file_makes replaces path entries text md5 sha1 f = (
    entries,
    block_set (node_record place version (WrittenNode.File replaces path entries text md5 sha1)) entries refl
        f.block.small f.settings.set,
    file_plain replaces path entries text md5 sha1 f,
    file_change replaces path entries text md5 sha1,
  )

pub written_nodes_make_changes : WrittenNodesMakeChanges
written_nodes_make_changes patched (WrittenNode.Deletion path) place version can =
    deletion_makes patched place version path (plain_path path can)
written_nodes_make_changes patched (WrittenNode.Copy kind n source path) place version can =
    let (p, s, r) = copy_parts kind n source path can in
    copy_makes patched place version kind n source path p s r
written_nodes_make_changes patched (WrittenNode.Directory replaces path entries) place version can =
    let (p, s, r) = directory_parts replaces path entries can in
    directory_makes patched place version replaces path entries p s r
written_nodes_make_changes patched (WrittenNode.File replaces path entries text md5 sha1) place version can =
    file_makes patched place version replaces path entries text md5 sha1
    (file_parts replaces path entries text md5 sha1 can)
