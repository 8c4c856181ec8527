-- Worked values of the definitions, computed by the kernel.
use Rattle.dump_digest.proofs.Prelude.{◌≡◌, ℕ, refl, ap, sym, ◌∙◌, true, false, inl, inr, List, [], ◌∷◌, Some, None, Ok, codes, unwrap_or, lit<, md5_name, sha1_name, Property, IsPropertyBlock, has_deletes, property_block_once, no_changes, Header, Include, Settings, DumpRecord, is_revision_record, is_node, node_path, is_kept_node, is_copy, has_lost_source, has_text, has_whole_text, is_checked_text, takes_deletes, HasPropertyList, HasPropertyBlock, is_mergeinfo, value_of, HasBadProperties, DiffersFromDigest, HasBadMd5, HasBadSha1, IsMergeinfoValueOf, HasBadMergeinfo}
use Rattle.std.proofs.Common.{is_ok}
use Rattle.hex.specs.Hex.{decode_sized, decode_pairs}
use Rattle.dump_rules.specs.PlainSettings.{plain_settings}

-- a digest header has digits of either case, as many as the digest needs
abbrev abc_md5 : List ℕ
abc_md5 =
    0x90 ∷ 0x01 ∷ 0x50 ∷ 0x98 ∷ 0x3C ∷ 0xD2 ∷ 0x4F ∷ 0xB0 ∷ 0xD6 ∷ 0x96 ∷ 0x3F ∷ 0x7D ∷ 0x28 ∷ 0xE1 ∷ 0x7F ∷ 0x72 ∷ []

upper_case : decode_sized (codes "900150983CD24FB0D6963F7D28E17F72") 16 ≡ Ok abc_md5
unfolding decode_pairs
upper_case = refl

lower_case : decode_sized (codes "900150983cd24fb0d6963f7d28e17f72") 16 ≡ Ok abc_md5
unfolding decode_pairs
lower_case = refl

digits_31 : is_ok (decode_sized (codes "900150983cd24fb0d6963f7d28e17f7") 16) ≡ false
unfolding decode_pairs
digits_31 = refl

digits_40 : is_ok (decode_sized (codes "a9993e364706816aba3e25717850c26c9cd0d89d") 16) ≡ false
unfolding decode_pairs
digits_40 = refl

no_digit : is_ok (decode_sized (codes "900150983cd24fb0d6963f7d28e17f7x") 16) ≡ false
unfolding decode_pairs
no_digit = refl

-- what counts as a checked text

abbrev including_trunk : Settings
including_trunk = plain_settings Include (codes "trunk" ∷ [])

abbrev header : List ℕ → List ℕ → Header
header name value = record { name = name; value = value }

abbrev file : List ℕ → List ℕ → DumpRecord
file path length_header = record {
  place = 0;
  version = 2;
  headers =
      header (codes "Node-path") path ∷ header length_header (codes "3")
      ∷ header (codes "Text-content-md5") (codes "900150983cd24fb0d6963f7d28e17f72")
      ∷ [];
  props = [];
  text = codes "abc";
}

counted : is_checked_text including_trunk (file (codes "trunk/f") (codes "Text-content-length")) ≡ true
counted = refl

no_text_length : is_checked_text including_trunk (file (codes "trunk/f") (codes "X-length")) ≡ false
no_text_length = refl

not_kept : is_checked_text including_trunk (file (codes "other/f") (codes "Text-content-length")) ≡ false
not_kept = refl

-- what is read of a record

abbrev counted_file : DumpRecord
counted_file = file (codes "trunk/f") (codes "Text-content-length")

abbrev copy : List ℕ → DumpRecord
copy source = record {
  place = 0;
  version = 2;
  headers = header (codes "Node-path") (codes "trunk/f") ∷ header (codes "Node-copyfrom-path") source ∷ [];
  props = [];
  text = [];
}

no_revision : is_revision_record counted_file ≡ false
no_revision = refl

a_node : is_node counted_file ≡ true
a_node = refl

its_path : node_path counted_file ≡ codes "trunk/f"
its_path = refl

kept : is_kept_node including_trunk counted_file ≡ true
kept = refl

a_text : has_text counted_file ≡ true
a_text = refl

its_whole_text : has_whole_text counted_file ≡ true
its_whole_text = refl

-- a delta, under version 3 and under version 2
abbrev delta : ℕ → DumpRecord
delta version = record counted_file {
  version = version;
  headers = header (codes "Text-delta") (codes "true") ∷ counted_file.headers;
}

no_whole_text : has_whole_text (delta 3) ≡ false
no_whole_text = refl

no_delta : has_whole_text (delta 2) ≡ true
no_delta = refl

delta_not_counted : is_checked_text including_trunk (delta 3) ≡ false
delta_not_counted = refl

-- where properties may be deleted

node_3 : takes_deletes (delta 3) ≡ true
node_3 = refl

node_2 : takes_deletes (delta 2) ≡ false
node_2 = refl

revision_3 : takes_deletes (record counted_file {
  version = 3;
  headers = header (codes "Revision-number") (codes "1") ∷ [];
}) ≡ false
revision_3 = refl

abbrev deleting : ℕ → DumpRecord
deleting version = record counted_file { version = version; props = codes "D 7\nsvn:log\nPROPS-END\n" }

abbrev unlogged : List Property
unlogged = record { name = codes "svn:log"; value = None } ∷ []

unlogged_block : IsPropertyBlock (codes "D 7\nsvn:log\nPROPS-END\n") unlogged
unlogged_block = inr (codes "D 7\nsvn:log\n", codes "PROPS-END\n", refl, inr (refl, (codes "7", refl, refl)), refl)

deleted_in_3 : HasPropertyList (deleting 3) unlogged
deleted_in_3 = (unlogged_block, λ deletes. refl)

readable_in_3 : HasPropertyBlock (deleting 3)
readable_in_3 = (unlogged, deleted_in_3)

unreadable_in_2 : ¬ HasPropertyBlock (deleting 2)
unreadable_in_2 (ps, (block, deletes)) =
    let bad : false ≡ true = deletes (sym (ap has_deletes
    (property_block_once _ unlogged ps unlogged_block block))) in cc

a_copy : is_copy (copy (codes "trunk/e")) ≡ true
a_copy = refl

no_copy : is_copy counted_file ≡ false
no_copy = refl

kept_source : has_lost_source including_trunk (copy (codes "trunk/e")) ≡ false
kept_source = refl

lost_source : has_lost_source including_trunk (copy (codes "other/e")) ≡ true
lost_source = refl

abbrev merged : Property
merged = record { name = codes "svn:mergeinfo"; value = Some (codes "x") }

tells_merges : is_mergeinfo merged ≡ true
tells_merges = refl

tells_no_merges : is_mergeinfo (record { name = codes "svn:mergeInfo"; value = Some (codes "x") }) ≡ false
tells_no_merges = refl

abbrev unmerged : Property
unmerged = record { name = codes "svn:mergeinfo"; value = None }

-- deleted mergeinfo is none
deleted_merges : is_mergeinfo unmerged ≡ false
deleted_merges = refl

its_bytes : value_of merged ≡ codes "x"
its_bytes = refl

no_bytes : value_of unmerged ≡ []
no_bytes = refl

-- the faults of a content

no : ¬ (false ≡ true)
no e = cc

abbrev unended : List ℕ → DumpRecord
unended path = record {
  place = 0;
  version = 2;
  headers = header (codes "Node-path") path ∷ [];
  props = codes "PROPS-END";
  text = [];
}

bad_properties : HasBadProperties including_trunk (unended (codes "trunk/f"))
bad_properties = (refl, λ (ps, (block, deletes)). no_changes (ps, block))

-- those of a node that isn't kept are not looked at
passed_properties : ¬ HasBadProperties including_trunk (unended (codes "other/f"))
passed_properties (e, _) = no e

abbrev digested : List ℕ → List ℕ → DumpRecord
digested name digits = record {
  place = 0;
  version = 2;
  headers =
      header (codes "Node-path") (codes "trunk/f") ∷ header (codes "Text-content-length") (codes "3")
      ∷ header name digits ∷ [];
  props = [];
  text = codes "abc";
}

-- digits that are no digest differ from each digest
any_differs : (name given digest : List ℕ) (size : ℕ) → is_ok (decode_sized given size) ≡ false
    → (digits : List ℕ) → Some given ≡ Some digits → ¬ (decode_sized digits size ≡ Ok digest)
any_differs name given digest size bad digits e is =
    no (sym bad ∙ ap (λ o. is_ok (decode_sized (unwrap_or o []) size)) e ∙ ap is_ok is)

short_differs : DiffersFromDigest md5_name (digested md5_name (codes "900150983cd24fb0d6963f7d28e17f7")) 16 abc_md5
short_differs = (refl, any_differs md5_name (codes "900150983cd24fb0d6963f7d28e17f7") abc_md5 16 digits_31)

upper_case_is_the_digest :
    ¬ DiffersFromDigest md5_name (digested md5_name (codes "900150983CD24FB0D6963F7D28E17F72")) 16 abc_md5
upper_case_is_the_digest (_, differs) = differs (codes "900150983CD24FB0D6963F7D28E17F72") refl upper_case

bad_md5 : HasBadMd5 including_trunk (digested md5_name (codes "900150983cd24fb0d6963f7d28e17f7"))
bad_md5 = (refl, refl, (refl, any_differs md5_name (codes "900150983cd24fb0d6963f7d28e17f7") _ 16 digits_31))

no_sha1_digits : is_ok (decode_sized (codes "a9") 20) ≡ false
unfolding decode_pairs
no_sha1_digits = refl

bad_sha1 : HasBadSha1 including_trunk (digested sha1_name (codes "a9"))
bad_sha1 = (refl, refl, (refl, any_differs sha1_name (codes "a9") _ 20 no_sha1_digits))

no_sha1 : ¬ HasBadSha1 including_trunk (digested md5_name (codes "a9"))
no_sha1 (_, _, (e, _)) = no e

abbrev merging : List ℕ → DumpRecord
merging path = record {
  place = 0;
  version = 2;
  headers = header (codes "Node-path") path ∷ [];
  props = codes "K 13\nsvn:mergeinfo\nV 1\nx\nPROPS-END\n";
  text = [];
}

abbrev merged_entry : List ℕ
merged_entry = codes "K 13\nsvn:mergeinfo\nV 1\nx\n"

no_deletes : false ≡ true → false ≡ true
no_deletes e = e

its_value : IsMergeinfoValueOf including_trunk (merging (codes "trunk/f")) (codes "x")
its_value = (
  refl,
  merged ∷ [],
  (
    inr (
      merged_entry,
      codes "PROPS-END\n",
      refl,
      inl (codes "x", refl, (codes "13", codes "1", refl, refl, refl)),
      refl,
    ),
    no_deletes,
  ),
  merged,
  (0, lit< tt, refl),
  refl,
  refl,
)

passed_value : ¬ HasBadMergeinfo including_trunk (merging (codes "other/f"))
passed_value (_, (e, _, _, _, _, _, _), _) = no e
