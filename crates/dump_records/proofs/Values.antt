-- Examples for the definitions; the checker computes and proves them.
use Rattle.dump_records.proofs.Prelude.{◌≡◌, ℕ, refl, ap, true, false, List, [], ◌∷◌, ◌++◌, length, Some, None, codes, inr, arith, lit<, ◌∙◌, Header, BeginsWithBlock, block_some, header_number, header_length, property_length, text_length, version_from, says_true, is_one_alone, has_bad_kind, is_read_version, has_bad_version, has_bad_number, has_bad_lengths, kind_of, DumpRecord, record_text, is_delta, has_text_delta, has_prop_delta, is_lawful, BeginsWithRecord, HasBlockWith, HoldsOfText, IsCutFault, Ending, line_feeds, IsCutInto, HaveVersions, HasEnding, BeginsWithRecords, HasRecords, EndsAfter, IsRecordOf}
use Rattle.dump_text.specs.declared.fault.FaultKind.TheVariants as faults
use Rattle.dump_records.specs.declared.kind.RecordKind.TheVariants as kinds
use Rattle.dump_records.proofs.PartLemmas.{no_block}

abbrev header : List ℕ → List ℕ → Header
header name value = record { name = name; value = value }

abbrev versioned : List ℕ → List Header
versioned number = header (codes "SVN-fs-dump-format-version") number ∷ []

abbrev version : List Header
version = versioned (codes "2")

abbrev uuid : List Header
uuid = header (codes "UUID") (codes "7bf7a5ef") ∷ []

abbrev revision : List ℕ → List Header
revision number = header (codes "Revision-number") number ∷ []

abbrev node : List Header
node = header (codes "Node-path") (codes "trunk/f") ∷ []

abbrev lengths : List ℕ → List ℕ → List ℕ → List Header
lengths props text content =
    header (codes "Prop-content-length") props ∷ header (codes "Text-content-length") text
    ∷ header (codes "Content-length") content ∷ []

abbrev file : List Header
file = node ++ lengths (codes "10") (codes "3") (codes "13")

-- headerRules

of_a_version : kind_of version ≡ kinds.Version
of_a_version = refl

of_a_uuid : kind_of uuid ≡ kinds.Uuid
of_a_uuid = refl

of_a_revision : kind_of (revision (codes "7")) ≡ kinds.Revision
of_a_revision = refl

of_a_node : kind_of file ≡ kinds.Node
of_a_node = refl

seven : header_number (codes "Revision-number") (revision (codes "007")) ≡ Some 7
seven = refl

no_number : header_number (codes "Revision-number") (revision (codes "x")) ≡ None
no_number = refl

missing_number : header_number (codes "Revision-number") file ≡ None
missing_number = refl

of_the_properties : property_length file ≡ 10
of_the_properties = refl

of_the_text : text_length file ≡ 3
of_the_text = refl

of_all : header_length (codes "Content-length") file ≡ 13
of_all = refl

missing_length : text_length version ≡ 0
missing_length = refl

from_a_version_record : version_from 3 version ≡ 2
from_a_version_record = refl

from_what_was_before : version_from 3 file ≡ 3
from_what_was_before = refl

true_is_said : says_true (codes "Text-delta") (header (codes "Text-delta") (codes "true") ∷ []) ≡ true
true_is_said = refl

-- only lower case counts
capital_true : says_true (codes "Text-delta") (header (codes "Text-delta") (codes "True") ∷ []) ≡ false
capital_true = refl

true_of_another_name : says_true (codes "Text-delta") (header (codes "Prop-delta") (codes "true") ∷ []) ≡ false
true_of_another_name = refl

alone : is_one_alone true false ≡ true
alone = refl

together : is_one_alone true true ≡ false
together = refl

one_deciding_name : has_bad_kind file ≡ false
one_deciding_name = refl

no_deciding_name : has_bad_kind (header (codes "Note") [] ∷ []) ≡ true
no_deciding_name = refl

two_deciding_names : has_bad_kind (version ++ uuid) ≡ true
two_deciding_names = refl

half_a_copy : has_bad_kind (node ++ header (codes "Node-copyfrom-rev") (codes "1") ∷ []) ≡ true
half_a_copy = refl

-- a copyfrom header alone is a fault only in a node
half_a_copy_elsewhere : has_bad_kind (revision (codes "7") ++ header (codes "Node-copyfrom-rev") (codes "1") ∷ [])
    ≡ false
half_a_copy_elsewhere = refl

first_is_a_version : has_bad_version 0 version ≡ false
first_is_a_version = refl

first_is_no_version : has_bad_version 0 uuid ≡ true
first_is_no_version = refl

second_is_no_version : has_bad_version 1 uuid ≡ false
second_is_no_version = refl

version_two : has_bad_version 1 version ≡ false
version_two = refl

version_three : has_bad_version 1 (versioned (codes "3")) ≡ false
version_three = refl

version_four : has_bad_version 1 (versioned (codes "4")) ≡ true
version_four = refl

version_is_no_number : has_bad_version 1 (versioned (codes "two")) ≡ true
version_is_no_number = refl

read_versions : (is_read_version 1 ≡ false) × (is_read_version 2 ≡ true) × (is_read_version 3 ≡ true)
    × (is_read_version 4 ≡ false)
read_versions = (refl, refl, refl, refl)

numbers : has_bad_number file ≡ false
numbers = refl

sign : has_bad_number (revision (codes "+7")) ≡ true
sign = refl

sum : has_bad_lengths file ≡ false
sum = refl

no_sum : has_bad_lengths (node ++ lengths (codes "10") (codes "3") (codes "12")) ≡ true
no_sum = refl

uuid_with_a_length : has_bad_lengths (uuid ++ header (codes "Content-length") (codes "0") ∷ []) ≡ true
uuid_with_a_length = refl

revision_with_a_text : has_bad_lengths (revision (codes "7") ++ header (codes "Text-content-length") (codes "0") ∷ [])
    ≡ true
revision_with_a_text = refl

-- recordText

abbrev file_record : DumpRecord
file_record = record { place = 31; version = 2; headers = file; props = codes "PROPS-END\n"; text = codes "abc" }

abbrev file_bytes : List ℕ
file_bytes =
    codes "Node-path: trunk/f\nProp-content-length: 10\nText-content-length: 3\nContent-length: 13\n\n"
    ++ codes "PROPS-END\nabc"

file_spelled : record_text file_record ≡ file_bytes
file_spelled = refl

-- lines with both delta headers, under a version
abbrev delta : ℕ → List Header → List ℕ → DumpRecord
delta number lines value = record file_record {
  version = number;
  headers = lines ++ header (codes "Text-delta") value ∷ header (codes "Prop-delta") (codes "true") ∷ [];
}

delta_under_three : (has_text_delta (delta 3 node (codes "true")) ≡ true)
    × (has_prop_delta (delta 3 node (codes "true")) ≡ true)
delta_under_three = (refl, refl)

no_delta_under_two : (has_text_delta (delta 2 node (codes "true")) ≡ false)
    × (has_prop_delta (delta 2 node (codes "true")) ≡ false)
no_delta_under_two = (refl, refl)

only_a_node_has_a_delta : is_delta (codes "Prop-delta") (delta 3 (revision (codes "7")) (codes "true")) ≡ false
only_a_node_has_a_delta = refl

delta_says_false : has_text_delta (delta 3 node (codes "false")) ≡ false
delta_says_false = refl

lawful : is_lawful 1 file ≡ true
lawful = refl

unlawful : is_lawful 0 file ≡ false
unlawful = refl

file_stands : BeginsWithRecord 1 (file_bytes ++ codes "\n\n") file_record (codes "\n\n")
file_stands = record { block = refl; lawful = refl; props_fit = refl; text_fits = refl; spelled = refl }

-- a text that is longer than its length isn't the record's
too_long : ¬ BeginsWithRecord 1 (file_bytes ++ codes "d") (record file_record { text = codes "abcd" }) []
too_long is = let same = is.text_fits in omega arith

file_block : BeginsWithBlock file_bytes file (codes "PROPS-END\nabc")
file_block = record { block = refl; spelled = refl }

with_its_lines : HasBlockWith file_bytes (λ headers after. headers ≡ file)
with_its_lines = (file, codes "PROPS-END\nabc", file_block, refl)

no_version_first : HoldsOfText 0 file_bytes faults.Version
no_version_first = (file, codes "PROPS-END\nabc", file_block, refl)

cut_content : HoldsOfText 1 (codes "Node-path: \nText-content-length: 3\n\nab") faults.ContentCut
cut_content = (
  header (codes "Node-path") [] ∷ header (codes "Text-content-length") (codes "3") ∷ [],
  codes "ab",
  record { block = refl; spelled = refl },
  lit< tt,
)

-- the filter's faults aren't those of a text
not_of_a_text : ¬ HoldsOfText 1 file_bytes faults.Order
not_of_a_text holds = holds

empty_rest : HoldsOfText 0 [] faults.HeaderCut
empty_rest = (λ (headers, rest, is). block_some headers rest is, refl)

empty_is_cut : IsCutFault 0 [] faults.HeaderCut
empty_is_cut = no_block 0 [] empty_rest.0

-- dumpText

abbrev version_record : ℕ → DumpRecord
version_record place = record { place = place; version = 2; headers = version; props = []; text = [] }

abbrev version_bytes : List ℕ
version_bytes = codes "SVN-fs-dump-format-version: 2\n\n"

-- a line feed, a version record, and one more line feed
abbrev dump : List ℕ
dump = codes "\nSVN-fs-dump-format-version: 2\n\n\n"

two_line_feeds : line_feeds 2 ≡ codes "\n\n"
two_line_feeds = refl

version_stands : BeginsWithRecord 0 (version_bytes ++ codes "\n") (version_record 1) (codes "\n")
version_stands = record { block = refl; lawful = refl; props_fit = refl; text_fits = refl; spelled = refl }

cut_into : IsCutInto 0 0 dump (version_record 1 ∷ []) []
cut_into = (1, version_bytes ++ codes "\n", codes "\n", refl, refl, version_stands, (1, refl, refl))

abbrev first : List ℕ → ℕ
first [] = 0
first (b ∷ text) = b

apart : ¬ (◌≡◌ {A = ℕ} 10 83)
apart e = omega arith

-- the line feed before the record isn't the record's
place_behind_line_feeds : ¬ IsCutInto 0 0 dump (version_record 0 ∷ []) []
place_behind_line_feeds (lfs, front, after, e, at, is, _) =
    let none : lfs ≡ 0 = omega arith in
    apart (ap first (e ∙ ap (λ n. line_feeds n ++ front) none ∙ is.spelled))

-- a dump that is joined from version 2, version 3 and version 2: each version record, and a node after it
abbrev version_of_three : DumpRecord
version_of_three = record (version_record 118) { version = 3; headers = versioned (codes "3") }

abbrev file_under : ℕ → DumpRecord
file_under number = record file_record { version = number }

joined_versions : HaveVersions 0 (version_record 0 ∷ file_under 2 ∷ version_of_three ∷ file_under 3 ∷ version_record 234
    ∷ file_under 2 ∷ [])
joined_versions = (refl, (refl, (refl, (refl, (refl, (refl, tt))))))

-- the first version isn't in force any more after the second version record
first_version_is_over : ¬ HaveVersions 0 (version_record 0 ∷ version_of_three ∷ file_under 2 ∷ [])
first_version_is_over (_, (_, (same, _))) = omega arith

-- a version record's own version is in force for itself
own_version : ¬ HaveVersions 0 (version_record 0 ∷ record version_of_three { version = 2 } ∷ [])
own_version (_, (same, _)) = omega arith

to_the_end : HasRecords dump (version_record 1 ∷ []) Ending.Whole
to_the_end = ([], cut_into, (refl, tt), (refl, lit< tt))

front : BeginsWithRecords dump (version_record 1 ∷ [])
front = ([], cut_into, (refl, tt))

one_record : EndsAfter dump 1 Ending.Whole
one_record = (version_record 1 ∷ [], to_the_end, refl)

first_record : IsRecordOf dump 0 (version_record 1)
first_record = ([], front, refl)

-- a dump without a record ends with a fault at once
empty_dump : HasRecords [] [] (Ending.Broken faults.HeaderCut 0)
empty_dump = ([], (0, refl, refl), tt, (inr refl, refl, empty_is_cut))

not_whole : ¬ HasEnding [] [] [] Ending.Whole
not_whole (_, some) = omega arith

rest_not_whole : ¬ HasEnding dump (version_record 1 ∷ []) (codes "x") Ending.Whole
rest_not_whole (e, _) = let same = ap length e in omega arith
