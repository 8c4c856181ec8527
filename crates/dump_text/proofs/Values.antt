-- Worked values of the definitions, computed and proved by the kernel.
use Rattle.dump_text.proofs.Prelude.{◌≡◌, ℕ, ◌<◌, ◌⊎◌, refl, ap, ◌∙◌, true, false, List, [], ◌∷◌, ◌++◌, length, Some, None, codes, inl, inr, arith, lit<, bytes_eq, list_any, FaultKind, fault_code, IsLeastFault, NoFault, fault_name, deciding_names, length_names, copy_names, known_names, name_text, Header, header_text, has_byte, is_header, is_named, has_header, count_named, header_value, with_header_value, is_block, lines_bytes, block_text, BeginsWithBlock, HasBlock, starts_with_lf, has_empty_line, block_fault, is_number, number_of, spelled_number, Property, sized_text, IsSetting, IsDeletion, IsEntry, AreEntries, IsPropertyBlock, has_deletes, change_text, entry_text, property_block_text, HasProperties, HasPropertyChanges, property_value}
use Rattle.std.specs.Fmt.{digits}
use Rattle.dump_text.specs.declared.fault.FaultKind.TheVariants as faults
use Rattle.dump_text.specs.declared.names.HeaderName.TheVariants as names
use Rattle.dump_text.proofs.Unique.{block_some}
use Rattle.dump_text.proofs.PropertyLemmas.{property_block_once}

-- FaultTable

first_fault : fault_code faults.HeaderCut ≡ 1
first_fault = refl

last_fault : fault_code faults.MergeRange ≡ 16
last_fault = refl

order_name : fault_name faults.Order ≡ codes "Order"
order_name = refl

-- both digests are wrong
abbrev BothDigests : FaultKind → Type 0
BothDigests fault = (fault ≡ faults.Md5) ⊎ (fault ≡ faults.Sha1)

md5_comes_first : IsLeastFault BothDigests faults.Md5
md5_comes_first = record {
  holds = inl refl;
  least = λ other below is. elim is [
    | inl e ↦ (let same = ap fault_code e in omega arith)
    | inr e ↦ (let same = ap fault_code e in omega arith)
  ];
}

sha1_comes_second : ¬ IsLeastFault BothDigests faults.Sha1
sha1_comes_second is = is.least faults.Md5 (lit< tt) (inl refl)

free_of_faults : NoFault (λ fault. ⊥)
free_of_faults fault holds = holds

not_free_of_faults : ¬ NoFault BothDigests
not_free_of_faults none = none faults.Md5 (inl refl)

-- Names

uuid : name_text names.Uuid ≡ codes "UUID"
uuid = refl

copied_from : name_text names.NodeCopyfromRev ≡ codes "Node-copyfrom-rev"
copied_from = refl

deciding : list_any (bytes_eq (codes "Node-path")) deciding_names ≡ true
deciding = refl

not_deciding : list_any (bytes_eq (codes "Node-kind")) deciding_names ≡ false
not_deciding = refl

a_length : list_any (bytes_eq (codes "Content-length")) length_names ≡ true
a_length = refl

of_a_copy : list_any (bytes_eq (codes "Text-copy-source-md5")) copy_names ≡ true
of_a_copy = refl

not_of_a_copy : list_any (bytes_eq (codes "Text-content-md5")) copy_names ≡ false
not_of_a_copy = refl

seventeen_names : length known_names ≡ 17
seventeen_names = refl

-- names are compared byte for byte
small_letters : list_any (bytes_eq (codes "uuid")) known_names ≡ false
small_letters = refl

-- HeaderLine

abbrev header : List ℕ → List ℕ → Header
header name value = record { name = name; value = value }

abbrev note : Header
note = header (codes "Note") (codes "a: b")

abbrev three : List Header
three = note ∷ header (codes "UUID") [] ∷ header (codes "Note") (codes " c") ∷ []

note_text : header_text note ≡ codes "Note: a: b"
note_text = refl

note_is_one : is_header note ≡ true
note_is_one = refl

empty_value : is_header (header (codes "UUID") []) ≡ true
empty_value = refl

empty_name : is_header (header [] (codes "a")) ≡ false
empty_name = refl

colon_in_a_name : is_header (header (codes "a:b") (codes "c")) ≡ false
colon_in_a_name = refl

line_feed_in_a_value : is_header (header (codes "a") (codes "b\nc")) ≡ false
line_feed_in_a_value = refl

colon_stands_there : has_byte 58 note.value ≡ true
colon_stands_there = refl

other_case : is_named (codes "uuid") (header (codes "UUID") []) ≡ false
other_case = refl

there : has_header (codes "UUID") three ≡ true
there = refl

not_there : has_header (codes "uuid") three ≡ false
not_there = refl

two_notes : count_named (codes "Note") three ≡ 2
two_notes = refl

first_of_two : header_value (codes "Note") three ≡ Some (codes "a: b")
first_of_two = refl

no_value : header_value (codes "uuid") three ≡ None
no_value = refl

each_of_the_name : with_header_value (codes "Note") (codes "d") three
    ≡ header (codes "Note") (codes "d") ∷ header (codes "UUID") [] ∷ header (codes "Note") (codes "d") ∷ []
each_of_the_name = refl

-- HeaderBlock

abbrev version : List Header
version = header (codes "SVN-fs-dump-format-version") (codes "2") ∷ []

-- an unknown name may occur twice
three_lines : is_block three ≡ true
three_lines = refl

no_lines : is_block [] ≡ false
no_lines = refl

known_name_twice : is_block (version ++ version) ≡ false
known_name_twice = refl

three_spelled : lines_bytes three ≡ codes "Note: a: b\nUUID: \nNote:  c\n"
three_spelled = refl

version_spelled : block_text version ≡ codes "SVN-fs-dump-format-version: 2\n\n"
version_spelled = refl

begins : BeginsWithBlock (codes "SVN-fs-dump-format-version: 2\n\nUUID") version (codes "UUID")
begins = record { block = refl; spelled = refl }

has_one : HasBlock (codes "SVN-fs-dump-format-version: 2\n\n")
has_one = (version, [], record { block = refl; spelled = refl })

empty_text : ¬ HasBlock []
empty_text (headers, rest, is) = block_some headers rest is

line_feed_first : starts_with_lf (codes "\nUUID") ≡ true
line_feed_first = refl

no_line_feed_first : starts_with_lf [] ≡ false
no_line_feed_first = refl

empty_line : has_empty_line (codes "UUID: \n\n") ≡ true
empty_line = refl

no_empty_line : has_empty_line (codes "UUID: \na\n") ≡ false
no_empty_line = refl

cut : block_fault (codes "UUID: \n") ≡ faults.HeaderCut
cut = refl

malformed : block_fault (codes "UUID\n\n") ≡ faults.Header
malformed = refl

-- Number

leading_zeros : number_of (codes "007") ≡ Some 7
leading_zeros = refl

greatest_number : number_of (codes "999999999999999999") ≡ Some 999999999999999999
greatest_number = refl

nineteen_digits : number_of (codes "1234567890123456789") ≡ None
nineteen_digits = refl

no_digits : number_of [] ≡ None
no_digits = refl

sign : is_number (codes "+1") ≡ false
sign = refl

spelled_zero : spelled_number 0 ≡ codes "0"
unfolding digits
spelled_zero = refl

spelled : spelled_number 18446744073709551615 ≡ codes "18446744073709551615"
unfolding digits
spelled = refl

-- PropertyList

abbrev property : List ℕ → List ℕ → Property
property name value = record { name = name; value = Some value }

abbrev deleted : List ℕ → Property
deleted name = record { name = name; value = None }

abbrev log : Property
log = property (codes "svn:log") (codes "hi")

name_part : sized_text (codes "K") (codes "7") (codes "svn:log") ≡ codes "K 7\nsvn:log\n"
name_part = refl

log_text : entry_text log ≡ codes "K 7\nsvn:log\nV 2\nhi\n"
unfolding digits
log_text = refl

deletion_text : entry_text (deleted (codes "svn:log")) ≡ codes "D 7\nsvn:log\n"
unfolding digits
deletion_text = refl

log_setting : IsSetting (codes "K 7\nsvn:log\nV 2\nhi\n") (codes "svn:log") (codes "hi")
log_setting = (codes "7", codes "2", refl, refl, refl)

log_entry : IsEntry (codes "K 007\nsvn:log\nV 2\nhi\n") log
log_entry = inl (codes "hi", refl, (codes "007", codes "2", refl, refl, refl))

log_deletion : IsDeletion (codes "D 07\nsvn:log\n") (codes "svn:log")
log_deletion = (codes "07", refl, refl)

deleted_entry : IsEntry (codes "D 07\nsvn:log\n") (deleted (codes "svn:log"))
deleted_entry = inr (refl, log_deletion)

one_entry : AreEntries (codes "K 7\nsvn:log\nV 2\nhi\nPROPS-END\n") (log ∷ [])
one_entry = (codes "K 7\nsvn:log\nV 2\nhi\n", codes "PROPS-END\n", refl, inl (codes "hi", refl, log_setting), refl)

no_end : ¬ AreEntries (codes "PROPS-END") []
no_end e = let same = ap length e in omega arith

empty_block : IsPropertyBlock [] []
empty_block = inl (refl, refl)

end_alone : IsPropertyBlock (codes "PROPS-END\n") []
end_alone = inr refl

has_properties : HasProperties (codes "K 7\nsvn:log\nV 2\nhi\nPROPS-END\n")
has_properties = (log ∷ [], inr one_entry, refl)

deletion_block : AreEntries (codes "D 7\nsvn:log\nPROPS-END\n") (deleted (codes "svn:log") ∷ [])
deletion_block =
    (codes "D 7\nsvn:log\n", codes "PROPS-END\n", refl, inr (refl, (codes "7", refl, refl)), refl)

has_changes : HasPropertyChanges (codes "D 7\nsvn:log\nPROPS-END\n")
has_changes = (deleted (codes "svn:log") ∷ [], inr deletion_block)

one_deleted : has_deletes (log ∷ deleted (codes "a") ∷ []) ≡ true
one_deleted = refl

none_deleted : has_deletes (log ∷ []) ≡ false
none_deleted = refl

-- a deleted property is no property
not_without : ¬ HasProperties (codes "D 7\nsvn:log\nPROPS-END\n")
not_without (ps, block, kept) =
    let bad : true ≡ false = ap has_deletes (property_block_once _ (deleted (codes "svn:log") ∷ []) ps
    (inr deletion_block) block) ∙ kept in cc

abbrev first : List ℕ → ℕ
first [] = 0
first (b ∷ text) = b

apart : (c : ℕ) → c < 80 → ¬ (◌≡◌ {A = ℕ} 80 c)
apart c below e = omega arith

-- the end line without its LF is no property block
pub no_changes : ¬ HasPropertyChanges (codes "PROPS-END")
no_changes ([], inl (e, _)) = let same = ap length e in omega arith
no_changes ([], inr e) = no_end e
no_changes (p ∷ ps, inl (_, e)) = let same = ap length e in omega arith
no_changes (p ∷ ps, inr (entry, rest, e, inl (_, _, (_, _, _, _, spelled)), _)) =
    apart 75 (lit< tt) (ap first (e ∙ ap (λ text. text ++ rest) spelled))
no_changes (p ∷ ps, inr (entry, rest, e, inr (_, (_, _, spelled)), _)) =
    apart 68 (lit< tt) (ap first (e ∙ ap (λ text. text ++ rest) spelled))

no_properties : ¬ HasProperties (codes "PROPS-END")
no_properties (ps, block, kept) = no_changes (ps, block)

block_spelled : property_block_text (log ∷ []) ≡ codes "K 7\nsvn:log\nV 2\nhi\nPROPS-END\n"
unfolding digits
block_spelled = refl

setting_spelled : change_text (codes "svn:log") (Some (codes "hi")) ≡ codes "K 7\nsvn:log\nV 2\nhi\n"
unfolding digits
setting_spelled = refl

first_value : property_value (codes "svn:log") (log ∷ property (codes "svn:log") (codes "ho") ∷ []) ≡ Some (codes "hi")
first_value = refl

-- a deleted one is passed over
value_behind_deletion : property_value (codes "svn:log") (deleted (codes "svn:log") ∷ log ∷ []) ≡ Some (codes "hi")
value_behind_deletion = refl

no_such_value : property_value (codes "svn:date") (log ∷ []) ≡ None
no_such_value = refl

deleted_value : property_value (codes "svn:log") (deleted (codes "svn:log") ∷ []) ≡ None
deleted_value = refl
