-- Worked values of the definitions, computed and proved by the kernel.
use Rattle.dump_filter.proofs.Prelude.{◌≡◌, ℕ, ◌+◌, ◌<◌, refl, ap, ◌∙◌, subst, length-append, Bool, true, false, List, [], ◌∷◌, ◌++◌, length, map, Some, None, codes, inl, inr, arith, lit<, lit≤, FaultKind, fault_code, NoFault, Header, Property, DumpRecord, Ending, HasRecords, Include, Empty, Pad, DropEmptied, DropAll, Settings, KeptRevisions, Group, group_of, groups, revision_number, group_number, has_kept_node, is_bare, is_emptied, keeps_empty, keeps_group, is_pad, is_padded, revision_numbers, first_number, present_revision, kept_revisions, with_length, with_lengths, written_number, is_whole_file, becomes_plain, stays_copy, without_copy_headers, IsWrittenCopyNumber, IsNewCopy, ends_in_group, IsOutOfOrder, present_number, HasBadCopyRevision, HoldsOfRecord, IsRecordFault, AreFaultFree, padding_log, is_date, padding_properties, revision_properties, IsNewProperty, AreNewProperties, new_block, whole_text, revision_text, IsRevisionOutput, IsNodeOutput, IsOutput, IsWrittenBlock, is_open, is_written, AreOutputs, IsWrittenText, IsCleanText, report_of}
use Rattle.std.specs.Fmt.{digits}
use Rattle.dump_text.specs.declared.fault.FaultKind.TheVariants as faults
use Rattle.dump_rules.specs.PlainSettings.{plain_settings}

abbrev header : List ℕ → List ℕ → Header
header name value = record { name = name; value = value }

abbrev property : List ℕ → List ℕ → Property
property name value = record { name = name; value = Some value }

abbrev deleted : List ℕ → Property
deleted name = record { name = name; value = None }

abbrev bare_record : List Header → DumpRecord
bare_record headers = record { place = 0; version = 2; headers = headers; props = []; text = [] }

-- a version record alone
abbrev pub version : DumpRecord
version = bare_record (header (codes "SVN-fs-dump-format-version") (codes "2") ∷ [])

abbrev uuid : DumpRecord
uuid = bare_record (header (codes "UUID") (codes "7bf7a5ef") ∷ [])

abbrev revision : List ℕ → DumpRecord
revision number = bare_record (header (codes "Revision-number") number ∷ [])

abbrev node : List ℕ → DumpRecord
node path = bare_record (header (codes "Node-path") path ∷ [])

abbrev trunk : DumpRecord
trunk = node (codes "trunk/a")

abbrev other : DumpRecord
other = node (codes "other/a")

-- include trunk
abbrev including : Empty → Bool → Settings
including empty renumber = record (plain_settings Include (codes "trunk" ∷ [])) { empty = empty; renumber = renumber }

-- the options that include trunk and pad emptied revisions
abbrev pub padding : Settings
padding = including Pad false

abbrev dropping : Settings
dropping = including DropEmptied true

-- revision 5 with a kept node, 6 emptied, 7 bare, and 9 with a kept node
abbrev four : List DumpRecord
four =
    version ∷ revision (codes "5") ∷ other ∷ trunk ∷ revision (codes "6") ∷ other ∷ revision (codes "7") ∷ uuid
    ∷ revision (codes "9") ∷ trunk ∷ []

-- Groups

abbrev kept_group : Group
kept_group = group_of (revision (codes "5")) (other ∷ trunk ∷ revision (codes "6") ∷ other ∷ [])

abbrev emptied_group : Group
emptied_group = group_of (revision (codes "6")) (other ∷ [])

abbrev bare_group : Group
bare_group = group_of (revision (codes "7")) []

nodes_that_follow : kept_group.nodes ≡ other ∷ trunk ∷ []
nodes_that_follow = refl

-- a UUID record ends a group
nodes_behind_a_uuid : (group_of (revision (codes "7")) (uuid ∷ trunk ∷ [])).nodes ≡ []
nodes_behind_a_uuid = refl

four_groups : map group_number (groups four) ≡ 5 ∷ 6 ∷ 7 ∷ 9 ∷ []
four_groups = refl

number_of_five : revision_number (revision (codes "005")) ≡ 5
number_of_five = refl

with_a_kept_node : map (has_kept_node padding) (kept_group ∷ emptied_group ∷ []) ≡ true ∷ false ∷ []
with_a_kept_node = refl

without_nodes : map is_bare (bare_group ∷ emptied_group ∷ []) ≡ true ∷ false ∷ []
without_nodes = refl

emptied : map (is_emptied padding) (emptied_group ∷ bare_group ∷ []) ≡ true ∷ false ∷ []
emptied = refl

bare_stays : map (keeps_empty DropEmptied) (true ∷ false ∷ []) ≡ true ∷ false ∷ []
bare_stays = refl

bare_goes : keeps_empty DropAll true ≡ false
bare_goes = refl

emptied_stays : map (λ s. keeps_group s emptied_group) (padding ∷ dropping ∷ []) ≡ true ∷ false ∷ []
emptied_stays = refl

zero_stays : keeps_group (including DropAll false) (group_of (revision (codes "0")) []) ≡ true
zero_stays = refl

pads : map is_pad (Pad ∷ DropAll ∷ []) ≡ true ∷ false ∷ []
pads = refl

emptied_is_padded : map (is_padded padding) (emptied_group ∷ bare_group ∷ []) ≡ true ∷ false ∷ []
emptied_is_padded = refl

preserved_is_not_padded : is_padded (record padding { preserve = true }) emptied_group ≡ false
preserved_is_not_padded = refl

numbers_in_order : revision_numbers four ≡ 5 ∷ 6 ∷ 7 ∷ 9 ∷ []
numbers_in_order = refl

first_of_four : first_number (revision_numbers four) ≡ 5
first_of_four = refl

first_of_none : first_number [] ≡ 0
first_of_none = refl

present : map present_revision (four ∷ (version ∷ []) ∷ []) ≡ Some 9 ∷ None ∷ []
present = refl

kept_of_four : kept_revisions dropping four ≡ record { first = 5; numbers = 5 ∷ 7 ∷ 9 ∷ [] }
kept_of_four = refl

-- NewHeaders

abbrev kept : KeptRevisions
kept = kept_revisions dropping four

abbrev text_length : List ℕ → Header
text_length digits = header (codes "Text-content-length") digits

abbrev file_copy : List ℕ → List Header → DumpRecord
file_copy source more = bare_record (
    header (codes "Node-path") (codes "trunk/f") ∷ header (codes "Node-kind") (codes "file")
    ∷ header (codes "Node-copyfrom-rev") (codes "8") ∷ header (codes "Node-copyfrom-path") source ∷ more
    )

new_length : with_length (codes "Content-length") 7 (header (codes "Content-length") (codes "012") ∷ [])
    ≡ header (codes "Content-length") (codes "7") ∷ []
unfolding digits
new_length = refl

added_length : with_length (codes "Content-length") 7 (header (codes "Note") [] ∷ [])
    ≡ header (codes "Note") [] ∷ header (codes "Content-length") (codes "7") ∷ []
unfolding digits
added_length = refl

no_length : with_length (codes "Content-length") 0 (header (codes "Note") [] ∷ []) ≡ header (codes "Note") [] ∷ []
unfolding digits
no_length = refl

-- a text length is never added
three_lengths : with_lengths (codes "PROPS-END\n") [] (header (codes "Note") [] ∷ [])
    ≡ header (codes "Note") [] ∷ header (codes "Prop-content-length") (codes "10")
    ∷ header (codes "Content-length") (codes "10") ∷ []
unfolding digits
three_lengths = refl

under_a_new_number : written_number dropping kept 9 ≡ 7
under_a_new_number = refl

under_its_number : written_number padding kept 9 ≡ 9
under_its_number = refl

abbrev lost_file : DumpRecord
lost_file = file_copy (codes "other/f") (text_length (codes "3") ∷ [])

abbrev kept_file : DumpRecord
kept_file = file_copy (codes "trunk/e") []

whole : map is_whole_file (lost_file ∷ kept_file ∷ []) ≡ true ∷ false ∷ []
whole = refl

-- deltas need their copy source, and under version 2 there are none
abbrev delta : List ℕ → ℕ → List ℕ → DumpRecord
delta name version value = record lost_file { version = version; headers = header name value ∷ lost_file.headers }

with_deltas : map is_whole_file (
    delta (codes "Text-delta") 3 (codes "true") ∷ delta (codes "Prop-delta") 3 (codes "true")
    ∷ delta (codes "Text-delta") 3 (codes "false") ∷ delta (codes "Text-delta") 2 (codes "true") ∷ []
    ) ≡ false ∷ false ∷ true ∷ true ∷ []
with_deltas = refl

plain : map (becomes_plain padding) (lost_file ∷ kept_file ∷ []) ≡ true ∷ false ∷ []
plain = refl

stays : map (stays_copy padding) (kept_file ∷ lost_file ∷ []) ≡ true ∷ false ∷ []
stays = refl

plain_lines : without_copy_headers lost_file.headers
    ≡ header (codes "Node-path") (codes "trunk/f") ∷ header (codes "Node-kind") (codes "file")
    ∷ text_length (codes "3") ∷ []
plain_lines = refl

-- the image of 8 is that of 7, which becomes 6
copy_number : IsWrittenCopyNumber dropping kept 8 6
copy_number = refl

no_copy_number : ¬ IsWrittenCopyNumber padding kept 8 6
no_copy_number e = omega arith

new_copy : IsNewCopy dropping kept kept_file (
    header (codes "Node-path") (codes "trunk/f") ∷ header (codes "Node-kind") (codes "file")
    ∷ header (codes "Node-copyfrom-rev") (codes "6") ∷ header (codes "Node-copyfrom-path") (codes "trunk/e") ∷ []
    )
unfolding digits
new_copy = (8, 6, refl, refl, refl)

plain_copy : IsNewCopy dropping kept lost_file (without_copy_headers lost_file.headers)
plain_copy = refl

no_copy : IsNewCopy dropping kept trunk trunk.headers
no_copy = refl

-- RecordFaults

in_a_group : map ends_in_group (Some trunk ∷ Some uuid ∷ None ∷ []) ≡ true ∷ false ∷ false ∷ []
in_a_group = refl

node_behind_a_version : IsOutOfOrder (version ∷ []) trunk
node_behind_a_version = inl refl

same_number_again : IsOutOfOrder (revision (codes "5") ∷ []) (revision (codes "5"))
same_number_again = inr (refl, 5, refl, lit≤ tt)

no : ¬ (false ≡ true)
no e = cc

version_anywhere : ¬ IsOutOfOrder (revision (codes "5") ∷ []) version
version_anywhere (inl e) = no e
version_anywhere (inr (e, _, _, _)) = no e

present_numbers : map present_number (four ∷ [] ∷ []) ≡ 9 ∷ 0 ∷ []
present_numbers = refl

-- the image of a copy's revision 8 is there, but 8 is above 5
later_source : HasBadCopyRevision dropping (revision (codes "5") ∷ []) kept_file
later_source = (refl, 8, refl, inr (lit< tt))

-- without renumbering it is no fault
later_source_as_it_stood : ¬ HasBadCopyRevision padding (revision (codes "5") ∷ []) kept_file
later_source_as_it_stood (e, _, _, _) = no e

lost_directory : HoldsOfRecord padding four (file_copy (codes "other/f") []) faults.CopySource
lost_directory = refl

lost_text : ¬ HoldsOfRecord padding four lost_file faults.CopySource
lost_text e = no e

-- no fault below Order is one of a record
none_below : (fault : FaultKind) → fault_code fault < 8 → ¬ HoldsOfRecord padding (version ∷ []) trunk fault
none_below faults.HeaderCut below holds = holds
none_below faults.Header below holds = holds
none_below faults.Kind below holds = holds
none_below faults.Version below holds = holds
none_below faults.Number below holds = holds
none_below faults.Lengths below holds = holds
none_below faults.ContentCut below holds = holds
none_below _ below holds = omega arith

order_is_the_fault : IsRecordFault padding (version ∷ []) trunk faults.Order
order_is_the_fault = record { holds = inl refl; least = none_below }

two_with_a_fault : ¬ AreFaultFree padding (version ∷ trunk ∷ [])
two_with_a_fault free = free (version ∷ []) [] trunk refl faults.Order (inl refl)

version_has_none : (before : List DumpRecord) → NoFault (HoldsOfRecord padding before version)
version_has_none before faults.Order (inl e) = no e
version_has_none before faults.Order (inr (e, _, _, _)) = no e
version_has_none before faults.Props (e, _) = no e
version_has_none before faults.Md5 (e, _, _) = no e
version_has_none before faults.Sha1 (e, _, _) = no e
version_has_none before faults.CopySource e = no e
version_has_none before faults.CopyRevision (e, _, _, _) = no e
version_has_none before faults.MergeInfo (_, (e, _, _, _, _, _, _), _) = no e
version_has_none before faults.MergeSource (_, (e, _, _, _, _, _, _), _) = no e
version_has_none before faults.MergeRange (_, (e, _, _, _, _, _, _), _) = no e
version_has_none before _ holds = holds

abbrev front : List DumpRecord → DumpRecord
front [] = version
front (r ∷ records) = r

version_is_free : AreFaultFree padding (version ∷ [])
version_is_free [] after r e = subst (λ x. NoFault (HoldsOfRecord padding [] x)) (ap front e) (version_has_none [])
version_is_free (x ∷ before) after r e =
    let same : 1 ≡ length (x ∷ before) + length (r ∷ after) = ap length e ∙ length-append (x ∷ before) (r ∷ after) in
    absurd (omega arith)

-- NewContent

abbrev date : Property
date = property (codes "svn:date") (codes "2024")

abbrev author : Property
author = property (codes "svn:author") (codes "me")

dates : map is_date (date ∷ author ∷ []) ≡ true ∷ false ∷ []
dates = refl

padded_with_a_date : padding_properties (author ∷ date ∷ []) ≡ date ∷ padding_log ∷ []
padded_with_a_date = refl

padded_without_one : padding_properties (author ∷ []) ≡ padding_log ∷ []
padded_without_one = refl

as_they_stood : revision_properties false (author ∷ []) ≡ author ∷ []
as_they_stood = refl

same_property : IsNewProperty padding kept author author
same_property = (refl, refl)

abbrev merged : Property
merged = property (codes "svn:mergeinfo") []

empty_mergeinfo : IsNewProperty padding kept merged merged
empty_mergeinfo = (refl, ([], refl, ([], [], ([], tt, inl refl), tt, refl)))

-- deleted mergeinfo stays deleted
still_deleted : IsNewProperty padding kept (deleted (codes "svn:mergeinfo")) (deleted (codes "svn:mergeinfo"))
still_deleted = (refl, refl)

two_properties : AreNewProperties padding kept (author ∷ merged ∷ []) (author ∷ merged ∷ [])
two_properties = (same_property, (empty_mergeinfo, tt))

one_is_missing : ¬ AreNewProperties padding kept (author ∷ []) []
one_is_missing none = none

block_of_a_padded_one : new_block true trunk [] ≡ codes "PROPS-END\n"
block_of_a_padded_one = refl

no_block_before : new_block false trunk [] ≡ []
no_block_before = refl

-- RecordOutput

abbrev file_lines : List ℕ → List Header
file_lines content =
    header (codes "Node-path") (codes "trunk/f") ∷ text_length (codes "3") ∷ header (codes "Content-length") content
    ∷ []

abbrev file : DumpRecord
file = record { place = 0; version = 2; headers = file_lines (codes "03"); props = []; text = codes "abc" }

abbrev file_text : List ℕ
file_text = codes "Node-path: trunk/f\nText-content-length: 3\nContent-length: 3\n\nabc"

lengths_told : whole_text (file_lines (codes "03")) [] (codes "abc") ≡ file_text
unfolding digits
lengths_told = refl

renumbered : revision_text dropping kept false (revision (codes "9")) [] ≡ codes "Revision-number: 7\n\n\n"
unfolding digits
renumbered = refl

abbrev padded_text : List ℕ
padded_text =
    codes "Revision-number: 6\nProp-content-length: 66\nContent-length: 66\n\n"
    ++ codes "K 7\nsvn:log\nV 38\nThis is an empty revision for padding.\nPROPS-END\n\n"

padded : revision_text padding kept true (revision (codes "6")) [] ≡ padded_text
unfolding digits
padded = refl

no_deletes : false ≡ true → false ≡ true
no_deletes e = e

revision_output : IsRevisionOutput padding kept emptied_group padded_text
unfolding digits
revision_output = ([], (inl (refl, refl), no_deletes), refl)

node_output : IsNodeOutput padding kept file (file_text ++ codes "\n\n")
unfolding digits
node_output = (file_lines (codes "03"), [], [], refl, (inl (refl, refl), no_deletes), tt, refl)

of_a_revision : IsOutput padding kept (revision (codes "6")) (other ∷ []) padded_text
unfolding digits
of_a_revision = revision_output

of_a_node : IsOutput padding kept file [] (file_text ++ codes "\n\n")
unfolding digits
of_a_node = node_output

of_a_uuid : IsOutput padding kept uuid [] (codes "UUID: 7bf7a5ef\n\n")
of_a_uuid = refl

block_of_a_file : IsWrittenBlock padding kept file [] []
block_of_a_file = ([], [], (inl (refl, refl), no_deletes), tt, refl)

-- Written

goes_on : map is_open ((trunk ∷ other ∷ []) ∷ (trunk ∷ uuid ∷ []) ∷ []) ≡ true ∷ false ∷ []
goes_on = refl

waits : is_written padding false (revision (codes "6")) (other ∷ []) ≡ false
waits = refl

no_longer_waits : is_written padding true (revision (codes "6")) (other ∷ []) ≡ true
no_longer_waits = refl

with_its_first_node : is_written padding false (revision (codes "5")) (other ∷ trunk ∷ []) ≡ true
with_its_first_node = refl

not_kept : is_written padding true other [] ≡ false
not_kept = refl

stands : is_written padding false uuid [] ≡ true
stands = refl

-- a node that isn't kept leaves nothing
outputs : AreOutputs padding true kept (uuid ∷ other ∷ []) (codes "UUID: 7bf7a5ef\n\n")
outputs = (codes "UUID: 7bf7a5ef\n\n", [], refl, refl, ([], [], refl, refl, refl))

-- the bytes of a version record alone
abbrev pub version_text : List ℕ
version_text = codes "SVN-fs-dump-format-version: 2\n\n"

version_written : IsWrittenText padding true (version ∷ []) version_text
version_written = (version_text, [], refl, refl, refl)

-- WholeText

version_alone : HasRecords version_text (version ∷ []) Ending.Whole
version_alone = (
  [],
  (
    0,
    version_text,
    [],
    refl,
    refl,
    record { block = refl; lawful = refl; props_fit = refl; text_fits = refl; spelled = refl },
    (0, refl, refl),
  ),
  (refl, tt),
  (refl, lit< tt),
)

-- a dump that is a version record alone stays as it is
pub clean : IsCleanText padding version_text (version ∷ []) version_text
clean = record { whole = version_alone; fault_free = version_is_free; written = version_written }

-- Counts

counts : report_of dropping four ≡ record {
  revisions_kept = 3;
  revisions_dropped = 1;
  nodes_kept = 2;
  nodes_dropped = 2;
  texts_checked = 0;
}
counts = refl
