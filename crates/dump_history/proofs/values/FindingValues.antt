-- Examples of what a survey finds in a node and in a dump; the checker computes and proves them.
use Rattle.dump_history.proofs.Prelude.{true, ◌≡◌, ◌++◌, None, refl, Header, DumpRecord, Include, Exclude, Pad, Settings, every_finding, has_ordered_nodes, findings_of, is_obstacle, is_alarm, dump_findings, no_node_faults}
use Rattle.std.proofs.Common.{false, [], ◌∷◌, Some, codes, filter}
use Rattle.dump_history.proofs.values.WorkedDump.{line, record_at, records, version, zero, one, two, three, trunk}
use Rattle.dump_history.proofs.values.WorkedDump.{settings as worked_settings}
use Rattle.dump_history.proofs.values.FindingParts.{include_a, exclude_a, node, from, whole_from, in_node, facts}
use Rattle.dump_history.specs.declared.findings.Finding.TheVariants as findings
use Rattle.dump_history.specs.declared.findings.DumpFinding.TheVariants as dump_wide
use Rattle.dump_rules.specs.PlainSettings.{plain_settings}

-- a property length
abbrev block : Header
block = line (codes "Prop-content-length") (codes "10")

-- what can be found

all_findings : every_finding ≡ findings.UnreadBlock ∷ findings.Delta ∷ findings.UnknownAction ∷ findings.TextReadDifferently
    ∷ findings.NoWholeFile ∷ findings.MissingCopyRevision ∷ findings.UnreadMergeinfo ∷ findings.MissingMergeSource
    ∷ findings.MissingMergeRevision ∷ findings.PropertiesLost ∷ findings.CopyLoses ∷ findings.CopyLetsIn ∷ findings.IncludedStays ∷ findings.IncludedMissing ∷ findings.TextComesIn ∷ []
all_findings = refl

obstacles : filter is_obstacle every_finding
    ≡ findings.UnreadBlock ∷ findings.Delta ∷ findings.UnknownAction ∷ findings.TextReadDifferently ∷ []
obstacles = refl

alarms : filter is_alarm every_finding ≡ findings.PropertiesLost ∷ findings.CopyLoses ∷ findings.CopyLetsIn
    ∷ findings.IncludedStays ∷ findings.IncludedMissing ∷ []
alarms = refl

-- nothing is found in a node that only adds, changes or deletes, whether or not it is kept

added_kept : in_node include_a (node (codes "p/a/f") (codes "add") []) ≡ []
added_kept = refl

added_left_out : in_node include_a (node (codes "q") (codes "add") []) ≡ []
added_left_out = refl

deleted_kept : in_node include_a (node (codes "p/a") (codes "delete") []) ≡ []
deleted_kept = refl

-- nodes that make no change that the definitions describe

unread : findings_of include_a (node (codes "p/a") (codes "change") []) None no_node_faults ≡ findings.UnreadBlock ∷ []
unread = refl

-- under version 3 nothing is found in deltas, nor in a deleted property

abbrev delta_node : DumpRecord
delta_node = record (node (codes "p/a") (codes "change") (line (codes "Text-delta") (codes "true")
    ∷ line (codes "Prop-delta") (codes "true") ∷ block ∷ [])) { version = 3 }

deltas_of_version_3 : in_node include_a delta_node ≡ []
deltas_of_version_3 = refl

deleted_property : findings_of include_a delta_node (Some (record { name = codes "k"; value = None } ∷ []))
    no_node_faults ≡ []
deleted_property = refl

-- under version 2 a delta is found

text_delta : in_node include_a (node (codes "p/a") (codes "change") (line (codes "Text-delta") (codes "true") ∷ []))
    ≡ findings.Delta ∷ []
text_delta = refl

property_delta : in_node include_a (node (codes "p/a") (codes "change") (line (codes "Prop-delta") (codes "true") ∷ []))
    ≡ findings.Delta ∷ []
property_delta = refl

no_delta : in_node include_a (node (codes "p/a") (codes "change") (line (codes "Prop-delta") (codes "false") ∷ [])) ≡ []
no_delta = refl

odd_action : in_node include_a (node (codes "p/a") (codes "rename") []) ≡ findings.UnknownAction ∷ []
odd_action = refl

no_action : in_node include_a (record_at 0 (line (codes "Node-path") (codes "p/a") ∷ [])) ≡ findings.UnknownAction ∷ []
no_action = refl

-- the filter stops because of a copy's revision or of mergeinfo

missing_copy_revision : findings_of include_a (node (codes "p/a/g") (codes "add") (from (codes "p/a/f"))) (Some [])
    (record no_node_faults { copy_revision = true }) ≡ findings.MissingCopyRevision ∷ []
missing_copy_revision = refl

unread_mergeinfo : findings_of include_a (node (codes "p/a") (codes "change") []) (Some [])
    (record no_node_faults { unread = true }) ≡ findings.UnreadMergeinfo ∷ []
unread_mergeinfo = refl

missing_merge_source : findings_of include_a (node (codes "p/a") (codes "change") []) (Some [])
    (record no_node_faults { missing = true }) ≡ findings.MissingMergeSource ∷ []
missing_merge_source = refl

missing_merge_revision : findings_of include_a (node (codes "p/a") (codes "change") []) (Some [])
    (record no_node_faults { outside = true }) ≡ findings.MissingMergeRevision ∷ []
missing_merge_revision = refl

-- texts that the load reads differently

dot_in_path : in_node include_a (node (codes "p/a/./f") (codes "add") []) ≡ findings.TextReadDifferently ∷ []
dot_in_path = refl

empty_name_in_source : in_node include_a (node (codes "p/a/g") (codes "add") (from (codes "p/a//f")))
    ≡ findings.TextReadDifferently ∷ []
empty_name_in_source = refl

zero_in_line : in_node include_a (node (codes "p/a/g" ++ 0 ∷ []) (codes "add") []) ≡ findings.TextReadDifferently ∷ []
zero_in_line = refl

zero_in_name : findings_of include_a (node (codes "p/a") (codes "change") (block ∷ []))
    (Some (record { name = codes "k" ++ 0 ∷ []; value = Some [] } ∷ [])) no_node_faults ≡ findings.TextReadDifferently ∷ []
zero_in_name = refl

leading_slash : in_node include_a (node (codes "/p/a/g") (codes "add") (from (codes "/p/a/f"))) ≡ []
leading_slash = refl

-- a copy of a path that isn't kept

directory_from_left_out : in_node include_a (node (codes "p/a/g") (codes "add") (block ∷ from (codes "q/g")))
    ≡ findings.NoWholeFile ∷ []
directory_from_left_out = refl

left_out_from_left_out : in_node include_a (node (codes "q/h") (codes "add") (from (codes "q/g"))) ≡ []
left_out_from_left_out = refl

copy_inside : in_node include_a (node (codes "p/a/g") (codes "add") (from (codes "p/a/f"))) ≡ []
copy_inside = refl

-- a whole file keeps its properties if it sets them, even if it sets none
file_with_block : in_node include_a (node (codes "p/a/g") (codes "add") (block ∷ whole_from (codes "q/g"))) ≡ []
file_with_block = refl

file_without_block : in_node include_a (node (codes "p/a/g") (codes "add") (whole_from (codes "q/g")))
    ≡ findings.PropertiesLost ∷ []
file_without_block = refl

-- under exclude its text is an excluded one
text_comes_in : in_node exclude_a (node (codes "q/g") (codes "add") (block ∷ whole_from (codes "p/a/g")))
    ≡ findings.TextComesIn ∷ []
text_comes_in = refl

both_come : in_node exclude_a (node (codes "q/g") (codes "add") (whole_from (codes "p/a/g")))
    ≡ findings.PropertiesLost ∷ findings.TextComesIn ∷ []
both_come = refl

-- in a change the text is the file's own
own_text : in_node exclude_a (node (codes "q/g") (codes "change") (whole_from (codes "p/a/g"))) ≡ []
own_text = refl

-- nothing is found in an excluded node about its text
text_stays_out : in_node exclude_a (node (codes "p/a/h") (codes "add") (whole_from (codes "p/a/g"))) ≡ []
text_stays_out = refl

-- a copy above an excluded prefix, out of it or onto it

copy_loses : in_node exclude_a (node (codes "q") (codes "add") (from (codes "p"))) ≡ findings.CopyLoses ∷ []
copy_loses = refl

copy_lets_in : in_node exclude_a (node (codes "p") (codes "replace") (from (codes "q"))) ≡ findings.CopyLetsIn ∷ []
copy_lets_in = refl

-- both sides are cut in the same way if the same rest is excluded below each
copy_cut_alike : in_node (plain_settings Exclude (codes "p/a" ∷ codes "q/a" ∷ []))
    (node (codes "q") (codes "add") (from (codes "p"))) ≡ []
copy_cut_alike = refl

copy_loses_and_lets_in : in_node (plain_settings Exclude (codes "p/a" ∷ codes "q/b" ∷ []))
    (node (codes "q") (codes "add") (from (codes "p"))) ≡ findings.CopyLoses ∷ findings.CopyLetsIn ∷ []
copy_loses_and_lets_in = refl

-- included prefixes cut nothing below a kept path
copy_included : in_node (plain_settings Include (codes "p" ∷ codes "q/a" ∷ codes "q" ∷ []))
    (node (codes "q") (codes "add") (from (codes "p"))) ≡ []
copy_included = refl

-- in a change a copy source makes nothing
change_with_source : in_node exclude_a (node (codes "q") (codes "change") (from (codes "p"))) ≡ []
change_with_source = refl

-- a directory above an included prefix

included_stays : in_node include_a (node (codes "p") (codes "delete") []) ≡ findings.IncludedStays ∷ []
included_stays = refl

included_missing : in_node include_a (node (codes "p") (codes "add") (from (codes "q"))) ≡ findings.IncludedMissing ∷ []
included_missing = refl

stays_and_missing : in_node include_a (node (codes "p") (codes "replace") (from (codes "q")))
    ≡ findings.IncludedStays ∷ findings.IncludedMissing ∷ []
stays_and_missing = refl

directory_stays : in_node include_a (node (codes "p") (codes "change") []) ≡ []
directory_stays = refl

directory_beside : in_node include_a (node (codes "pp") (codes "delete") []) ≡ []
directory_beside = refl

-- if an excluded directory is deleted, nothing kept is deleted with it
directory_excluded : in_node exclude_a (node (codes "p/a") (codes "delete") []) ≡ []
directory_excluded = refl

-- of a dump

abbrev padded : Settings
padded = record worked_settings { empty = Pad; renumber = false }

-- nothing is found in the example dump, whether it is renumbered or padded

nothing_renumbered : dump_findings worked_settings records (facts true false) ≡ []
nothing_renumbered = refl

nothing_padded : dump_findings padded records (facts false false) ≡ []
nothing_padded = refl

-- a revision is dropped, and a kept node after it names one
dropped_not_renumbered : dump_findings (record worked_settings { renumber = false }) records (facts true false)
    ≡ dump_wide.NumbersLeft ∷ []
dropped_not_renumbered = refl

-- if none is named, no number matters
none_named : dump_findings (record worked_settings { renumber = false }) records (facts false false) ≡ []
none_named = refl

-- if none is dropped, none needs a new number
none_dropped : dump_findings (record worked_settings { renumber = false }) (version ∷ zero ∷ one ∷ trunk ∷ []) (facts false false) ≡ []
none_dropped = refl

no_revision : dump_findings padded (version ∷ []) (facts false false) ≡ dump_wide.NoRevision ∷ []
no_revision = refl

-- a partial dump begins at a higher number, and has a node in its first revision; but revision 0 has none
numbers_from_two : dump_findings padded (version ∷ two ∷ trunk ∷ three ∷ []) (facts false false) ≡ []
numbers_from_two = refl

number_left_out : dump_findings padded (version ∷ zero ∷ two ∷ []) (facts false false) ≡ dump_wide.OtherNumbers ∷ []
number_left_out = refl

node_in_first : dump_findings padded (version ∷ zero ∷ trunk ∷ []) (facts false false) ≡ dump_wide.NodeInFirst ∷ []
node_in_first = refl

-- a node before any revision, and one after a record that is no revision
node_outside : dump_findings padded (version ∷ trunk ∷ zero ∷ []) (facts false false) ≡ dump_wide.NodeOutside ∷ []
node_outside = refl

node_behind_another : dump_findings padded (zero ∷ one ∷ version ∷ trunk ∷ []) (facts false false) ≡ dump_wide.NodeOutside ∷ []
node_behind_another = refl

-- where nodes may be

node_first : has_ordered_nodes false (trunk ∷ []) ≡ false
node_first = refl

node_behind_other : has_ordered_nodes false (zero ∷ version ∷ trunk ∷ []) ≡ false
node_behind_other = refl

nodes_in_order : has_ordered_nodes false records ≡ true
nodes_in_order = refl
