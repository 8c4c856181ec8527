-- More examples of what a survey finds. Each shows that a definition differs from one that lacks a part of it.
use Rattle.dump_history.proofs.Prelude.{◌≡◌, true, None, refl, DumpRecord, Include, Exclude, DropAll, Settings, findings_of, is_alarm, every_dump_finding, rise, dump_findings, none_is, no_node_faults}
use Rattle.std.proofs.Common.{false, [], ◌∷◌, codes}
use Rattle.dump_history.proofs.values.WorkedDump.{line, record_at, version, zero, one, two, trunk, three, copy}
use Rattle.dump_history.proofs.values.FindingParts.{include_a, exclude_a, node, from, whole_from, in_node, facts}
use Rattle.dump_history.specs.declared.findings.Finding.TheVariants as findings
use Rattle.dump_history.specs.declared.findings.DumpFinding.TheVariants as dump_wide
use Rattle.dump_rules.specs.PlainSettings.{plain_settings}

-- a directory and what is below it, both included
abbrev include_both : Settings
include_both = plain_settings Include (codes "p" ∷ codes "p/a" ∷ [])

abbrev include_trunk : Settings
include_trunk = plain_settings Include (codes "trunk" ∷ [])

-- revision 4
abbrev four : DumpRecord
four = record_at 0 (line (codes "Revision-number") (codes "4") ∷ [])

-- a change with a copy source
abbrev changed : DumpRecord
changed = node (codes "trunk") (codes "change")
    (line (codes "Node-copyfrom-rev") (codes "1") ∷ line (codes "Node-copyfrom-path") (codes "trunk") ∷ [])

-- several findings are in this order

three_found : in_node include_a (node (codes "p/a//g") (codes "add") (from (codes "q/g")))
    ≡ findings.TextReadDifferently ∷ findings.NoWholeFile ∷ findings.PropertiesLost ∷ []
three_found = refl

unread_and_odd : findings_of include_a (node (codes "p/a/./g") (codes "rename") []) None no_node_faults
    ≡ findings.UnreadBlock ∷ findings.UnknownAction ∷ findings.TextReadDifferently ∷ []
unread_and_odd = refl

-- the filter stops under exclude too, and under each action: a copy source counts wherever it is

excluded_directory : in_node exclude_a (node (codes "q/g") (codes "add") (from (codes "p/a/g")))
    ≡ findings.NoWholeFile ∷ findings.PropertiesLost ∷ []
excluded_directory = refl

changed_from_left_out : in_node include_a (node (codes "p/a/g") (codes "change") (from (codes "q/g")))
    ≡ findings.NoWholeFile ∷ []
changed_from_left_out = refl

-- a kept file that stays a copy brings no text in
text_of_kept : in_node exclude_a (node (codes "q/g") (codes "add") (whole_from (codes "q/f"))) ≡ []
text_of_kept = refl

-- a replaced file that becomes a plain one has an excluded text
replaced_text : in_node exclude_a (node (codes "q/g") (codes "replace") (whole_from (codes "p/a/g")))
    ≡ findings.PropertiesLost ∷ findings.TextComesIn ∷ []
replaced_text = refl

-- a copy lets in nothing below a path that isn't kept
nothing_let_in : in_node (plain_settings Exclude (codes "q" ∷ codes "q/b" ∷ []))
    (node (codes "q") (codes "add") (from (codes "p"))) ≡ []
nothing_let_in = refl

-- a copy of what isn't kept loses its properties, and isn't compared with its source
nothing_to_lose : in_node (plain_settings Exclude (codes "p" ∷ codes "p/a" ∷ []))
    (node (codes "q") (codes "add") (from (codes "p"))) ≡ findings.NoWholeFile ∷ findings.PropertiesLost ∷ []
nothing_to_lose = refl

-- under a change a copy source lets nothing in
changed_with_source : in_node exclude_a (node (codes "p") (codes "change") (from (codes "q"))) ≡ []
changed_with_source = refl

-- if a kept directory is deleted or copied, what is below it is deleted or copied with it

kept_directory_goes : in_node include_both (node (codes "p") (codes "delete") []) ≡ []
kept_directory_goes = refl

kept_directory_comes : in_node include_both (node (codes "p") (codes "add") (from (codes "p/x"))) ≡ []
kept_directory_comes = refl

-- a new directory above an included prefix brings nothing, and neither does a change with a copy source

directory_added : in_node include_a (node (codes "p") (codes "add") (line (codes "Node-kind") (codes "dir") ∷ [])) ≡ []
directory_added = refl

directory_changed : in_node include_a (node (codes "p") (codes "change") (from (codes "q"))) ≡ []
directory_changed = refl

-- a directory that is replaced by a new one takes what is below it
directory_replaced : in_node include_a (node (codes "p") (codes "replace") []) ≡ findings.IncludedStays ∷ []
directory_replaced = refl

-- a directory far above the prefix counts too
root_of_prefix : in_node (plain_settings Include (codes "p/a/b" ∷ [])) (node (codes "p") (codes "delete") [])
    ≡ findings.IncludedStays ∷ []
root_of_prefix = refl

-- of a dump

all_dump_findings : every_dump_finding ≡ dump_wide.NoRevision ∷ dump_wide.OtherNumbers ∷ dump_wide.NumberFalls
    ∷ dump_wide.UnreadRevision ∷ dump_wide.NodeInFirst ∷ dump_wide.SourceBefore ∷ dump_wide.NodeOutside
    ∷ dump_wide.NumbersLeft ∷ []
all_dump_findings = refl

-- a number that comes twice
number_again : dump_findings include_a (version ∷ zero ∷ one ∷ one ∷ []) (facts false false)
    ≡ dump_wide.OtherNumbers ∷ dump_wide.NumberFalls ∷ []
number_again = refl

-- a number below that of the revision before it, after a node, and one below the first number
number_falls : dump_findings include_a (version ∷ one ∷ two ∷ trunk ∷ one ∷ []) (facts false false)
    ≡ dump_wide.OtherNumbers ∷ dump_wide.NumberFalls ∷ []
number_falls = refl

below_first : dump_findings include_a (version ∷ two ∷ one ∷ two ∷ []) (facts false false)
    ≡ dump_wide.OtherNumbers ∷ dump_wide.NumberFalls ∷ []
below_first = refl

none_rises : rise [] ≡ true
none_rises = refl

one_rises : rise (7 ∷ []) ≡ true
one_rises = refl

gap_rises : rise (3 ∷ 7 ∷ 8 ∷ []) ≡ true
gap_rises = refl

last_stays : rise (3 ∷ 7 ∷ 7 ∷ []) ≡ false
last_stays = refl

-- nodes of later revisions don't count
node_in_second : dump_findings include_a (version ∷ zero ∷ one ∷ trunk ∷ two ∷ []) (facts false false) ≡ []
node_in_second = refl

-- three findings in one dump: a node in revision 0, and after it revision 2, which is dropped, and a kept copy
three_in_dump : dump_findings (record (plain_settings Include (codes "trunk" ∷ [])) { empty = DropAll })
    (version ∷ zero ∷ trunk ∷ two ∷ three ∷ copy ∷ []) (facts true false)
    ≡ dump_wide.OtherNumbers ∷ dump_wide.NodeInFirst ∷ dump_wide.NumbersLeft ∷ []
three_in_dump = refl

-- a copy of revision 2 is from before a dump that begins at revision 3, and isn't in one that begins at 2

copied_from_before : dump_findings include_trunk (version ∷ three ∷ copy ∷ []) (facts false false) ≡ dump_wide.SourceBefore ∷ []
copied_from_before = refl

copied_from_first : dump_findings include_trunk (version ∷ two ∷ three ∷ copy ∷ []) (facts false false) ≡ []
copied_from_first = refl

-- a copy that isn't kept is reported too, and so is one after the first revision; in a change a copy source doesn't
-- count

dropped_from_before : dump_findings include_a (version ∷ three ∷ copy ∷ []) (facts false false) ≡ dump_wide.SourceBefore ∷ []
dropped_from_before = refl

later_from_before : dump_findings include_trunk (version ∷ three ∷ trunk ∷ four ∷ copy ∷ []) (facts false false)
    ≡ dump_wide.SourceBefore ∷ []
later_from_before = refl

changed_from_before : dump_findings include_trunk (version ∷ three ∷ changed ∷ []) (facts false false) ≡ []
changed_from_before = refl

-- a copy after another node of its revision is reported too
second_from_before : dump_findings include_trunk (version ∷ three ∷ trunk ∷ copy ∷ []) (facts false false) ≡ dump_wide.SourceBefore ∷ []
second_from_before = refl

-- none of the findings of a dump's nodes

none_of_none : none_is is_alarm ([] ∷ ([] ∷ []) ∷ []) ≡ true
none_of_none = refl

other_than_alarms : none_is is_alarm (((findings.TextReadDifferently ∷ []) ∷ []) ∷ []) ≡ true
other_than_alarms = refl

one_alarm : none_is is_alarm ([] ∷ ([] ∷ (findings.TextReadDifferently ∷ findings.CopyLoses ∷ []) ∷ []) ∷ []) ≡ false
one_alarm = refl
