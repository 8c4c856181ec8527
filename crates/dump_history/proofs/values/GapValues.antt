-- Examples of gaps in a dump's numbers, and of nodes that name a revision after a dropped one.
use Rattle.dump_history.proofs.Prelude.{◌≡◌, zero, suc, Bool, true, ◌||◌, None, refl, ap, inl, inr, arith, Property, DumpRecord, Settings, HasPropertyList, property_list_once, groups, first_number, path_of, root_alone, Made, PropertyChange, Change, Patching, names_revision, name_no_revision, go_up, count_to_gap, MakeRevisionsWithGaps, LoadsWithGapsAs, NamesRevision, NamesRevisionBehind, KeepsNamedNumbers, MakePartRevisionsWithGaps, AreDumpFindingsOf}
use Rattle.std.proofs.Common.{ℕ, false, List, [], ◌∷◌, Some, codes}
use Rattle.dump_history.proofs.survey.NamingTest.{names_test, test_tells, behind_told}
use Rattle.dump_history.proofs.values.WorkedDump.{line, record_at, version, one, two, three, trunk, other, copy, records, settings, directory, none_of, makes_trunk}
use Rattle.dump_history.proofs.values.WorkedDump.{zero as revision_0}
use Rattle.dump_history.proofs.values.UnreadValues.{told_read}
use Rattle.dump_history.specs.declared.findings.DumpFinding.TheVariants as dump_wide

-- changes that name a revision

abbrev plain : Change
plain = directory (codes "trunk") (Some Made.NewDirectory)

abbrev copied : Change
copied = directory (codes "trunk/b") (Some (Made.Copied 2 (path_of (codes "trunk"))))

abbrev merge : Property
merge = record { name = codes "svn:mergeinfo"; value = Some (codes "/b:1") }

abbrev merging : Change
merging = record plain { props = Some (PropertyChange.Edited (merge ∷ [])) }

directory_names_none : names_revision plain ≡ false
directory_names_none = refl

copy_names_one : names_revision copied ≡ true
copy_names_one = refl

mergeinfo_names_one : names_revision merging ≡ true
mergeinfo_names_one = refl

none_in_directories : name_no_revision ([] ∷ (plain ∷ plain ∷ []) ∷ []) ≡ true
none_in_directories = refl

one_in_second : name_no_revision ((plain ∷ []) ∷ (plain ∷ merging ∷ []) ∷ []) ≡ false
one_in_second = refl

-- numbers

goes_up : go_up 2 (3 ∷ 7 ∷ 8 ∷ []) ≡ true
goes_up = refl

stays : go_up 2 (3 ∷ 3 ∷ []) ≡ false
stays = refl

not_above : go_up 2 (2 ∷ 3 ∷ []) ≡ false
not_above = refl

no_gap : count_to_gap 1 (1 ∷ 2 ∷ []) ((copied ∷ []) ∷ (merging ∷ []) ∷ []) ≡ true
no_gap = refl

plain_behind_gap : count_to_gap 1 (1 ∷ 3 ∷ 7 ∷ []) ((copied ∷ []) ∷ (plain ∷ []) ∷ [] ∷ []) ≡ true
plain_behind_gap = refl

copy_at_gap : count_to_gap 1 (1 ∷ 3 ∷ []) ((plain ∷ []) ∷ (copied ∷ []) ∷ []) ≡ false
copy_at_gap = refl

copy_behind_gap : count_to_gap 1 (1 ∷ 3 ∷ 4 ∷ []) ((plain ∷ []) ∷ (plain ∷ []) ∷ (copied ∷ []) ∷ []) ≡ false
copy_behind_gap = refl

mergeinfo_behind_gap : count_to_gap 1 (2 ∷ []) ((merging ∷ []) ∷ []) ≡ false
mergeinfo_behind_gap = refl

number_again : count_to_gap 1 (1 ∷ 1 ∷ []) ((plain ∷ []) ∷ (plain ∷ []) ∷ []) ≡ false
number_again = refl

falls_behind_gap : count_to_gap 1 (3 ∷ 2 ∷ []) ((plain ∷ []) ∷ (plain ∷ []) ∷ []) ≡ false
falls_behind_gap = refl

one_number_more : count_to_gap 1 (1 ∷ 2 ∷ []) ((plain ∷ []) ∷ []) ≡ false
one_number_more = refl

-- dumps with gaps

-- every delta is rejected
abbrev refused : Patching
refused delta old = None

-- revision 1 is missing
with_gap : MakeRevisionsWithGaps refused (version ∷ revision_0 ∷ two ∷ trunk ∷ []) ((plain ∷ []) ∷ [])
with_gap = record {
  later = 2 ∷ [];
  begins = refl;
  numbered = refl;
  ordered = refl;
  changes = (tt, ((makes_trunk refused, tt), tt));
}

-- it is loaded as revision 1
loads_with_gap : (tree : _) × LoadsWithGapsAs refused root_alone (version ∷ revision_0 ∷ two ∷ trunk ∷ []) ((plain ∷ []) ∷ [])
    (root_alone ∷ tree ∷ [])
loads_with_gap = (_, record { makes = with_gap; loads = refl })

-- it begins at revision 0
from_one : (rs : List (List Change)) → ¬ MakeRevisionsWithGaps refused (version ∷ one ∷ []) rs
from_one rs makes = let bad : suc zero ≡ zero = ap first_number makes.begins in omega (arith, bad)

-- a partial dump may lack its first revisions too
part_with_gap : MakePartRevisionsWithGaps refused 0 (version ∷ two ∷ trunk ∷ []) ((plain ∷ []) ∷ [])
part_with_gap = record { numbered = refl; ordered = refl; changes = ((makes_trunk refused, tt), tt) }

-- nodes that name a revision after a dropped one

-- the options of the example dump, without renumbering: revision 2 is dropped
abbrev left_numbers : Settings
left_numbers = record settings { renumber = false }

-- a node that sets these property bytes
abbrev setting : List ℕ → DumpRecord
setting bytes = record (record_at 0 (line (codes "Node-path") (codes "trunk") ∷ line (codes "Node-action") (codes "change")
    ∷ line (codes "Prop-content-length") (codes "1") ∷ [])) { props = bytes }

abbrev merges : DumpRecord
merges = setting (codes "K 13\nsvn:mergeinfo\nV 4\n/b:1\nPROPS-END\n")

reads_merge : HasPropertyList merges (merge ∷ [])
reads_merge = (
  inr (
    codes "K 13\nsvn:mergeinfo\nV 4\n/b:1\n",
    codes "PROPS-END\n",
    refl,
    inl (codes "/b:1", refl, (codes "13", codes "4", refl, refl, refl)),
    refl,
  ),
  λ deletes. cc,
)

-- a property that isn't mergeinfo

abbrev ignore : Property
ignore = record { name = codes "svn:ignore"; value = Some (codes "a") }

abbrev ignores : DumpRecord
ignores = setting (codes "K 10\nsvn:ignore\nV 1\na\nPROPS-END\n")

reads_ignore : HasPropertyList ignores (ignore ∷ [])
reads_ignore = (
  inr (
    codes "K 10\nsvn:ignore\nV 1\na\n",
    codes "PROPS-END\n",
    refl,
    inl (codes "a", refl, (codes "10", codes "1", refl, refl, refl)),
    refl,
  ),
  λ deletes. cc,
)

copy_names : NamesRevision copy
copy_names = inl refl

merge_names : NamesRevision merges
merge_names = inr (merge ∷ [], reads_merge, refl)

directory_names_no_revision : ¬ NamesRevision trunk
directory_names_no_revision (inl copies) = let bad : false ≡ true = copies in cc
directory_names_no_revision (inr (ps, list, set)) =
    let same : ps ≡ [] = property_list_once trunk ps [] list (none_of trunk refl) in cc

ignore_names_no_revision : ¬ NamesRevision ignores
ignore_names_no_revision (inl copies) = let bad : false ≡ true = copies in cc
ignore_names_no_revision (inr (ps, list, set)) =
    let same : ps ≡ ignore ∷ [] = property_list_once ignores ps (ignore ∷ []) list reads_ignore in cc

-- the records up to the dropped revision, and revision 3 with this node
abbrev behind : DumpRecord → List DumpRecord
behind r = version ∷ revision_0 ∷ one ∷ trunk ∷ two ∷ other ∷ three ∷ r ∷ []

copy_behind : NamesRevisionBehind left_numbers records
copy_behind = (_, copy, (0, omega arith, refl), (0, omega arith, refl), refl, copy_names)

mergeinfo_behind : NamesRevisionBehind left_numbers (behind merges)
mergeinfo_behind = (_, merges, (0, omega arith, refl), (0, omega arith, refl), refl, merge_names)

left : (b : Bool) → (b || false) ≡ true → b ≡ true
left true is = refl
left false is = is

-- a node that names none
directory_behind : ¬ NamesRevisionBehind left_numbers (behind trunk)
directory_behind names = directory_names_no_revision ((test_tells trunk).0 (left (names_test trunk)
    (left (names_test trunk || false)
    ((behind_told left_numbers names_test test_tells (groups (behind trunk))).1 names))))

-- an excluded copy
abbrev left_out : DumpRecord
left_out = record_at 0 (line (codes "Node-path") (codes "b") ∷ line (codes "Node-action") (codes "add")
    ∷ line (codes "Node-copyfrom-rev") (codes "2") ∷ line (codes "Node-copyfrom-path") (codes "trunk") ∷ [])

left_out_behind : ¬ NamesRevisionBehind left_numbers (behind left_out)
left_out_behind names = let bad : false ≡ true =
    (behind_told left_numbers names_test test_tells (groups (behind left_out))).1 names in cc

-- one before the dropped revision
abbrev copied_before : List DumpRecord
copied_before = version ∷ revision_0 ∷ one ∷ trunk ∷ copy ∷ two ∷ other ∷ []

copy_before : ¬ NamesRevisionBehind left_numbers copied_before
copy_before names = let bad : false ≡ true =
    (behind_told left_numbers names_test test_tells (groups copied_before)).1 names in cc

-- what is found

numbers_found : AreDumpFindingsOf left_numbers records (dump_wide.NumbersLeft ∷ [])
numbers_found = (
  record { named = true; unread = false },
  record { named = (λ so. copy_behind, λ names. refl); unread = told_read records refl },
  refl,
)

none_found : AreDumpFindingsOf left_numbers (behind trunk) []
none_found = (
  record { named = false; unread = false },
  record {
    named = (λ bad. let worse : false ≡ true = bad in cc, λ names. absurd (directory_behind names));
    unread = told_read (behind trunk) refl;
  },
  refl,
)

renumbered : AreDumpFindingsOf settings records []
renumbered = (
  record { named = true; unread = false },
  record { named = (λ so. copy_behind, λ names. refl); unread = told_read records refl },
  refl,
)

-- and what the law asks
kept_by_name : KeepsNamedNumbers left_numbers (behind trunk)
kept_by_name = directory_behind

kept_by_renumbering : KeepsNamedNumbers settings records
kept_by_renumbering = tt
