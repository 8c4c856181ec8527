-- The law of surveyed dumps, applied to the example dump: nothing is found in it.
use Rattle.dump_history.proofs.Prelude.{◌≡◌, refl, ap, ◌∙◌, DumpRecord, groups, root_alone, nowhere_is_over, loaded_over, Patching, LoadsRestricted, LoadsAfterDirectories, Finding, AreFindingsOf, AreDumpFindingsOf, AreFindingsBehind, HaveFindings, no_node_faults, groups_name_behind}
use Rattle.std.proofs.Common.{false, List, [], ◌∷◌, Some}
use Rattle.dump_history.proofs.restricted.LoadsOnce.{later_once}
use Rattle.dump_history.proofs.survey.FindingLemmas.{faults_of_kept, faults_of_left}
use Rattle.dump_history.proofs.survey.NamingTest.{names_test, test_tells, behind_told}
use Rattle.dump_history.proofs.survey.SurveyLemmas.{surveyed_dump}
use Rattle.dump_history.proofs.values.WorkedDump.{records, dump, settings, version, zero, one, trunk, two, other, three, copy, none_of, revisions, trees, loads}
use Rattle.dump_history.proofs.values.UnreadValues.{told_read}
use Rattle.dump_history.proofs.values.WorkedFilter.{text, clean, lengths}

-- nothing is found in any of its nodes, group by group
abbrev nothing : List (List (List Finding))
nothing = [] ∷ ([] ∷ []) ∷ ([] ∷ []) ∷ ([] ∷ []) ∷ []

-- the records before each node
abbrev pub before_trunk : List DumpRecord
before_trunk = version ∷ zero ∷ one ∷ []

abbrev pub before_other : List DumpRecord
before_other = version ∷ zero ∷ one ∷ trunk ∷ two ∷ []

abbrev pub before_copy : List DumpRecord
before_copy = version ∷ zero ∷ one ∷ trunk ∷ two ∷ other ∷ three ∷ []

-- nothing is found in the kept directory
pub in_trunk : AreFindingsOf settings before_trunk trunk []
in_trunk = (
  Some [],
  no_node_faults,
  none_of trunk refl,
  faults_of_kept settings before_trunk trunk refl [] (none_of trunk refl),
  refl,
)

-- nothing is found in the dropped directory
pub in_other : AreFindingsOf settings before_other other []
in_other = (Some [], no_node_faults, none_of other refl, faults_of_left settings before_other other refl, refl)

-- nothing is found in the copy
pub in_copy : AreFindingsOf settings before_copy copy []
in_copy = (
  Some [],
  no_node_faults,
  none_of copy refl,
  faults_of_kept settings before_copy copy refl [] (none_of copy refl),
  refl,
)

-- so nothing is found in the one node of a group
pub one_node : (before : List DumpRecord) (r : DumpRecord) → AreFindingsOf settings before r []
    → AreFindingsBehind settings before (r ∷ []) ([] ∷ [])
one_node before r none = ([], [], refl, none, refl)

none_found : HaveFindings settings records nothing
none_found = (
  [],
  _,
  refl,
  refl,
  (
    _,
    _,
    refl,
    one_node before_trunk trunk in_trunk,
    (_, _, refl, one_node before_other other in_other, (_, _, refl, one_node before_copy copy in_copy, refl)),
  ),
)

-- with renumbering nothing is found in the dump as a whole, whatever its nodes name
pub none_in_dump : AreDumpFindingsOf settings records []
none_in_dump = (
  record { named = groups_name_behind settings names_test (groups records); unread = false },
  record {
    named = behind_told settings names_test test_tells (groups records);
    unread = told_read records refl;
  },
  refl,
)

-- so the law applies: the revisions that the survey's law speaks of are those of the dump
restricts : (patched : Patching) → LoadsRestricted patched settings records trees text
    × LoadsAfterDirectories patched settings records trees text
restricts patched =
    let (found, made, law) =
    surveyed_dump patched settings dump text records nothing clean lengths none_in_dump none_found refl refl in
    let same : found ≡ revisions =
    later_once patched (groups records) [] found revisions made.changes (loads patched).makes.changes in
    law trees (ap (loaded_over root_alone) same ∙ (loads patched).loads)
    (ap (nowhere_is_over settings (root_alone ∷ []) root_alone) same)
