-- The laws of the survey: if nothing is found, the law of filtered dumps has its premise.
use Rattle.std.specs.Prelude.{◌≡◌, ℕ, zero, suc, Bool, not, List, [], ◌∷◌, ◌++◌, length, take_while, Option, Some, IsTrue, IsFalse, MatchBool}
use Rattle.std.specs.List.{list_all, list_any}
use Rattle.dump_text.specs.PropertyList.{Property}
use Rattle.dump_records.specs.RecordText.{DumpRecord}
use Rattle.dump_rules.specs.Settings.{Settings}
use Rattle.dump_filter.specs.FilterLaws.{LengthsFit}
use Rattle.dump_digest.specs.RecordParts.{is_node, is_revision_record}
use Rattle.dump_filter.specs.WholeText.{IsCleanText}
use Rattle.dump_trees.specs.Trees.{Tree, root_alone}
use Rattle.dump_trees.specs.Changes.{Change}
use Rattle.dump_trees.specs.Quiet.{is_quiet, nowhere_is_over}
use Rattle.dump_trees.specs.Revisions.{loaded_over}
use Rattle.dump_history.specs.RecordChanges.{Patching, MakesChange}
use Rattle.dump_history.specs.DumpChanges.{MakeRevisions}
use Rattle.dump_history.specs.DumpLaws.{LoadsRestricted, LoadsAfterDirectories, FrontLoadsRestricted}
use Rattle.dump_history.specs.PartLaws.{MakePartRevisions, PartLoadsRestricted}
use Rattle.dump_history.specs.Findings.{begins_at, NodeFaults, findings_of, IsReadBlock, AreFindingsOf, is_obstacle, is_alarm, AreDumpFindingsOf}
use Rattle.dump_history.specs.declared.findings.DumpFinding.{DumpFinding}
use Rattle.dump_history.specs.declared.findings.Finding.{Finding}

-- each dump has one list of findings as a whole
abbrev pub DumpFindingsAreOnce : Type 0
DumpFindingsAreOnce = (settings : Settings) (records : List DumpRecord) →
    (found : List DumpFinding) × AreDumpFindingsOf settings records found
    × ((others : List DumpFinding) → AreDumpFindingsOf settings records others → others ≡ found)

-- each node has one list of findings
abbrev pub FindingsAreOnce : Type 0
FindingsAreOnce = (settings : Settings) (before : List DumpRecord) (r : DumpRecord) →
    (found : List Finding) × AreFindingsOf settings before r found
    × ((others : List Finding) → AreFindingsOf settings before r others → others ≡ found)

-- a node in which no obstacle is found makes a change, and no other node does
abbrev pub ObstaclesAreExact : Type 0
ObstaclesAreExact = (patched : Patching) (settings : Settings) (r : DumpRecord) (ps : Option (List Property))
    (faults : NodeFaults) → IsReadBlock r ps
    → (IsFalse (list_any is_obstacle (findings_of settings r ps faults)) → (c : Change) × MakesChange patched r c)
    × ((c : Change) → MakesChange patched r c → IsFalse (list_any is_obstacle (findings_of settings r ps faults)))

-- a node's change is quiet exactly if no alarm is found in the node
abbrev pub AlarmsAreExact : Type 0
AlarmsAreExact = (patched : Patching) (settings : Settings) (r : DumpRecord) (ps : Option (List Property))
    (faults : NodeFaults) (c : Change) → IsReadBlock r ps
    → MakesChange patched r c → is_quiet settings c ≡ not (list_any is_alarm (findings_of settings r ps faults))

-- what is found in the nodes of a group, node by node
abbrev pub GroupFindings : Type 0
GroupFindings = List (List Finding)

-- what is found in the nodes of a dump, group by group
abbrev pub FindingsByGroup : Type 0
FindingsByGroup = List GroupFindings

-- this is what is found in these nodes, which follow the records before, node by node
abbrev pub AreFindingsBehind : Settings → (before nodes : List DumpRecord) → GroupFindings → Type 0
AreFindingsBehind settings before [] found = found ≡ []
AreFindingsBehind settings before (r ∷ nodes) found =
    (first : List Finding) × (others : GroupFindings) × (found ≡ first ∷ others)
    × AreFindingsOf settings before r first × AreFindingsBehind settings (before ++ r ∷ []) nodes others

-- this is what is found in the nodes of these records' revisions, which follow the records before, group by group
abbrev pub HaveFindingsBehind : Settings → (before records : List DumpRecord) → FindingsByGroup → Type 0
HaveFindingsBehind settings before [] found = found ≡ []
HaveFindingsBehind settings before (r ∷ records) found = MatchBool (is_revision_record r)
    ((first : GroupFindings) × (others : FindingsByGroup) × (found ≡ first ∷ others)
    × AreFindingsBehind settings (before ++ r ∷ []) (take_while is_node records) first
    × HaveFindingsBehind settings (before ++ r ∷ []) records others)
    (HaveFindingsBehind settings (before ++ r ∷ []) records found)

-- this is what is found in the dump's nodes, group by group
abbrev pub HaveFindings : Settings → List DumpRecord → FindingsByGroup → Type 0
HaveFindings settings records found = HaveFindingsBehind settings [] records found

-- whether none of the findings is of this kind
abbrev pub none_is : (Finding → Bool) → FindingsByGroup → Bool
none_is test found = list_all (λ fs. list_all (λ node. not (list_any test node)) fs) found

-- loading commutes with filtering, for a dump that begins at this number: it makes revisions. If it loads, and makes no
-- copy that loses its source over an existing node, what is written of it has the restricted trees, over the parent
-- directories and after a revision that created them
abbrev pub RestrictsFrom : Patching → Settings → List DumpRecord → List ℕ → ℕ → Type 0
RestrictsFrom patched settings records text zero =
    (revisions : List (List Change)) × MakeRevisions patched records revisions
    × ((trees : List Tree) → loaded_over root_alone revisions ≡ Some trees
    → IsTrue (nowhere_is_over settings (root_alone ∷ []) root_alone revisions)
    → LoadsRestricted patched settings records trees text × LoadsAfterDirectories patched settings records trees text)
RestrictsFrom patched settings records text (suc before) =
    (revisions : List (List Change)) × MakePartRevisions patched before records revisions
    × ((trees : List Tree) → loaded_over root_alone revisions ≡ Some trees
    → IsTrue (nowhere_is_over settings (root_alone ∷ []) root_alone revisions)
    → PartLoadsRestricted patched before settings records trees text)

-- the same of the dump from its own first number on
abbrev pub DumpRestricts : Patching → Settings → List DumpRecord → List ℕ → Type 0
DumpRestricts patched settings records text = RestrictsFrom patched settings records text (begins_at records)

-- Let the filter's answer be clean. If the survey finds nothing in the dump as a whole, and no obstacle and no alarm
-- in its nodes, loading commutes with filtering. This is true of a whole dump and of a partial one.
abbrev pub SurveyedDumpRestricts : Type 0
SurveyedDumpRestricts = (patched : Patching) (settings : Settings) (dump text : List ℕ) (records : List DumpRecord)
    (found : FindingsByGroup) →
    IsCleanText settings dump records text → LengthsFit settings records
    → AreDumpFindingsOf settings records [] → HaveFindings settings records found
    → IsTrue (none_is is_obstacle found) → IsTrue (none_is is_alarm found)
    → DumpRestricts patched settings records text

-- the same of the first revisions of a dump that begins at revision 0, if alarms are found only after them; the first
-- list is what is found in revision 0
abbrev pub SurveyedDumpFrontRestricts : Type 0
SurveyedDumpFrontRestricts = (patched : Patching) (settings : Settings) (dump text : List ℕ) (records : List DumpRecord)
    (first : GroupFindings) (found behind : FindingsByGroup) →
    IsCleanText settings dump records text → LengthsFit settings records
    → begins_at records ≡ 0 → AreDumpFindingsOf settings records []
    → HaveFindings settings records (first ∷ found ++ behind)
    → IsTrue (none_is is_obstacle (found ++ behind)) → IsTrue (none_is is_alarm found)
    → (front rest : List (List Change)) × MakeRevisions patched records (front ++ rest) × (length front ≡ length found)
    × ((trees : List Tree) → loaded_over root_alone front ≡ Some trees
    → IsTrue (nowhere_is_over settings (root_alone ∷ []) root_alone front)
    → FrontLoadsRestricted patched settings records trees text)
