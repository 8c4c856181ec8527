-- The text of an expanded dump: what is written in place of each record, and the changes that are made in place of
-- each.
use Rattle.std.specs.Prelude.{◌≡◌, ℕ, true, List, [], ◌∷◌, ◌++◌, drop, map, if◌then◌else◌, IsTrue}
use Rattle.std.specs.List.{AllZip}
use Rattle.dump_records.specs.DumpText.{Ending, HasRecords, line_feeds}
use Rattle.dump_records.specs.RecordText.{DumpRecord}
use Rattle.dump_rules.specs.Settings.{Settings}
use Rattle.dump_digest.specs.RecordParts.{is_node, is_revision_record}
use Rattle.dump_trees.specs.Trees.{root_alone}
use Rattle.dump_trees.specs.Changes.{Change}
use Rattle.dump_trees.specs.steps.Expansions.{AllRevisionsExpand}
use Rattle.dump_history.specs.RecordChanges.{Patching}
use Rattle.dump_history.specs.DumpChanges.{MakeRevisions}
use Rattle.dump_history.specs.steps.WrittenNodes.{written_change, replacing}
use Rattle.dump_history.specs.steps.ExpandedDumps.{OwnForm, Stead, may_stand, expanded_records, IsExpandedDump}
use Rattle.dump_history.specs.ExpandedText.{AreRecordTexts}

-- the text has, in place of each record, what may replace it, after some line feeds
pub record IsExpandedText (records : List DumpRecord) (steads : List Stead) (text : List ℕ) : Type 0 where
  pub may : AllZip (λ r stead. IsTrue (may_stand r stead)) records steads
  pub lfs : ℕ
  pub front : List ℕ
  pub spelled : text ≡ line_feeds lfs ++ front
  pub texts : AreRecordTexts (expanded_records records steads) front

-- the change that is left of the one
abbrev pub own_changes : OwnForm → Change → List Change
own_changes OwnForm.AsItIs c = c ∷ []
own_changes OwnForm.Replacing c = replacing true c ∷ []
own_changes OwnForm.LeftOut c = []

-- the changes that are made in place of the one
abbrev pub changes_for : Stead → Change → List Change
changes_for stead c = map written_change stead.nodes ++ own_changes stead.own c

-- those in place of the changes of a revision
abbrev pub expanded_changes : List Stead → List Change → List Change
expanded_changes [] changes = []
expanded_changes (stead ∷ steads) [] = []
expanded_changes (stead ∷ steads) (c ∷ changes) = changes_for stead c ++ expanded_changes steads changes

-- those in place of the changes of each revision
abbrev pub expanded_revisions : List (List Stead) → List (List Change) → List (List Change)
expanded_revisions [] revisions = []
expanded_revisions (steads ∷ groups) [] = []
expanded_revisions (steads ∷ groups) (changes ∷ revisions) =
    expanded_changes steads changes ∷ expanded_revisions groups revisions

-- what is in place of the nodes with which the records begin
abbrev pub node_steads : List DumpRecord → List Stead → List Stead
node_steads [] steads = []
node_steads (r ∷ records) [] = []
node_steads (r ∷ records) (stead ∷ steads) = if is_node r then stead ∷ node_steads records steads else []

-- what is in place of the nodes of each revision
abbrev pub stead_groups : List DumpRecord → List Stead → List (List Stead)
stead_groups [] steads = []
stead_groups (r ∷ records) [] = []
stead_groups (r ∷ records) (stead ∷ steads) =
    if is_revision_record r then node_steads records steads ∷ stead_groups records steads
    else stead_groups records steads

-- the revisions that are made in place of these, which the dump makes; revision 0 has no changes
abbrev pub made_in_stead : List DumpRecord → List Stead → List (List Change) → List (List Change)
made_in_stead records steads revisions = expanded_revisions (drop 1 (stead_groups records steads)) revisions

-- if the changes that are made in place of a dump's are expansions of them, such a text is a dump, whose records are an
-- expanded form of those of the dump
abbrev pub ExpansionsAreDumps : Type 0
ExpansionsAreDumps = (patched : Patching) (settings : Settings) (dump text : List ℕ) (records : List DumpRecord)
    (steads : List Stead) (revisions : List (List Change)) →
    HasRecords dump records Ending.Whole
    → MakeRevisions patched records revisions
    → IsExpandedText records steads text
    → AllRevisionsExpand settings (root_alone ∷ []) root_alone revisions (made_in_stead records steads revisions)
    → (again : List DumpRecord) × HasRecords text again Ending.Whole
    × IsExpandedDump patched settings records steads again revisions (made_in_stead records steads revisions)
