-- Filters that exclude different paths, and write the same of a dump.
use Rattle.std.specs.Prelude.{◌≡◌, ℕ, ◌<◌, false, List, length, map, take, Some, Contains, IsTrue}
use Rattle.std.specs.List.{list_all}
use Rattle.dump_text.specs.PropertyList.{Property}
use Rattle.dump_records.specs.DumpText.{Ending, HasRecords}
use Rattle.dump_records.specs.RecordText.{DumpRecord}
use Rattle.dump_rules.specs.declared.options.Empty.TheVariants.{Pad}
use Rattle.dump_rules.specs.Mergeinfo.{IsMergeinfo, MergeLine}
use Rattle.dump_rules.specs.Settings.{Settings, keeps_path}
use Rattle.dump_digest.specs.RecordParts.{HasPropertyList, has_lost_source, is_copy, is_kept_node, is_mergeinfo, is_node, value_of}
use Rattle.dump_filter.specs.FilterLaws.{LengthsFit}
use Rattle.dump_filter.specs.WholeText.{IsCleanText}
use Rattle.dump_trees.specs.Changes.{Change}
use Rattle.dump_trees.specs.EverSiblings.{does_something}
use Rattle.dump_trees.specs.steps.Following.{ExistsOnce}
use Rattle.dump_trees.specs.steps.Looking.{end_of, placed_from}
use Rattle.dump_trees.specs.Paths.{NodePath, is_short}
use Rattle.dump_trees.specs.Returns.{is_covered}
use Rattle.dump_trees.specs.Revisions.{loaded_over}
use Rattle.dump_trees.specs.Siblings.{has_node_names}
use Rattle.dump_trees.specs.steps.Siblings.{ExcludesPaths}
use Rattle.dump_trees.specs.Trees.{Tree, root_alone}
use Rattle.dump_history.specs.DumpChanges.{LoadsAs}
use Rattle.dump_history.specs.RecordChanges.{Patching, makes}
use Rattle.dump_index.specs.steps.IndexLaws.{AreListed}
use Rattle.dump_index.specs.steps.InOrder.{are_in_order}
use Rattle.dump_index.specs.steps.Listed.{listed_of}
use Rattle.dump_index.specs.declared.change.NodeChange.{NodeChange}
use Rattle.dump_cut.specs.steps.CutAlike.{AreCutAlike}
use Rattle.dump_cut.specs.steps.FoundSiblings.{AreFoundSiblings}
use Rattle.dump_cut.specs.LaterParts.{IsFirstPart}
use Rattle.dump_cut.specs.steps.NamedLines.{CoverMergeinfo}

-- both filters keep the same of these nodes, and of the kept nodes they find the same sources of copies excluded, and keep the
-- same lines of mergeinfo. They have the same other options
pub record AreFilteredAlike (settings others : Settings) (records : List DumpRecord) : Type 0 where
  pub empty : settings.empty ≡ others.empty
  pub renumber : settings.renumber ≡ others.renumber
  pub preserve : settings.preserve ≡ others.preserve
  pub skip_missing : settings.skip_missing ≡ others.skip_missing
  pub nodes : (r : DumpRecord) → Contains records r → is_kept_node settings r ≡ is_kept_node others r
  pub sources : (r : DumpRecord) → Contains records r → IsTrue (is_kept_node settings r)
      → has_lost_source settings r ≡ has_lost_source others r
  pub lines : (r : DumpRecord) (ps : List Property) (p : Property) (lines : List MergeLine) (line : MergeLine) →
      Contains records r → IsTrue (is_kept_node settings r) → HasPropertyList r ps → Contains ps p → IsTrue (is_mergeinfo p)
      → IsMergeinfo (value_of p) lines → Contains lines line → keeps_path settings line.path ≡ keeps_path others line.path

-- then what the one writes of a dump without a fault is what the other writes
abbrev pub FiltersWriteAlike : Type 0
FiltersWriteAlike = (settings others : Settings) (dump text : List ℕ) (records : List DumpRecord) →
    AreFilteredAlike settings others records → IsCleanText settings dump records text → IsCleanText others dump records text

-- so the first part of what the filter with the one set of options writes of a dump is what the filter with the other one
-- writes of the first part of the dump. This holds if they keep the same of that part, and no revision is dropped or renumbered
abbrev pub FirstPartsGoOn : Type 0
FirstPartsGoOn = (settings others : Settings) (number : ℕ) (dump text first part : List ℕ) (records firsts : List DumpRecord) →
    IsCleanText settings dump records text → LengthsFit settings records
    → settings.renumber ≡ false → settings.empty ≡ Pad
    → IsFirstPart number dump first → IsFirstPart number text part
    → HasRecords first firsts Ending.Whole → AreFilteredAlike settings others firsts
    → IsCleanText others first firsts part

-- each path of a line of mergeinfo in the records is canonical, as svnadmin writes it
abbrev pub HaveShortLines : List DumpRecord → Type 0
HaveShortLines records = (r : DumpRecord) (ps : List Property) (p : Property) (lines : List MergeLine) (line : MergeLine) →
    Contains records r → HasPropertyList r ps → Contains ps p → IsTrue (is_mergeinfo p) → IsMergeinfo (value_of p) lines
    → Contains lines line → IsTrue (is_short line.path)

-- each node with the source of a copy makes something; svnadmin writes no source for a node that is changed or deleted
abbrev pub HaveMadeCopies : List DumpRecord → Type 0
HaveMadeCopies records = (r : DumpRecord) → Contains records r → IsTrue (is_node r) → IsTrue (is_copy r) → IsTrue (makes r)

-- two cuts that don't differ exclude the same of what exists after some of the changes
abbrev pub AlikeCutsCoverTheSame : Type 0
AlikeCutsCoverTheSame = (dump : List ℕ) (changes : List NodeChange) (revisions : List (List Change)) (trees : List Tree)
    (paths others : List NodePath) →
    AreListed changes (placed_from 1 revisions) → IsTrue (are_in_order 0 changes)
    → loaded_over root_alone revisions ≡ Some trees → AreCutAlike dump (map listed_of changes) paths others
    → (path : NodePath) → ExistsOnce revisions path → is_covered paths path ≡ is_covered others path

-- so filters that exclude these paths keep the same of the dump, if it loads, each of its changes does something, and mergeinfo
-- and the sources of copies are as svnadmin writes them
abbrev pub AlikeCutsAreFilteredAlike : Type 0
AlikeCutsAreFilteredAlike = (patched : Patching) (settings others : Settings) (dump : List ℕ) (records : List DumpRecord)
    (changes : List NodeChange) (revisions : List (List Change)) (trees : List Tree) (paths their_paths : List NodePath) →
    HasRecords dump records Ending.Whole → LoadsAs patched root_alone records revisions trees
    → AreListed changes (placed_from 1 revisions) → IsTrue (are_in_order 0 changes)
    → IsTrue (list_all (list_all does_something) revisions) → HaveShortLines records → HaveMadeCopies records
    → ExcludesPaths settings paths → IsTrue (list_all has_node_names paths)
    → ExcludesPaths others their_paths → IsTrue (list_all has_node_names their_paths)
    → settings.empty ≡ others.empty → settings.renumber ≡ others.renumber → settings.preserve ≡ others.preserve
    → settings.skip_missing ≡ others.skip_missing
    → AreCutAlike dump (map listed_of changes) paths their_paths → AreFilteredAlike settings others records

-- the siblings of the same included paths, as they are found in a dump and in the changes of its first revisions, exclude the
-- same of what exists after some change of these
abbrev pub FirstSiblingsCoverTheSame : Type 0
FirstSiblingsCoverTheSame = (changes : List NodeChange) (revisions : List (List Change)) (number : ℕ)
    (included siblings first_siblings : List NodePath) →
    AreListed changes (placed_from 1 revisions) → AreFoundSiblings (map listed_of changes) included siblings
    → AreFoundSiblings (take (end_of (placed_from 1 revisions) number) (map listed_of changes)) included first_siblings
    → (path : NodePath) → ExistsOnce (take number revisions) path
    → is_covered siblings path ≡ is_covered first_siblings path

-- so filters that exclude them keep the same of the first part of a dump that loads. This holds if each change of that part
-- does something, and its mergeinfo and the sources of its copies are as svnadmin writes them
abbrev pub FirstSiblingsFilterAlike : Type 0
FirstSiblingsFilterAlike = (patched : Patching) (settings others : Settings) (number : ℕ) (dump first : List ℕ)
    (records firsts : List DumpRecord) (changes : List NodeChange) (revisions : List (List Change)) (trees : List Tree)
    (included siblings first_siblings : List NodePath) →
    HasRecords dump records Ending.Whole → LoadsAs patched root_alone records revisions trees → number < length trees
    → IsFirstPart number dump first → HasRecords first firsts Ending.Whole → AreListed changes (placed_from 1 revisions)
    → IsTrue (list_all (list_all does_something) (take number revisions)) → HaveShortLines firsts → HaveMadeCopies firsts
    → AreFoundSiblings (map listed_of changes) included siblings → CoverMergeinfo included siblings dump
    → AreFoundSiblings (take (end_of (placed_from 1 revisions) number) (map listed_of changes)) included first_siblings
    → CoverMergeinfo included first_siblings first
    → ExcludesPaths settings siblings → ExcludesPaths others first_siblings
    → settings.empty ≡ others.empty → settings.renumber ≡ others.renumber → settings.preserve ≡ others.preserve
    → settings.skip_missing ≡ others.skip_missing
    → AreFilteredAlike settings others firsts
