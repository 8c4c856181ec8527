-- The law of a partial dump, which begins above revision 0, as svnadmin dump -r writes it. A load into a new repository
-- gives its revisions the numbers 1, 2 and so on, and lowers the numbers of its copies by as much (svnadmin load of
-- Subversion 1.14, load-fs-vtable.c).
use Rattle.std.specs.Prelude.{◌≡◌, ℕ, suc, ◌-◌, Bool, not, ◌&&◌, ◌==◌, List, [], ◌∷◌, length, map, Some, IsSome, IsTrue, MatchBool}
use Rattle.std.specs.List.{AllZip}
use Rattle.dump_text.specs.PropertyList.{Property}
use Rattle.dump_records.specs.DumpText.{Ending, HasRecords}
use Rattle.dump_records.specs.RecordText.{DumpRecord}
use Rattle.dump_rules.specs.Settings.{Settings}
use Rattle.dump_rules.specs.Renumbering.{KeptRevisions, image}
use Rattle.dump_digest.specs.RecordParts.{is_mergeinfo}
use Rattle.dump_filter.specs.FilterLaws.{LengthsFit}
use Rattle.dump_filter.specs.Groups.{groups, kept_revisions, revision_numbers}
use Rattle.dump_filter.specs.NewContent.{IsNewProperty}
use Rattle.dump_filter.specs.WholeText.{IsCleanText}
use Rattle.dump_trees.specs.Trees.{Tree, root_alone}
use Rattle.dump_trees.specs.Changes.{Change}
use Rattle.dump_trees.specs.Restriction.{NewProperty}
use Rattle.dump_trees.specs.Quiet.{are_quiet, nowhere_is_over}
use Rattle.dump_trees.specs.Revisions.{loaded_over, AllRevisionsSeparate}
use Rattle.dump_trees.specs.MovedLaws.{revisions_behind, AreRevisionsBehind}
use Rattle.dump_trees.specs.HistoryLaws.{ImagesRestrict}
use Rattle.dump_history.specs.RecordChanges.{Patching}
use Rattle.dump_history.specs.RaisedMergeinfo.{IsRaised}
use Rattle.dump_history.specs.DumpChanges.{counts_from, has_ordered_nodes, MakeChanges}
use Rattle.dump_history.specs.NumberGaps.{count_to_gap, KeepsNamedNumbers}
use Rattle.dump_history.specs.DumpLaws.{RevisionsKeepProperties, HasNoGapIfKept, LoadBehindGiven}

-- the dump's first revision has the number after this one, and the others are numbered on from there. Its nodes are in
-- them, and make these changes, the numbers of whose copies are lowered by it. So none copies from an earlier revision
pub record MakePartRevisions (patched : Patching) (before : ℕ) (records : List DumpRecord)
    (revisions : List (List Change)) : Type 0 where
  pub numbered : IsTrue (counts_from (suc before) (revision_numbers records))
  pub ordered : IsTrue (has_ordered_nodes Bool.false records)
  pub changes : AllZip (MakeChanges patched) (groups records) (revisions_behind before revisions)

-- the same of a part with a gap in its numbers, perhaps before its first one, after which no change names a revision
pub record MakePartRevisionsWithGaps (patched : Patching) (before : ℕ) (records : List DumpRecord)
    (revisions : List (List Change)) : Type 0 where
  pub numbered : IsTrue (count_to_gap (suc before) (revision_numbers records) revisions)
  pub ordered : IsTrue (has_ordered_nodes Bool.false records)
  pub changes : AllZip (MakeChanges patched) (groups records) (revisions_behind before revisions)

-- a part without gaps is one of those that may have gaps
abbrev pub NoGapIsNeededInPart : Type 0
NoGapIsNeededInPart = (patched : Patching) (before : ℕ) (records : List DumpRecord) (revisions : List (List Change)) →
    MakePartRevisions patched before records revisions → MakePartRevisionsWithGaps patched before records revisions

-- the part is loaded into a repository that has revision 0 alone, with the first tree: it makes these revisions, and
-- then these are the repository's trees, that of revision 0 among them; mergeinfo is as in the dump
pub record PartLoadsAs (patched : Patching) (before : ℕ) (first : Tree) (records : List DumpRecord)
    (revisions : List (List Change)) (trees : List Tree) : Type 0 where
  pub makes : MakePartRevisions patched before records revisions
  pub loads : loaded_over first revisions ≡ Some trees

-- a property in the dump, and as it is loaded into a new repository: if the load lowers numbers it lowers those in
-- mergeinfo too, and omits some; of its new value nothing is said here
abbrev pub IsLoadedProperty : ℕ → Property → Property → Type 0
IsLoadedProperty before old new = (new.name ≡ old.name)
    × MatchBool (is_mergeinfo old && not (before == 0)) (IsSome new.value) (new.value ≡ old.value)

-- the same if it is loaded after one revision: a part that begins at revision 1 has its mergeinfo raised by one
abbrev pub IsLoadedBehindOne : ℕ → Property → Property → Type 0
IsLoadedBehindOne before old new = MatchBool (before == 0) (IsRaised 1 old new) (IsLoadedProperty before old new)

-- a property of the dump, and what becomes of it if what is written is loaded so
abbrev pub IsPropertyLoaded : NewProperty → Settings → KeptRevisions → Property → Property → Type 0
IsPropertyLoaded IsLoaded settings kept old new =
    (written : Property) × IsNewProperty settings kept old written × IsLoaded written new

-- the kept revisions, under the numbers that a load of the part into a new repository gives them; revision 0 is the
-- repository's own
abbrev pub kept_as_loaded : ℕ → KeptRevisions → KeptRevisions
kept_as_loaded before kept = record { first = 0; numbers = 0 ∷ map (λ number. number - before) kept.numbers }

-- there is a tree for each kept revision of the records, and one for the revision before them
abbrev pub HasTreeForEachKept : Settings → List DumpRecord → List Tree → Type 0
HasTreeForEachKept settings records others = length others ≡ suc (length (kept_revisions settings records).numbers)

-- the trees at the images of the loaded part's numbers are its trees, restricted
abbrev pub PartTreesRestrict : NewProperty → ℕ → Settings → List DumpRecord → (trees others : List Tree) → Type 0
PartTreesRestrict IsLoaded before settings records trees others =
    ImagesRestrict settings (IsPropertyLoaded IsLoaded settings (kept_revisions settings records))
    (image (kept_as_loaded before (kept_revisions settings records))) trees others

-- what is written makes these changes, and is loaded after these older revisions and one that has the parent
-- directories. The load raises the number of each copy by their count. Then the trees are those of the loaded part,
-- restricted
abbrev pub PartLoadsBehind : NewProperty → List Tree → ℕ → Settings → List DumpRecord → List Tree → List (List Change)
    → Type 0
PartLoadsBehind IsLoaded older before settings records trees written =
    (moved : List (List Change)) → AreRevisionsBehind IsLoaded (length older) written moved
    → (others : List Tree) × LoadBehindGiven settings older moved others × HasTreeForEachKept settings records others
    × PartTreesRestrict IsLoaded before settings records trees others

-- the text is a partial dump with the same first number, or with a gap in its numbers there or later, or has no
-- revision. It loads into a new repository whose revision 0 has the parent directories, and into one whose revision 1
-- has them. There is a revision for each kept one of these records, with its properties, and the trees are these trees,
-- restricted
abbrev pub PartLoadsRestricted : Patching → ℕ → Settings → List DumpRecord → List Tree → List ℕ → Type 0
PartLoadsRestricted patched before settings records trees text =
    (again : List DumpRecord) × (written : List (List Change))
    × HasRecords text again Ending.Whole
    × MakePartRevisionsWithGaps patched before again written
    × HasNoGapIfKept settings records (suc before) again
    × PartLoadsBehind (IsLoadedProperty before) [] before settings records trees written
    × PartLoadsBehind (IsLoadedBehindOne before) (root_alone ∷ []) before settings records trees written
    × RevisionsKeepProperties settings records again

-- a part that loads, and whose changes are separated: what the filter writes of it loads, and has the restricted trees
abbrev pub FilteredPartRestricts : Type 0
FilteredPartRestricts = (patched : Patching) (before : ℕ) (settings : Settings) (dump text : List ℕ)
    (records : List DumpRecord) (revisions : List (List Change)) (trees : List Tree) →
    IsCleanText settings dump records text → LengthsFit settings records
    → KeepsNamedNumbers settings records
    → PartLoadsAs patched before root_alone records revisions trees
    → AllRevisionsSeparate settings (root_alone ∷ []) root_alone revisions
    → PartLoadsRestricted patched before settings records trees text

-- the same of a part whose changes are quiet, and which makes no copy that loses its source over an existing node
abbrev pub QuietPartRestricts : Type 0
QuietPartRestricts = (patched : Patching) (before : ℕ) (settings : Settings) (dump text : List ℕ)
    (records : List DumpRecord) (revisions : List (List Change)) (trees : List Tree) →
    IsCleanText settings dump records text → LengthsFit settings records
    → KeepsNamedNumbers settings records
    → PartLoadsAs patched before root_alone records revisions trees
    → IsTrue (are_quiet settings revisions)
    → IsTrue (nowhere_is_over settings (root_alone ∷ []) root_alone revisions)
    → PartLoadsRestricted patched before settings records trees text
