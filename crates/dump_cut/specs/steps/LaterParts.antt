-- The part of a dump after a revision. If a repository has the revisions up to there, a load of the part adds the others.
use Rattle.std.specs.Prelude.{◌≡◌, ℕ, ◌<◌, false, List, length, Some, if◌then◌else◌, ◌≤◌, true, Option, None}
use Rattle.dump_records.specs.DumpText.{Ending, HasRecords}
use Rattle.dump_records.specs.RecordText.{DumpRecord}
use Rattle.dump_filter.specs.Groups.{revision_numbers}
use Rattle.dump_trees.specs.Changes.{Change}
use Rattle.dump_trees.specs.Trees.{Tree, root_alone}
use Rattle.dump_history.specs.DumpChanges.{LoadsAs}
use Rattle.dump_history.specs.RecordChanges.{Patching}
use Rattle.dump_changes.specs.steps.ListedDumps.{are_numbered}
use Rattle.dump_cut.specs.declared.later.NoPart.{NoPart}
use Rattle.dump_cut.specs.declared.later.NoPart.TheVariants.{NotNumbered, NoRevision}
use Rattle.dump_cut.specs.LaterParts.{IsFirstPart, IsLaterPart, KeepsVersion, LoadsInParts}

-- each dump that loads and has this revision loads in parts, if the format version after it is that before the first one;
-- else a node of the later part could be read under another version
abbrev pub DumpsLoadInParts : Type 0
DumpsLoadInParts = (patched : Patching) (number : ℕ) (dump first later : List ℕ) (records : List DumpRecord)
    (revisions : List (List Change)) (trees : List Tree) →
    HasRecords dump records Ending.Whole → LoadsAs patched root_alone records revisions trees → number < length trees
    → KeepsVersion number records → IsFirstPart number dump first → IsLaterPart number dump later
    → LoadsInParts patched number records revisions trees first later

-- why a dump with these records has no part after this revision, if it has none: its revisions aren't numbered 0, 1, 2 and so
-- on, or this isn't one of them
abbrev pub IsWhyNoPart : ℕ → List DumpRecord → Option NoPart → Type 0
IsWhyNoPart number records None = (are_numbered records ≡ true) × (number < length (revision_numbers records))
IsWhyNoPart number records (Some NotNumbered) = are_numbered records ≡ false
IsWhyNoPart number records (Some NoRevision) =
    (are_numbered records ≡ true) × (length (revision_numbers records) ≤ number)
