-- What is written of a dump comes from its kept changes, if no record is replaced.
use Rattle.std.specs.Prelude.{ℕ, List, IsTrue}
use Rattle.dump_records.specs.RecordText.{DumpRecord}
use Rattle.dump_rules.specs.Settings.{Settings}
use Rattle.dump_filter.specs.FilterLaws.{LengthsFit}
use Rattle.dump_filter.specs.WholeText.{IsCleanText}
use Rattle.dump_trees.specs.Trees.{Tree}
use Rattle.dump_trees.specs.Changes.{Change}
use Rattle.dump_history.specs.RecordChanges.{Patching}
use Rattle.dump_history.specs.DumpChanges.{MakeRevisions}
use Rattle.dump_history.specs.steps.CutDumps.{leaves_no_gap}
use Rattle.dump_history.specs.steps.TrimmedDumps.{FiltersTrimmed}
use Rattle.dump_history.specs.KeptChanges.{ChangesComeOfKept}

-- the same for what the filter writes of a dump, if it leaves no gap
abbrev pub FilteredChangesAreKept : Type 0
FilteredChangesAreKept = (patched : Patching) (settings : Settings) (dump filtered : List ℕ) (records : List DumpRecord)
    (revisions : List (List Change)) →
    IsCleanText settings dump records filtered → LengthsFit settings records → MakeRevisions patched records revisions
    → IsTrue (leaves_no_gap settings) → ChangesComeOfKept patched settings records revisions filtered

-- and with deletions after its copies
abbrev pub TrimmedChangesAreKept : Type 0
TrimmedChangesAreKept = (patched : Patching) (settings : Settings) (dump : List ℕ) (records : List DumpRecord)
    (revisions : List (List Change)) (trees : List Tree) (text : List ℕ) →
    FiltersTrimmed patched settings dump records revisions trees text
    → IsTrue (leaves_no_gap settings) → ChangesComeOfKept patched settings records revisions text
