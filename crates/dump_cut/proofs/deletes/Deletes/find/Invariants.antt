use Rattle.std.proofs.Common.{◌≡◌, List, true}
use Rattle.std.specs.List.{AllZip}
use Rattle.dump_trees.specs.steps.Looking.{Placed}
use Rattle.dump_index.specs.steps.IndexLaws.{IsListed}
use Rattle.dump_index.specs.steps.ToldKinds.{kinds_told_by}
use Rattle.dump_cut.specs.steps.TrimmedCopies.{are_plain}
use Rattle.dump_cut.specs.steps.Deletes.{delete_texts_of}
use Rattle.dump_cut.specs.steps.ExcludedPaths.{paths_of}
use Rattle.dump_cut.proofs.FoundDeletes.{AreDeletesUpTo}
use Rattle.dump_cut.proofs.deletes.Deletes.find.Given as goal

abbrev pub invariant-loop-place : goal.invariant-loop-place
invariant-loop-place l = record {
  plain : (are_plain (delete_texts_of l.behind.items) ≡ true);
  deletes : ((placed : List Placed) → AllZip IsListed l.index placed
      → AreDeletesUpTo (paths_of l.excluded) (kinds_told_by l.index) placed l.place l.behind.items);
}
