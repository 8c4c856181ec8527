use Rattle.std.proofs.Common.{◌≡◌, List, length}
use Rattle.std.specs.List.{AllZip}
use Rattle.dump_trees.specs.steps.Looking.{Placed}
use Rattle.dump_index.specs.steps.IndexLaws.{IsListed}
use Rattle.dump_index.specs.steps.ToldKinds.{kinds_told_by}
use Rattle.dump_index.specs.steps.KnownKinds.{AreKindsBehind}
use Rattle.dump_cut.specs.steps.LoadChecks.{NoneRejected}
use Rattle.dump_cut.specs.steps.KindsBefore.{AreSeen}
use Rattle.dump_cut.proofs.load_check.first_rejected.Given as goal

abbrev pub invariant-loop-place : goal.invariant-loop-place
invariant-loop-place l = record {
  taken : (placed : List Placed) → AllZip IsListed l.index placed → NoneRejected (kinds_told_by l.index) placed l.place;
  known : AreKindsBehind l.index l.known.items;
  many : length l.known.items ≡ l.place;
  seen : AreSeen l.index l.place l.seen;
}
