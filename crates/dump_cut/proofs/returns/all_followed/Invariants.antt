use Rattle.std.proofs.Common.{◌≡◌, List, map}
use Rattle.std.specs.List.{AllZip}
use Rattle.dump_trees.specs.steps.FollowedRests.{all_rests}
use Rattle.dump_trees.specs.steps.Looking.{Placed}
use Rattle.dump_index.specs.steps.IndexLaws.{IsListed}
use Rattle.dump_index.specs.steps.ToldKinds.{kinds_told_by}
use Rattle.dump_cut.specs.steps.ExcludedPaths.{paths_of}
use Rattle.dump_cut.specs.steps.Returned.{rest_meant, way_meant}
use Rattle.dump_cut.proofs.returns.all_followed.Given as goal

abbrev pub invariant-loop-place : goal.invariant-loop-place
invariant-loop-place l = (placed : List Placed) → AllZip IsListed l.index placed
    → map rest_meant l.found.items
    ≡ all_rests (way_meant l.way) (paths_of l.excluded) (kinds_told_by l.index) placed l.place
