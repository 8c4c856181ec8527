use Rattle.std.proofs.Common.{◌≡◌}
use Rattle.dump_trees.specs.Paths.{names_of}
use Rattle.dump_index.specs.steps.ExistsEver.{exists_ever, exists_within}
use Rattle.dump_index.proofs.index.ChangeIndex.exists_ever.Given as goal

abbrev pub invariant-loop-kind : goal.invariant-loop-kind
invariant-loop-kind l = exists_ever l.self (names_of l.path) ≡ exists_within l.self l.count (names_of l.path)

abbrev pub decreases-loop-kind : goal.decreases-loop-kind
decreases-loop-kind l = l.count
