use Rattle.std.proofs.Common.{length, ◌-◌}
use Rattle.dump_cut.proofs.LaterLemmas.{NoneSoFar}
use Rattle.dump_cut.specs.steps.CountedRevisions.{is_after}
use Rattle.dump_cut.proofs.later.first_place.Given as goal

abbrev pub invariant-loop-item : goal.invariant-loop-item
invariant-loop-item l = NoneSoFar (is_after l.number) l.dump l.cutter

abbrev pub decreases-loop-item : goal.decreases-loop-item
decreases-loop-item l = length l.dump - l.cutter.number
