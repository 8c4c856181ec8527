use Rattle.std.proofs.Common.{length, ◌-◌}
use Rattle.dump_cut.proofs.LaterLemmas.{CountedSoFar}
use Rattle.dump_cut.proofs.later.count_revisions.Given as goal

abbrev pub invariant-loop-item : goal.invariant-loop-item
invariant-loop-item l = CountedSoFar l.dump l.cutter l.count

abbrev pub decreases-loop-item : goal.decreases-loop-item
decreases-loop-item l = length l.dump - l.cutter.number
