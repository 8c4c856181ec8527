use Rattle.std.proofs.Common.{◌-◌, length}
use Rattle.dump_changes.proofs.StepLemmas.{ChangesSoFar}
use Rattle.dump_changes.proofs.read.read_changes.Given as goal

abbrev pub invariant-loop-item : goal.invariant-loop-item
invariant-loop-item l = ChangesSoFar l.dump l.cutter l.at l.changes.items l.numbers.items

abbrev pub decreases-loop-item : goal.decreases-loop-item
decreases-loop-item l = length l.dump - l.cutter.number
