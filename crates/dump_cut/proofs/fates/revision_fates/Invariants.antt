use Rattle.std.proofs.Common.{◌-◌, length}
use Rattle.dump_cut.proofs.FateLemmas.{FatesSoFar}
use Rattle.dump_cut.proofs.fates.revision_fates.Given as goal

abbrev pub invariant-loop-item : goal.invariant-loop-item
invariant-loop-item l = FatesSoFar l.options l.dump l.cutter l.present l.fates.items

abbrev pub decreases-loop-item : goal.decreases-loop-item
decreases-loop-item l = length l.dump - l.cutter.number
