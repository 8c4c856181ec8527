use Rattle.std.proofs.Common.{◌-◌, length}
use Rattle.dump_cut.proofs.TrimmedTextLemmas.{TrimmedSoFar, path_texts}
use Rattle.dump_cut.proofs.trimming.trimmed.Given as goal

abbrev pub invariant-loop-item : goal.invariant-loop-item
invariant-loop-item l = TrimmedSoFar (path_texts l.deletes) l.dump l.cutter l.piece (path_texts l.left) l.from

abbrev pub decreases-loop-item : goal.decreases-loop-item
decreases-loop-item l = length l.dump - l.cutter.number
