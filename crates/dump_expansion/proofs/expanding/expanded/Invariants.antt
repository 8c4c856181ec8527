use Rattle.std.proofs.Common.{◌-◌, length, map}
use Rattle.dump_expansion.specs.steps.Given.{given_of}
use Rattle.dump_expansion.proofs.ExpandingLemmas.{ExpandedSoFar}
use Rattle.dump_expansion.proofs.expanding.expanded.Given as goal

abbrev pub invariant-loop-item : goal.invariant-loop-item
invariant-loop-item l =
    ExpandedSoFar (map given_of l.steads) l.dump l.cutter l.text.items (map given_of l.left) l.from

abbrev pub decreases-loop-item : goal.decreases-loop-item
decreases-loop-item l = length l.dump - l.cutter.number
