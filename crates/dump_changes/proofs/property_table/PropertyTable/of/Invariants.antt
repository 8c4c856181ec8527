use Rattle.std.proofs.Common.{◌-◌, length}
use Rattle.dump_changes.proofs.TableLemmas.{PartsSoFar}
use Rattle.dump_changes.proofs.property_table.PropertyTable.of.Given as goal

abbrev pub invariant-loop-item : goal.invariant-loop-item
invariant-loop-item l = PartsSoFar (λ block. block.now) (λ r. r.props) l.dump l.cutter l.blocks.items

abbrev pub decreases-loop-item : goal.decreases-loop-item
decreases-loop-item l = length l.dump - l.cutter.number
