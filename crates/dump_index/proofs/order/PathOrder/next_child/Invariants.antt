use Rattle.std.proofs.Common.{◌≤◌, ◌-◌, length, map}
use Rattle.dump_index.specs.steps.Listed.{listed_of}
use Rattle.dump_index.specs.steps.Keys.{keys_in}
use Rattle.dump_index.specs.steps.Below.{NoneBelow}
use Rattle.dump_index.proofs.order.PathOrder.next_child.Given as goal

abbrev pub invariant-loop-place : goal.invariant-loop-place
invariant-loop-place l = record {
  first : l.from ≤ l.at;
  none : NoneBelow (keys_in (map listed_of l.changes) l.places) l.top l.from l.at;
}

abbrev pub decreases-loop-place : goal.decreases-loop-place
decreases-loop-place l = length l.places - l.at
