use Rattle.std.proofs.Common.{drop}
use Rattle.dump_index.proofs.OrderedLemmas.{OrderedSoFar}
use Rattle.dump_index.proofs.index.first_out_of_order.Given as goal

abbrev pub invariant-loop-place : goal.invariant-loop-place
invariant-loop-place l = OrderedSoFar l.changes l.least l.place
