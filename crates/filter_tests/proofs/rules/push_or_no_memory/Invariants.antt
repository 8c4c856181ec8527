use Rattle.std.proofs.Common.{◌≡◌, ◌<◌, All}
use Rattle.filter_tests.proofs.rules.push_or_no_memory.Given as goal

abbrev pub invariant-loop-revision : goal.invariant-loop-revision
invariant-loop-revision g l = (l.reach.first ≡ 5) × All (λ k. k < l.revision) l.reach.numbers
