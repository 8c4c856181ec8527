use Rattle.std.proofs.Common.{length, map}
use Rattle.dump_survey.proofs.NeedLemmas.{UncoveredSoFar}
use Rattle.dump_survey.proofs.advice.added_prefixes.uncovered.Given as goal

abbrev pub invariant-loop-left : goal.invariant-loop-left
invariant-loop-left l = UncoveredSoFar (map (λ path. path.now) l.paths) (map (λ path. path.now) l.left) l.behind
    (map (λ path. path.now) l.top.items)

abbrev pub decreases-loop-left : goal.decreases-loop-left
decreases-loop-left l = length l.left
