use Rattle.std.proofs.Common.{◌≡◌, length}
use Rattle.cli_support.specs.Targets.{after_blanks}
use Rattle.cli_support.proofs.targets.after_blanks.Given as goal

abbrev pub invariant-loop-left : goal.invariant-loop-left
invariant-loop-left l = after_blanks l.line ≡ after_blanks l.left

abbrev pub decreases-loop-left : goal.decreases-loop-left
decreases-loop-left l = length l.left
