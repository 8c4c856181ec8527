use Rattle.std.proofs.Common.{◌≡◌, ◌≤◌, length, take}
use Rattle.cli_support.specs.Targets.{before_blanks}
use Rattle.cli_support.proofs.targets.before_blanks.Given as goal

abbrev pub invariant-loop-count : goal.invariant-loop-count
invariant-loop-count l = (l.count ≤ length l.line) × (before_blanks l.line ≡ before_blanks (take l.count l.line))

abbrev pub decreases-loop-count : goal.decreases-loop-count
decreases-loop-count l = l.count
