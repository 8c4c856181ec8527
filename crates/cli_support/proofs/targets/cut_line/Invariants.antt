use Rattle.std.proofs.Common.{◌≡◌, ◌≤◌, ◌-◌, length, take, drop}
use Rattle.cli_support.specs.Targets.{lines_in_text}
use Rattle.cli_support.proofs.TargetLemmas.{joined}
use Rattle.cli_support.proofs.targets.cut_line.Given as goal

abbrev pub invariant-loop-count : goal.invariant-loop-count
invariant-loop-count l = (l.count ≤ length l.text)
    × (lines_in_text l.text ≡ joined (take l.count l.text) (lines_in_text (drop l.count l.text)))

abbrev pub decreases-loop-count : goal.decreases-loop-count
decreases-loop-count l = length l.text - l.count
