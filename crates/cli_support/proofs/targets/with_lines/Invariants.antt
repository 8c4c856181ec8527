use Rattle.std.proofs.Common.{◌≡◌, ◌++◌, length, map}
use Rattle.std.specs.Prelude.{ℕ, List, filter, not}
use Rattle.clap.specs.Walk.{is_empty}
use Rattle.cli_support.specs.Targets.{lines_in_text, prefix_of_line}
use Rattle.cli_support.proofs.targets.with_lines.Given as goal

-- the prefixes in the lines of a text
abbrev prefixes_in : List ℕ → List (List ℕ)
prefixes_in text = filter (λ prefix. not (is_empty prefix)) (map prefix_of_line (lines_in_text text))

abbrev pub invariant-loop-left : goal.invariant-loop-left
invariant-loop-left l = map (λ prefix. prefix.now) l.all.items ++ prefixes_in l.left
    ≡ map (λ prefix. prefix.now) l.fn.prefixes.items ++ prefixes_in l.text

abbrev pub decreases-loop-left : goal.decreases-loop-left
decreases-loop-left l = length l.left
