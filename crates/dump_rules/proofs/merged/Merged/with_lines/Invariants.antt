use Rattle.dump_rules.proofs.Prelude.{◌≡◌, ◌==◌, length, slice_split, lines_merged}
use Rattle.dump_rules.proofs.merged.Merged.with_lines.Given as goal

abbrev pub invariant-loop-lf : goal.invariant-loop-lf
invariant-loop-lf l =
    lines_merged l.options l.fn.self (slice_split (λ b. b == 10) l.text)
    ≡ lines_merged l.options l.merged (slice_split (λ b. b == 10) l.rest)

abbrev pub decreases-loop-lf : goal.decreases-loop-lf
decreases-loop-lf l = length l.rest
