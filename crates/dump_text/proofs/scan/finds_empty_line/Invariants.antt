use Rattle.dump_text.proofs.Prelude.{◌≡◌, length, has_empty_line}
use Rattle.dump_text.proofs.scan.finds_empty_line.Given as goal

abbrev pub invariant-loop-others : goal.invariant-loop-others
invariant-loop-others l = has_empty_line l.text ≡ has_empty_line l.rest

abbrev pub decreases-loop-others : goal.decreases-loop-others
decreases-loop-others l = length l.rest
