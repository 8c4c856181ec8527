use Rattle.dump_rules.proofs.Prelude.{◌≡◌, length, without_leading_slashes}
use Rattle.dump_rules.proofs.prefix.trim_front.Given as goal

abbrev pub invariant-loop-rest : goal.invariant-loop-rest
invariant-loop-rest l = without_leading_slashes l.text ≡ without_leading_slashes l.rest

abbrev pub decreases-loop-rest : goal.decreases-loop-rest
decreases-loop-rest l = length l.rest
