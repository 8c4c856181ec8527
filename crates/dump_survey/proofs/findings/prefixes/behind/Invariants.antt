use Rattle.dump_survey.proofs.Prelude.{◌≡◌, length, behind_slash}
use Rattle.dump_survey.proofs.findings.prefixes.behind.Given as goal

abbrev pub invariant-loop-front : goal.invariant-loop-front
invariant-loop-front l = behind_slash l.fn.front l.fn.text ≡ behind_slash l.front l.text

abbrev pub decreases-loop-front : goal.decreases-loop-front
decreases-loop-front l = length l.front
