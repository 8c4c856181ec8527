use Rattle.dump_survey.proofs.LeavingLemmas.{HaveLeft}
use Rattle.dump_survey.proofs.findings.prefix_set.PrefixSet.leave.Given as goal

abbrev pub invariant-loop-place : goal.invariant-loop-place
invariant-loop-place l = HaveLeft l.fn.self l.path l.place l.self
