use Rattle.dump_survey.proofs.Prelude.{drop, every_finding}
use Rattle.dump_survey.proofs.CountLemmas.{IsCounting}
use Rattle.dump_survey.proofs.report.counts.Counts.with.Given as goal

abbrev pub invariant-loop-finding : goal.invariant-loop-finding
invariant-loop-finding l = IsCounting l.self l.found (drop l.finding-index every_finding) l.times
