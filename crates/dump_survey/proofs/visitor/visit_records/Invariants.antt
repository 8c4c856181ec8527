use Rattle.dump_survey.proofs.Prelude.{◌-◌, length}
use Rattle.dump_survey.proofs.VisitLemmas.{VisitedSoFar}
use Rattle.dump_survey.proofs.visitor.visit_records.Given as goal

abbrev pub invariant-loop-item : goal.invariant-loop-item
invariant-loop-item g l = VisitedSoFar g.V.RecordVisitor.has_visited l.dump l.cutter l.initial.visitor l.visitor

abbrev pub decreases-loop-item : goal.decreases-loop-item
decreases-loop-item g l = length l.dump - l.cutter.number
