use Rattle.dump_survey.proofs.Prelude.{◌≡◌, ◌++◌, drop, map, every_finding, reported_view, reported_of_finding, reported_of_node}
use Rattle.dump_survey.proofs.ReportedLemmas.{reported_left}
use Rattle.dump_survey.proofs.findings.reported.SurveyedNode.report.Given as goal

abbrev pub invariant-loop-finding : goal.invariant-loop-finding
invariant-loop-finding l = map reported_view l.initial.reported.items ++ reported_of_node l.self
    ≡ map reported_view l.reported.items
    ++ reported_left (reported_of_finding l.self) l.self.found (drop l.finding-index every_finding)
