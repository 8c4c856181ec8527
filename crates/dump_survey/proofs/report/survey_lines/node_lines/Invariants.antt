use Rattle.dump_survey.proofs.Prelude.{◌≡◌, ◌++◌, drop, flat_map, every_finding, reported_of_finding, reported_of_node}
use Rattle.dump_survey.specs.Lines.{node_line}
use Rattle.dump_survey.proofs.ReportedLemmas.{reported_left}
use Rattle.dump_survey.proofs.report.survey_lines.node_lines.Given as goal

abbrev pub invariant-loop-finding : goal.invariant-loop-finding
invariant-loop-finding l = flat_map node_line (reported_of_node l.node)
    ≡ l.lines.items ++ flat_map node_line
    (reported_left (reported_of_finding l.node) l.node.found (drop l.finding-index every_finding))
