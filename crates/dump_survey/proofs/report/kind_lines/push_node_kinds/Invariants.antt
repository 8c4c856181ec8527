use Rattle.dump_survey.proofs.Prelude.{◌≡◌, ◌++◌, drop, flat_map, finding_row, kind_line, count_in}
use Rattle.dump_survey.proofs.report.kind_lines.push_node_kinds.Given as goal

abbrev pub invariant-loop-finding : goal.invariant-loop-finding
invariant-loop-finding l = l.initial.lines.items
    ++ flat_map (λ f. kind_line (count_in l.counts f) (finding_row f).kind) l.findings
    ≡ l.lines.items
    ++ flat_map (λ f. kind_line (count_in l.counts f) (finding_row f).kind) (drop l.finding-index l.findings)
