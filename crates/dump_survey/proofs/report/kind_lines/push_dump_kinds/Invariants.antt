use Rattle.dump_survey.proofs.Prelude.{◌≡◌, ◌++◌, drop, flat_map, every_dump_finding, listed_findings}
use Rattle.dump_survey.specs.Kinds.{dump_kind_line}
use Rattle.dump_survey.proofs.LineLemmas.{lines_if}
use Rattle.dump_survey.proofs.report.kind_lines.push_dump_kinds.Given as goal

abbrev pub invariant-loop-finding : goal.invariant-loop-finding
invariant-loop-finding l = l.initial.lines.items ++ flat_map dump_kind_line (listed_findings l.found)
    ≡ l.lines.items ++ lines_if dump_kind_line l.found (drop l.finding-index every_dump_finding)
