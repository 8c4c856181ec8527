use Rattle.dump_survey.proofs.Prelude.{◌≡◌, ◌++◌, drop, flat_map, every_dump_finding, reported_at_end, dump_line}
use Rattle.dump_survey.specs.DumpReport.{reported_of_dump}
use Rattle.dump_survey.proofs.LineLemmas.{lines_if}
use Rattle.dump_survey.proofs.report.survey_lines.push_dump_lines.Given as goal

abbrev pub invariant-loop-finding : goal.invariant-loop-finding
invariant-loop-finding l = l.initial.lines.items ++ flat_map dump_line (reported_at_end l.end)
    ≡ l.lines.items
    ++ lines_if (λ f. dump_line (reported_of_dump l.end f)) l.end.dump (drop l.finding-index every_dump_finding)
