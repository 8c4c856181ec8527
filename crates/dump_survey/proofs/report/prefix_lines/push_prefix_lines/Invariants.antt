use Rattle.dump_survey.proofs.Prelude.{◌≡◌, ◌++◌, drop, map, prefix_view, prefix_lines}
use Rattle.dump_survey.proofs.report.prefix_lines.push_prefix_lines.Given as goal

abbrev pub invariant-loop-prefix : goal.invariant-loop-prefix
invariant-loop-prefix l = l.initial.lines.items ++ prefix_lines (map prefix_view l.reported)
    ≡ l.lines.items ++ prefix_lines (map prefix_view (drop l.prefix-index l.reported))
