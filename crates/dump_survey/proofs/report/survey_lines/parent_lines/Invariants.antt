use Rattle.dump_survey.proofs.Prelude.{◌≡◌, ◌++◌, drop, map, parent_lines}
use Rattle.dump_survey.proofs.report.survey_lines.parent_lines.Given as goal

abbrev pub invariant-loop-path : goal.invariant-loop-path
invariant-loop-path l = parent_lines (map (λ path. path.now) l.directories)
    ≡ l.lines.items ++ parent_lines (map (λ path. path.now) (drop l.path-index l.directories))
