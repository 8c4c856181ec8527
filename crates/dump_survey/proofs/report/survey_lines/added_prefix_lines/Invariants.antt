use Rattle.dump_survey.proofs.Prelude.{◌≡◌, ◌++◌, drop, map, added_prefix_lines}
use Rattle.dump_survey.proofs.report.survey_lines.added_prefix_lines.Given as goal

abbrev pub invariant-loop-path : goal.invariant-loop-path
invariant-loop-path l = added_prefix_lines l.side (map (λ path. path.now) l.paths)
    ≡ l.lines.items ++ added_prefix_lines l.side (map (λ path. path.now) (drop l.path-index l.paths))
