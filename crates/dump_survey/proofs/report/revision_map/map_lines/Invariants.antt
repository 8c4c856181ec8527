use Rattle.dump_survey.proofs.Prelude.{◌≡◌, ◌++◌, drop, flat_map, map_lines, kept_view}
use Rattle.dump_survey.specs.RevisionMap.{map_line}
use Rattle.dump_survey.proofs.report.revision_map.map_lines.Given as goal

abbrev pub invariant-loop-number : goal.invariant-loop-number
invariant-loop-number l = map_lines l.options (kept_view l.kept)
    ≡ l.lines.items ++ flat_map (map_line l.options (kept_view l.kept)) (drop l.number-index l.kept.numbers.items)
