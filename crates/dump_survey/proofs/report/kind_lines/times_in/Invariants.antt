use Rattle.dump_survey.proofs.Prelude.{◌≡◌, ◌+◌, ◌≤◌, drop, map, times_in_prefixes, prefix_view}
use Rattle.dump_survey.proofs.report.kind_lines.times_in.Given as goal

abbrev pub invariant-loop-prefix : goal.invariant-loop-prefix
invariant-loop-prefix l = record {
  counted : times_in_prefixes (map prefix_view l.reported) l.finding
      ≡ l.times + times_in_prefixes (map prefix_view (drop l.prefix-index l.reported)) l.finding;
  low : l.times ≤ l.prefix-index;
}
