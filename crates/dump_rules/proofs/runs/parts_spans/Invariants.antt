use Rattle.dump_rules.proofs.Prelude.{◌≡◌, ◌++◌, map, length, parts_ranges, range_parts, span_range}
use Rattle.dump_rules.proofs.runs.parts_spans.Given as goal

abbrev pub invariant-loop-comma : goal.invariant-loop-comma
invariant-loop-comma l =
    parts_ranges l.renumber l.reach
    (range_parts l.list) ≡ map span_range l.spans.items ++ parts_ranges l.renumber l.reach (range_parts l.rest)

abbrev pub decreases-loop-comma : goal.decreases-loop-comma
decreases-loop-comma l = length l.rest
