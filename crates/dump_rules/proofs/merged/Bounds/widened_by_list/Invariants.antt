use Rattle.dump_rules.proofs.Prelude.{◌≡◌, length, range_parts, parts_bounds}
use Rattle.dump_rules.proofs.merged.Bounds.widened_by_list.Given as goal

abbrev pub invariant-loop-comma : goal.invariant-loop-comma
invariant-loop-comma l =
    parts_bounds l.fn.bounds (range_parts l.list) ≡ parts_bounds l.bounds (range_parts l.rest)

abbrev pub decreases-loop-comma : goal.decreases-loop-comma
decreases-loop-comma l = length l.rest
