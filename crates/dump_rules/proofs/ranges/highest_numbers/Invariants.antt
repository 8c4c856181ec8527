use Rattle.dump_rules.proofs.Prelude.{◌≡◌, length, highest_numbers, range_parts}
use Rattle.dump_rules.proofs.ranges.highest_numbers.Given as goal

abbrev pub invariant-loop-comma : goal.invariant-loop-comma
invariant-loop-comma l = highest_numbers (record { inheritable = 0; starred = 0 }) (range_parts l.list) ≡ highest_numbers l.highest
    (range_parts l.rest)

abbrev pub decreases-loop-comma : goal.decreases-loop-comma
decreases-loop-comma l = length l.rest
