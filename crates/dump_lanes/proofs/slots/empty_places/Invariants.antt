use Rattle.std.proofs.Common.{◌≡◌, None, replicate}
use Rattle.dump_lanes.proofs.slots.empty_places.Given as goal

-- each turn has added a place
abbrev pub invariant-loop : goal.invariant-loop
invariant-loop g l = l.places.items ≡ replicate l.counter None
