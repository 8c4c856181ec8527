use Rattle.std.proofs.Common.{◌≡◌, filter, map, take}
use Rattle.dump_index.specs.steps.Listed.{listed_of}
use Rattle.dump_index.specs.steps.Keys.{has_effect_here}
use Rattle.dump_index.proofs.order.chosen.Given as goal

abbrev pub invariant-loop-place : goal.invariant-loop-place
invariant-loop-place l =
    l.found.items ≡ filter (has_effect_here l.effect (map listed_of l.changes)) (take l.place-index l.places)
