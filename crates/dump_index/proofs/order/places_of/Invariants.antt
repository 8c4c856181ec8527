use Rattle.std.proofs.Common.{◌≡◌, map, take}
use Rattle.dump_index.specs.steps.Keys.{place_of}
use Rattle.dump_index.proofs.order.places_of.Given as goal

abbrev pub invariant-loop-key : goal.invariant-loop-key
invariant-loop-key l = l.places.items ≡ map place_of (take l.key-index l.keys)
