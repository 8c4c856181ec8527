use Rattle.std.proofs.Common.{◌≡◌, ◌-◌, ◌+◌, ◌^◌, take, map, flat_map, length, min}
use Rattle.dump_text.specs.PropertyList.{entry_text}
use Rattle.dump_changes.specs.steps.ChangedProperties.{as_property}
use Rattle.dump_expansion.proofs.written_node.block_size.Given as goal

abbrev pub invariant-loop-entry : goal.invariant-loop-entry
invariant-loop-entry l =
    l.size ≡ min (10 + length (flat_map entry_text (map as_property (take l.entry-index l.entries)))) (2 ^ 64 - 1)
