use Rattle.std.proofs.Common.{◌≡◌, ◌++◌, drop, map, flat_map}
use Rattle.dump_text.specs.PropertyList.{entry_text}
use Rattle.dump_changes.specs.steps.ChangedProperties.{as_property}
use Rattle.dump_expansion.proofs.written_node.block_of.Given as goal

abbrev pub invariant-loop-entry : goal.invariant-loop-entry
invariant-loop-entry l =
    l.block.items ++ flat_map entry_text (map as_property (drop l.entry-index l.entries))
    ≡ flat_map entry_text (map as_property l.entries)
