use Rattle.std.proofs.Common.{◌≡◌, take, true, not}
use Rattle.std.specs.List.{list_all}
use Rattle.dump_text.specs.HeaderLine.{has_byte}
use Rattle.dump_changes.specs.declared.property_edit.NodeProperty.{NodeProperty}
use Rattle.dump_expansion.proofs.written_node.are_names_plain.Given as goal

abbrev pub invariant-loop-entry : goal.invariant-loop-entry
invariant-loop-entry l =
    list_all (λ (entry : NodeProperty). not (has_byte 0 entry.name.now)) (take l.entry-index l.entries) ≡ true
