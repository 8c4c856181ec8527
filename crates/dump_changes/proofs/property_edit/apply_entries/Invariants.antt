use Rattle.std.proofs.Common.{◌≡◌, List, map}
use Rattle.dump_text.specs.PropertyList.{IsPropertyBlock, Property}
use Rattle.dump_text.specs.steps.PropertyViews.{HasEntriesLeft, props_bytes}
use Rattle.dump_trees.specs.Changes.{edited_with}
use Rattle.dump_changes.specs.steps.ChangedProperties.{as_property}
use Rattle.dump_changes.proofs.property_edit.apply_entries.Given as goal

abbrev pub invariant-loop-entry : goal.invariant-loop-entry
invariant-loop-entry l =
    (goal.iterator-loop-entry).can_next l.entries × (goal.iterator-loop-entry).is_finite l.entries
    × ((ps : List Property) → IsPropertyBlock (props_bytes l.block) ps → (left : List Property)
    × HasEntriesLeft l.entries left
    × (edited_with left (map as_property l.props.items) ≡ edited_with ps (map as_property l.fn.props.items)))
