use Rattle.dump_text.proofs.Prelude.{◌≡◌, List, length, Property, IsPropertyBlock, property_value, IsPartBetween, props_bytes, entries_text, HasEntriesLeft}
use Rattle.dump_text.proofs.props.Props.get.Given as goal

abbrev pub invariant-loop-entry : goal.invariant-loop-entry
invariant-loop-entry l =
    (goal.iterator-loop-entry).can_next l.entries × (goal.iterator-loop-entry).is_finite l.entries
    × ((ps : List Property) → IsPropertyBlock (props_bytes l.self) ps
    → (qs : List Property) × HasEntriesLeft l.entries qs × (property_value l.name ps ≡ property_value l.name qs))
    × IsPartBetween (props_bytes l.self) 0 (length (props_bytes l.self)) (entries_text l.entries)
