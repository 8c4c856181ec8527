use Rattle.dump_nodes.proofs.Prelude.{◌≡◌, List, not, list_all, has_byte, Property, IsPropertyBlock, props_bytes, HasEntriesLeft}
use Rattle.dump_nodes.proofs.loaded_texts.are_names_plain.Given as goal

abbrev pub invariant-loop-entry : goal.invariant-loop-entry
invariant-loop-entry l =
    (goal.iterator-loop-entry).can_next l.entries × (goal.iterator-loop-entry).is_finite l.entries
    × ((ps : List Property) → IsPropertyBlock (props_bytes l.props) ps
    → (qs : List Property) × HasEntriesLeft l.entries qs
    × (list_all (λ (p : Property). not (has_byte 0 p.name)) ps
    ≡ list_all (λ (p : Property). not (has_byte 0 p.name)) qs))
