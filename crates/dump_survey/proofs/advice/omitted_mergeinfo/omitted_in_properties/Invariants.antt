use Rattle.dump_survey.proofs.Prelude.{◌≡◌, ◌+◌, ◌≤◌, List, length, Property, IsPropertyBlock, props_bytes, entries_text, HasEntriesLeft, properties_count}
use Rattle.dump_survey.proofs.advice.omitted_mergeinfo.omitted_in_properties.Given as goal

abbrev pub invariant-loop-entry : goal.invariant-loop-entry
invariant-loop-entry l =
    (goal.iterator-loop-entry).can_next l.entries × (goal.iterator-loop-entry).is_finite l.entries
    × (l.count + length (entries_text l.entries) ≤ length (props_bytes l.props))
    × ((ps : List Property) → IsPropertyBlock (props_bytes l.props) ps → (qs : List Property)
    × HasEntriesLeft l.entries qs
    × (properties_count l.options ps ≡ l.count + properties_count l.options qs))
