use Rattle.dump_text.specs.steps.PropertyViews.{props_bytes, entries_text}
use Rattle.dump_filter.proofs.written.PropertyOutput.{IsLeftOf}
use Rattle.dump_filter.proofs.new_properties.write_entries.Given as goal

abbrev pub invariant-loop-entry : goal.invariant-loop-entry
invariant-loop-entry l =
    (goal.iterator-loop-entry).can_next l.entries × (goal.iterator-loop-entry).is_finite l.entries
    × IsLeftOf (props_bytes l.props) l.out.items (entries_text l.entries)
