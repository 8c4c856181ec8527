use Rattle.dump_filter.proofs.Prelude.{props_bytes, entries_text, HasGoodMergeinfo}
use Rattle.dump_filter.proofs.written.PropertyOutput.{AreRewritten}
use Rattle.dump_filter.proofs.new_properties.write_rewritten.Given as goal

abbrev pub invariant-loop-entry : goal.invariant-loop-entry
invariant-loop-entry l =
    (goal.iterator-loop-entry).can_next l.entries × (goal.iterator-loop-entry).is_finite l.entries
    × AreRewritten l.options l.kept (props_bytes l.props) l.out.items (entries_text l.entries)
    × HasGoodMergeinfo (entries_text l.entries)
