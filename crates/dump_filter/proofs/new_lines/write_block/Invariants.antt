use Rattle.dump_filter.proofs.Prelude.{◌≡◌, ◌++◌, lines_bytes, lines_left, record_item, renewed_lines}
use Rattle.dump_filter.proofs.new_lines.write_block.Given as goal

abbrev pub invariant-loop-line : goal.invariant-loop-line
invariant-loop-line l =
    (goal.iterator-loop-line).can_next l.lines × (goal.iterator-loop-line).is_finite l.lines
    × (lines_bytes (renewed_lines l.changes (record_item l.item).headers) ≡ l.out.items ++ lines_bytes
    (renewed_lines l.changes (lines_left l.lines)))
