use Rattle.dump_text.proofs.Prelude.{◌≡◌, header_value, IsPartBetween, lines_left, lines_text, block_dump, block_place, block_after, block_headers}
use Rattle.dump_text.proofs.block.Block.get.Given as goal

abbrev pub invariant-loop-line : goal.invariant-loop-line
invariant-loop-line l =
    (goal.iterator-loop-line).can_next l.lines × (goal.iterator-loop-line).is_finite l.lines
    × (header_value l.name (lines_left l.lines) ≡ header_value l.name (block_headers l.self))
    × IsPartBetween (block_dump l.self) (block_place l.self) (block_after l.self) (lines_text l.lines)
