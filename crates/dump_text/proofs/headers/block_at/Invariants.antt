use Rattle.dump_text.proofs.Prelude.{◌≡◌, List, ◌++◌, length, true, list_all, known_names, Header, is_header, lines_bytes, AreValues}
use Rattle.dump_text.proofs.BlockLemmas.{counts_once}
use Rattle.dump_text.proofs.headers.block_at.Given as goal

abbrev pub invariant-loop-whole : goal.invariant-loop-whole
invariant-loop-whole l = (hs : List Header) × (l.text ≡ lines_bytes hs ++ l.rest) × (list_all is_header hs ≡ true)
    × (counts_once known_names hs ≡ true) × AreValues l.dump hs l.spans

abbrev pub decreases-loop-whole : goal.decreases-loop-whole
decreases-loop-whole l = length l.rest
