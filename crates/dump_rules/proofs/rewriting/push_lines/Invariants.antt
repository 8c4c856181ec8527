use Rattle.dump_rules.proofs.Prelude.{◌≡◌, ◌==◌, true, length, list_all, slice_split, line_reads, with_new_lines}
use Rattle.dump_rules.proofs.rewriting.push_lines.Given as goal

abbrev pub invariant-loop-lf : goal.invariant-loop-lf
invariant-loop-lf l = record {
  read : list_all line_reads (slice_split (λ b. b == 10) l.rest) ≡ true;
  written : with_new_lines l.options l.reach l.fn.out.items (slice_split (λ b. b == 10) l.text)
      ≡ with_new_lines l.options l.reach l.out.items (slice_split (λ b. b == 10) l.rest);
}

abbrev pub decreases-loop-lf : goal.decreases-loop-lf
decreases-loop-lf l = length l.rest
