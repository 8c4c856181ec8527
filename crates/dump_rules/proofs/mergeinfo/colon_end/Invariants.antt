use Rattle.dump_rules.proofs.Prelude.{◌≡◌, ◌+◌, ◌-◌, ◌≤◌, ◌==◌, not, take, length, suffix_len}
use Rattle.dump_rules.proofs.mergeinfo.colon_end.Given as goal

abbrev pub invariant-loop-place : goal.invariant-loop-place
invariant-loop-place l = record {
  within : l.place ≤ length l.line;
  left : suffix_len (λ b. not (b == 58)) l.line ≡ (length l.line - l.place) + suffix_len (λ b. not (b == 58))
      (take l.place l.line);
}

abbrev pub decreases-loop-place : goal.decreases-loop-place
decreases-loop-place l = l.place
