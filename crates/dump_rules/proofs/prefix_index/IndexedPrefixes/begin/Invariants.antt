use Rattle.dump_rules.proofs.Prelude.{◌≡◌, ℕ, ◌<◌, false, take, get_or, bytes_eq, map, list_any, bare_prefix}
use Rattle.dump_rules.proofs.prefix_index.IndexedPrefixes.begin.Given as goal

abbrev pub invariant-loop-place : goal.invariant-loop-place
invariant-loop-place l = (k : ℕ) → k < l.place → get_or l.path k 0 ≡ 47
    → list_any (λ prefix. bytes_eq (take k l.path) prefix) (map bare_prefix l.self) ≡ false
