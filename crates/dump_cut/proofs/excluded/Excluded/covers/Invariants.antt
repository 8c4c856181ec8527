use Rattle.std.proofs.Common.{◌≡◌, ℕ, ◌<◌, false, take, get_or, bytes_eq}
use Rattle.std.specs.List.{list_any}
use Rattle.dump_cut.proofs.excluded.Excluded.covers.Given as goal

abbrev pub invariant-loop-place : goal.invariant-loop-place
invariant-loop-place l = (k : ℕ) → k < l.place → get_or l.path k 0 ≡ 47
    → list_any (λ other. bytes_eq (take k l.path) other) l.self ≡ false
