use Rattle.dump_survey.proofs.Prelude.{◌≡◌, ℕ, ◌<◌, false, take, get_or, bytes_eq, list_any}
use Rattle.dump_survey.proofs.findings.prefix_set.PrefixSet.begin.Given as goal

abbrev pub invariant-loop-place : goal.invariant-loop-place
invariant-loop-place l = (k : ℕ) → k < l.place → get_or l.path k 0 ≡ 47
    → list_any (λ prefix. bytes_eq (take k l.path) prefix) l.self ≡ false
