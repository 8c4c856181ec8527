use Rattle.dump_survey.proofs.Prelude.{◌≡◌, ◌||◌, List, ℕ, drop, map, bare_prefix, is_among}
use Rattle.dump_survey.proofs.findings.prefix_set.PrefixSet.of.Given as goal

abbrev pub invariant-loop-prefix : goal.invariant-loop-prefix
invariant-loop-prefix l = (text : List ℕ) → is_among text (map bare_prefix (map (λ prefix. prefix.now) l.prefixes))
    ≡ (is_among text l.set
    || is_among text (map bare_prefix (map (λ prefix. prefix.now) (drop l.prefix-index l.prefixes))))
