use Rattle.dump_survey.proofs.Prelude.{◌≡◌, ◌-◌, ◌++◌, length, map, drop, vec_len, bare_prefix}
use Rattle.dump_survey.proofs.findings.prefixes.Prefixes.of.Given as goal

abbrev pub invariant-loop-prefix : goal.invariant-loop-prefix
invariant-loop-prefix l = map bare_prefix l.options.prefixes
    ≡ map (λ prefix. prefix.now) l.bare.items ++ map bare_prefix (drop (vec_len l.bare) l.options.prefixes)

abbrev pub decreases-loop-prefix : goal.decreases-loop-prefix
decreases-loop-prefix l = length l.options.prefixes - vec_len l.bare
