use Rattle.std.proofs.Common.{◌≡◌, ◌-◌, ◌++◌, length, map, drop, vec_len}
use Rattle.dump_survey.proofs.findings.prefixes.given_prefixes.Given as goal

abbrev pub invariant-loop-prefix : goal.invariant-loop-prefix
invariant-loop-prefix l = l.options.prefixes
    ≡ map (λ prefix. prefix.now) l.given.items ++ drop (vec_len l.given) l.options.prefixes

abbrev pub decreases-loop-prefix : goal.decreases-loop-prefix
decreases-loop-prefix l = length l.options.prefixes - vec_len l.given
