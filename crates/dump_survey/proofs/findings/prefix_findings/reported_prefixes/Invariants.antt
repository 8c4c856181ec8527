use Rattle.dump_survey.proofs.Prelude.{◌≡◌, ◌++◌, drop, map, prefix_view, prefixes_by}
use Rattle.dump_survey.proofs.findings.prefix_findings.reported_prefixes.Given as goal

abbrev pub invariant-loop-prefix : goal.invariant-loop-prefix
invariant-loop-prefix l = prefixes_by l.idle (map (λ prefix. prefix.now) l.prefixes)
    ≡ map prefix_view l.reported.items ++ prefixes_by l.idle (map (λ prefix. prefix.now) (drop l.prefix-index l.prefixes))
