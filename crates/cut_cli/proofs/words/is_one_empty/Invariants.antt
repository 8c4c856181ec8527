use Rattle.std.proofs.Common.{◌≡◌, drop, map}
use Rattle.std.specs.List.{list_any}
use Rattle.clap.specs.Walk.{is_empty}
use Rattle.cut_cli.proofs.words.is_one_empty.Given as goal

abbrev pub invariant-loop-prefix : goal.invariant-loop-prefix
invariant-loop-prefix l = list_any is_empty (map (λ prefix. prefix.now) l.prefixes)
    ≡ list_any is_empty (map (λ prefix. prefix.now) (drop l.prefix-index l.prefixes))
