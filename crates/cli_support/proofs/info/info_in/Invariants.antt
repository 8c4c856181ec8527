use Rattle.std.proofs.Common.{◌≡◌, drop, map}
use Rattle.cli_support.specs.Info.{info_in}
use Rattle.cli_support.proofs.info.info_in.Given as goal

abbrev pub invariant-loop-word : goal.invariant-loop-word
invariant-loop-word l =
    info_in (map (λ word. word.now) l.line) ≡ info_in (map (λ word. word.now) (drop l.word-index l.line))
