use Rattle.std.proofs.Common.{◌≡◌, ◌++◌, drop, map}
use Rattle.cli_support.specs.Targets.{prefixes_of_texts}
use Rattle.cli_support.proofs.targets.with_texts.Given as goal

abbrev pub invariant-loop-text : goal.invariant-loop-text
invariant-loop-text l =
    map (λ prefix. prefix.now) l.all.items ++ prefixes_of_texts (map (λ text. text.items) (drop l.text-index l.texts))
    ≡ map (λ prefix. prefix.now) l.fn.prefixes.items ++ prefixes_of_texts (map (λ text. text.items) l.texts)
