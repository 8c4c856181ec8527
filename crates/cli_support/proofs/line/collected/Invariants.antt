use Rattle.std.proofs.Common.{◌≡◌, map, take}
use Rattle.cli_support.proofs.line.collected.Given as goal

abbrev pub invariant-loop-word : goal.invariant-loop-word
invariant-loop-word l = map (λ text. text.now) l.texts.items ≡ map (λ word. word.now) (take l.word-index l.words)
