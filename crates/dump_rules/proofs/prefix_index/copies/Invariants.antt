use Rattle.std.proofs.Common.{◌≡◌, map, take}
use Rattle.dump_rules.proofs.prefix_index.copies.Given as goal

abbrev pub invariant-loop-text : goal.invariant-loop-text
invariant-loop-text l = map (λ text. text.items) l.copied.items ≡ map (λ text. text.now) (take l.text-index l.texts)
