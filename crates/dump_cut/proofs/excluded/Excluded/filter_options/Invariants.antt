use Rattle.std.proofs.Common.{◌≡◌, map, take}
use Rattle.dump_cut.proofs.excluded.Excluded.filter_options.Given as goal

abbrev pub invariant-loop-prefix : goal.invariant-loop-prefix
invariant-loop-prefix l = map (λ text. text.now) l.texts.items ≡ map (λ prefix. prefix.items) (take l.prefix-index l.prefix-items)
