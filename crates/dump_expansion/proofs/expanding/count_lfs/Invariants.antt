use Rattle.std.proofs.Common.{◌≡◌, take, replicate}
use Rattle.dump_expansion.proofs.expanding.count_lfs.Given as goal

abbrev pub invariant-loop-byte : goal.invariant-loop-byte
invariant-loop-byte l = (l.count ≡ l.byte-index) × (take l.count l.text ≡ replicate l.count 10)
