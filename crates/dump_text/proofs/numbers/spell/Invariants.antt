use Rattle.std.proofs.Common.{◌≡◌, ◌+◌, ◌<◌, ◌≤◌, ◌^◌, ◌++◌, drop, decimal, length}
use Rattle.dump_text.proofs.numbers.spell.Given as goal

abbrev pub invariant-loop-left : goal.invariant-loop-left
invariant-loop-left l = record {
  room : l.start ≤ 19;
  size : length l.bytes ≡ 20;
  small : l.left < 10 ^ (l.start + 1);
  bound : l.left < 2 ^ 64;
  spelled : decimal l.n ≡ decimal l.left ++ drop (l.start + 1) l.bytes;
}

abbrev pub decreases-loop-left : goal.decreases-loop-left
decreases-loop-left l = l.start
