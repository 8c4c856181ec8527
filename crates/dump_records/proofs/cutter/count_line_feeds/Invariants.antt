use Rattle.std.proofs.Common.{◌≡◌, take, replicate}
use Rattle.dump_records.proofs.cutter.count_line_feeds.Given as goal

abbrev pub invariant-loop-i : goal.invariant-loop-i
invariant-loop-i l = take l.i l.text ≡ replicate l.i 10
