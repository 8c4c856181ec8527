use Rattle.std.proofs.Common.{◌≡◌, ◌≤◌, ◌+◌, ◌-◌, ℕ, List, Option, length, take}
use Rattle.std.specs.Io.KnownBytes.{Appends, GrowsBy}
use Rattle.dump_writer.specs.SinkWords.{capped}
use Rattle.dump_writer.proofs.counted.write_all_counted.Given as goal

abbrev pub invariant-loop-at : goal.invariant-loop-at
invariant-loop-at g l = record {
  inside : l.at ≤ length l.bytes;
  taken : Appends (g.W.Write.contents l.initial.writer) (g.W.Write.contents l.writer) (take l.at l.bytes);
  no_failure : l.counts.failures ≡ l.initial.counts.failures;
  written : l.counts.written ≡ capped (l.initial.counts.written + l.at);
  grown : (start : Option (List ℕ)) → GrowsBy start (g.W.Write.contents l.initial.writer) l.initial.counts.written
      → GrowsBy start (g.W.Write.contents l.writer) l.counts.written;
}

abbrev pub decreases-loop-at : goal.decreases-loop-at
decreases-loop-at g l = length l.bytes - l.at
