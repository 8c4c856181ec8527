use Rattle.std.proofs.Common.{◌≡◌, ◌≤◌, ◌-◌, length, take}
use Rattle.std.specs.Io.KnownBytes.{Appends}
use Rattle.dump_writer.proofs.piece.write_bytes.Given as goal

abbrev pub invariant-loop-at : goal.invariant-loop-at
invariant-loop-at g l = record {
  inside : l.at ≤ length l.bytes;
  taken : Appends (g.S.Sink.taken l.initial.sink) (g.S.Sink.taken l.sink) (take l.at l.bytes);
  no_failure : g.S.Sink.failure_count l.sink ≡ g.S.Sink.failure_count l.initial.sink;
  through : g.S.Sink.through l.sink ≡ g.S.Sink.through l.initial.sink;
}

abbrev pub decreases-loop-at : goal.decreases-loop-at
decreases-loop-at g l = length l.bytes - l.at
