use Rattle.std.proofs.Common.{◌≡◌, length, take}
use Rattle.std.specs.Io.KnownBytes.{Appends}
use Rattle.dump_writer.specs.steps.ChunkBytes.{bytes_of_chunks}
use Rattle.dump_writer.specs.SinkWords.{capped}
use Rattle.dump_writer.proofs.piece.write_piece.Given as goal

abbrev pub invariant-loop-chunk : goal.invariant-loop-chunk
invariant-loop-chunk g l = record {
  taken : Appends (g.S.Sink.taken l.initial.sink) (g.S.Sink.taken l.sink)
      (bytes_of_chunks (take l.chunk-index l.chunks));
  written : l.written ≡ capped (length (bytes_of_chunks (take l.chunk-index l.chunks)));
  no_failure : g.S.Sink.failure_count l.sink ≡ g.S.Sink.failure_count l.initial.sink;
  through : g.S.Sink.through l.sink ≡ g.S.Sink.through l.initial.sink;
}
