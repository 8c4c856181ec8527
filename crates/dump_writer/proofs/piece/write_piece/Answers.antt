use Rattle.dump_writer.proofs.PieceLemmas.{TakesOnlyFirst-chunk}
use Rattle.dump_writer.proofs.piece.write_piece.Goals as goal

pub returns-in-Err-clause-cut : goal.returns-in-Err-clause-cut
returns-in-Err-clause-cut g c =
    let before = c.loop-chunk.invariant in
    let part = c.in-Err.ensures in
    TakesOnlyFirst-chunk _ _ _ _ _ (g.S.Sink.taken c.args.sink.now) (g.S.Sink.taken c.loop-chunk.sink)
    (g.S.Sink.taken c.write_bytes.new.sink) _ _ _
    c.chunks-chunks.ensures c.loop-chunk-test.true c.chunk-item.is c.bytes-bytes.ensures before.taken before.written part.short part.cut c.saturating_add-written-in-Err.ensures
