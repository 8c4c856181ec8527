use Rattle.dump_pipeline.proofs.Receiving.{part_received}
use Rattle.dump_pipeline.proofs.write.write_one.Goals as goal

pub returns-in-Err-clause-text : goal.returns-in-Err-clause-text
returns-in-Err-clause-text g c =
    λ text first h.
    part_received c.args.failed text c.args.piece first (g.S.Sink.taken c.args.sink.now)
    (g.S.Sink.taken c.send.new.sink) c.args.count c.in-Err.count
    c.if-failed.false h c.in-Err.ensures.cut
