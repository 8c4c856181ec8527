use Rattle.std.proofs.Common.{rules}
use Rattle.dump_writer.proofs.SinkLemmas.{Appends-take_add}
use Rattle.dump_writer.proofs.piece.write_bytes.Goals as goal

pub loop-at-preserved : goal.loop-at-preserved
loop-at-preserved g c =
    let taken = Appends-take_add _ _ _ _ _ _ c.loop-at.invariant.inside c.in-Ok.ensures.most
    c.loop-at.invariant.taken c.in-Ok.ensures.taken in
    search (rules, taken.0, taken.1)
