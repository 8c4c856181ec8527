use Rattle.dump_pipeline.proofs.Prelude.{ap, ◌∙◌, SequencerSide, done_port, Checked, checked_numbers}
use Rattle.dump_pipeline.proofs.Steps.{more_taken}
use Rattle.dump_pipeline.proofs.sequence.drain.Goals as goal

pub loop-preserved-in-Some-take : goal.loop-preserved-in-Some-take
loop-preserved-in-Some-take g c =
    let took = c.in-Some-take.ensures.1 in
    record {
      pool = ap (λ (x : SequencerSide (Checked g.row.D.Denot g.D.Run)). x.pool) took ∙ c.loop.invariant.pool;
      more = more_taken (checked_numbers (done_port c.args.port.now).taken) (done_port c.loop.port).taken
          (done_port c.take.new.self).taken c.in-Some-take.field-0 c.loop.invariant.more
          (ap (λ (x : SequencerSide (Checked g.row.D.Denot g.D.Run)). x.taken) took);
    }
