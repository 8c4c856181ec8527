use Rattle.dump_pipeline.proofs.Prelude.{◌∙◌, sym, ap, map, range_with_len, PoolState, new_worker, Job, Checked}
use Rattle.dump_pipeline.proofs.make.make_queues.Goals as goal

pub returns-clause-working : goal.returns-clause-working
returns-clause-working g c =
    let J : Type 0 = Job g.row.D.Denot g.D.Run in
    let E : Type 0 = Checked g.row.D.Denot g.D.Run in
    c.in_ok-ports.ensures.workers
    ∙ sym (ap (λ (s : PoolState). map (new_worker {J = J} {D = E} s) (range_with_len 0 s.workers)) c.in_ok-ports.ensures.opened)
