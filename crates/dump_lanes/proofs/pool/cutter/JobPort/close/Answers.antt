use Rattle.dump_lanes.proofs.Prelude.{ℕ, ap, ◌∙◌, Queues, job_port}
use Rattle.crossbeam_queue.specs.Passes.{view}
use Rattle.dump_lanes.proofs.PortSteps.{cut_ends, cut_ends_put, cut_ends_marks, cutter_is}
use Rattle.dump_lanes.proofs.pool.cutter.JobPort.close.Goals as goal

pub invariant_of-self : goal.invariant_of-self
invariant_of-self g c =
    let old = c.args.self.now in
    record {
      of_jobs = (c.put_ends.ensures.pass.0 ∙ old.of_jobs.0, c.put_ends.ensures.pass.2 ∙ old.of_jobs.1);
      of_credits = old.of_credits;
      cuts = cut_ends _ _ _ _ old.cuts c.requires c.put_ends.ensures.put;
      draws = old.draws;
    }

pub returns : goal.returns
returns g c =
    let side = λ (n : ℕ). record (job_port c.args.self.now) { marks = n } in
    cutter_is _ _ _ (cut_ends_put _ (view c.args.self.now.jobs) _ c.put_ends.ensures.put)
    (cut_ends_marks _ (view c.args.self.now.jobs) _ c.requires c.put_ends.ensures.put)
    ∙ ap side (ap (λ (q : Queues g.row.J.Denot g.row.D.Denot). q.workers) c.deref-3.ensures)
