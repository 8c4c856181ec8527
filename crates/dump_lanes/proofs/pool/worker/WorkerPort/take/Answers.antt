use Rattle.std.proofs.Common.{◌∙◌, refl, arith}
use Rattle.dump_lanes.proofs.JobSteps.{takes}
use Rattle.dump_lanes.proofs.PortSteps.{work_item, work_item_taken, work_end, work_end_taken, worker_is}
use Rattle.dump_lanes.proofs.pool.worker.WorkerPort.take.Goals as goal

pub pop-requires-clause-rule : goal.pop-requires-clause-rule
pop-requires-clause-rule g c = let works = c.args.self.now.works in takes _ _ works.follows
    (let e = works.parts in omega arith)

pub invariant_of-self : goal.invariant_of-self
invariant_of-self g c =
    let old = c.args.self.now in
    let step = rw c.in-Item.is at c.pop.ensures.rule in
    record {
      of_jobs = (c.pop.ensures.queue.0 ∙ old.of_jobs.0, c.pop.ensures.queue.2 ∙ old.of_jobs.1);
      of_dones = old.of_dones;
      works = work_item _ _ _ _ _ c.if-self.false old.works step;
      gives = old.gives;
    }

pub invariant_of-self-in-End : goal.invariant_of-self-in-End
invariant_of-self-in-End g c =
    let old = c.args.self.now in
    let step = rw c.in-End.is at c.pop.ensures.rule in
    record {
      of_jobs = (c.pop.ensures.queue.0 ∙ old.of_jobs.0, c.pop.ensures.queue.2 ∙ old.of_jobs.1);
      of_dones = old.of_dones;
      works = work_end _ _ _ _ c.if-self.false old.works step;
      gives = old.gives;
    }

pub returns-in-Item : goal.returns-in-Item
returns-in-Item g c =
    let step = rw c.in-Item.is at c.pop.ensures.rule in
    (c.if-self.false, worker_is _ _ (work_item_taken _ _ _ step) refl refl refl)

pub returns-in-End : goal.returns-in-End
returns-in-End g c = let step = rw c.in-End.is at c.pop.ensures.rule in worker_is _ _
    (work_end_taken _ _ step) refl refl refl
