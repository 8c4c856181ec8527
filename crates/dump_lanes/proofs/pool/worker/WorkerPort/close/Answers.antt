use Rattle.std.proofs.Common.{◌∙◌, sym, refl, arith}
use Rattle.crossbeam_queue.specs.Passes.{view}
use Rattle.dump_lanes.proofs.DoneSteps.{puts}
use Rattle.dump_lanes.proofs.PortSteps.{give_end, give_end_given, worker_is}
use Rattle.dump_lanes.proofs.pool.worker.WorkerPort.close.Goals as goal

pub push-requires-clause-rule : goal.push-requires-clause-rule
push-requires-clause-rule g c =
    let gives = c.args.self.now.gives in
    puts _ _ _ _ gives.follows (let e = gives.parts in omega arith) (sym gives.from)

pub invariant_of-self : goal.invariant_of-self
invariant_of-self g c =
    let old = c.args.self.now in
    record {
      of_jobs = old.of_jobs;
      of_dones = (c.push.ensures.queue.0 ∙ old.of_dones.0, c.push.ensures.queue.2 ∙ old.of_dones.1);
      works = old.works;
      gives = give_end _ _ _ _ _ refl refl c.requires.once old.gives c.push.ensures.rule;
    }

pub returns : goal.returns
returns g c = worker_is _ _ refl refl (give_end_given (view c.args.self.now.dones) _ _ refl c.push.ensures.rule) refl
