use Rattle.std.proofs.Common.{◌∙◌}
use Rattle.dump_lanes.proofs.JobSteps.{puts}
use Rattle.dump_lanes.proofs.PortSteps.{cut_item, cut_item_put, cut_item_marks, cutter_is}
use Rattle.dump_lanes.proofs.pool.cutter.JobPort.put.Goals as goal

pub push-requires-clause-rule : goal.push-requires-clause-rule
push-requires-clause-rule g c = puts _ _ _ _ c.args.self.now.cuts.leads

pub invariant_of-self : goal.invariant_of-self
invariant_of-self g c =
    let old = c.args.self.now in
    record {
      of_jobs = (c.push.ensures.queue.0 ∙ old.of_jobs.0, c.push.ensures.queue.2 ∙ old.of_jobs.1);
      of_credits = old.of_credits;
      cuts = cut_item _ _ _ _ old.cuts c.requires c.push.ensures.rule;
      draws = old.draws;
    }

pub returns : goal.returns
returns g c = cutter_is _ _ _ (cut_item_put _ _ _ c.push.ensures.rule) (cut_item_marks _ _ _ c.push.ensures.rule)
