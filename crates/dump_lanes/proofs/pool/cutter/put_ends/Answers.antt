use Rattle.dump_lanes.proofs.Prelude.{ap, ◌∙◌, Mark, View}
use Rattle.dump_lanes.proofs.JobSteps.{puts}
use Rattle.dump_lanes.proofs.pool.cutter.put_ends.Goals as goal

pub push-requires-clause-rule : goal.push-requires-clause-rule
push-requires-clause-rule g c = puts _ _ _ _ (ap (λ (v : View (Mark g.row.J.Denot)). v.leads) c.loop.invariant.1
    ∙ c.requires.leads)
