use Rattle.dump_lanes.proofs.CreditSteps.{gives}
use Rattle.dump_lanes.proofs.pool.writer.CreditPort.back.Goals as goal

pub push-requires-clause-rule : goal.push-requires-clause-rule
push-requires-clause-rule g c = gives _ _ _ _ c.args.self.now.gives.may_give
