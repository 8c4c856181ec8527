use Rattle.dump_lanes.proofs.PartMoves.{in_order}
use Rattle.dump_lanes.proofs.StepMoves.{one_each}
use Rattle.dump_lanes.proofs.laws.every_queue_keeps_order.Goals as goal

pub returns-clause-order : goal.returns-clause-order
returns-clause-order g c = in_order

pub returns-clause-one_each : goal.returns-clause-one_each
returns-clause-one_each g c = one_each
