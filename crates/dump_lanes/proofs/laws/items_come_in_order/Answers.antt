use Rattle.dump_lanes.proofs.Arrivals.{no_clash, none_waits}
use Rattle.dump_lanes.proofs.laws.items_come_in_order.Goals as goal

pub returns : goal.returns
returns c = record { apart = no_clash; all = none_waits }
