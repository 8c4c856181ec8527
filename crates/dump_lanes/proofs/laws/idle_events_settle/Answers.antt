use Rattle.dump_lanes.proofs.core.Settling.{idle_events_settle}
use Rattle.dump_lanes.proofs.laws.idle_events_settle.Goals as goal

pub returns : goal.returns
returns c = idle_events_settle
