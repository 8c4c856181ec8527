use Rattle.dump_lanes.proofs.core.Endings.{every_run_can_end}
use Rattle.dump_lanes.proofs.laws.every_run_can_end.Goals as goal

pub returns : goal.returns
returns c = every_run_can_end
