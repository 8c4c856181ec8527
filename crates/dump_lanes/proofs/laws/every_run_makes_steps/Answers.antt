use Rattle.dump_lanes.proofs.core.Steps.{every_run_makes_steps}
use Rattle.dump_lanes.proofs.laws.every_run_makes_steps.Goals as goal

pub returns : goal.returns
returns c = every_run_makes_steps
