use Rattle.dump_lanes.proofs.core.Runs.{every_run_is_sound}
use Rattle.dump_lanes.proofs.laws.every_run_is_sound.Goals as goal

pub returns : goal.returns
returns c = every_run_is_sound
