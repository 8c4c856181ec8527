use Rattle.dump_lanes.proofs.core.Progress.{every_move_counts}
use Rattle.dump_lanes.proofs.laws.every_move_counts.Goals as goal

pub returns : goal.returns
returns c = every_move_counts
