use Rattle.dump_lanes.proofs.core.Progress.{never_full}
use Rattle.dump_lanes.proofs.laws.no_queue_is_overfull.Goals as goal

pub returns : goal.returns
returns c = never_full
