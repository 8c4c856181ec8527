use Rattle.dump_lanes.proofs.core.Progress.{no_endless_way}
use Rattle.dump_lanes.proofs.laws.no_run_goes_on_without_end.Goals as goal

pub returns : goal.returns
returns c = no_endless_way
