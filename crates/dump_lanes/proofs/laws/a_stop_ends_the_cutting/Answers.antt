use Rattle.dump_lanes.proofs.core.Settling.{after_a_stop, ended_cuts_nothing}
use Rattle.dump_lanes.proofs.laws.a_stop_ends_the_cutting.Goals as goal

pub returns-clause-stop : goal.returns-clause-stop
returns-clause-stop c = after_a_stop

pub returns-clause-ended : goal.returns-clause-ended
returns-clause-ended c = ended_cuts_nothing
