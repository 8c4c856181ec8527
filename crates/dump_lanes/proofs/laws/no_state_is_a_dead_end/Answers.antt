use Rattle.dump_lanes.proofs.core.Endings.{no_dead_end, only_done_stands_still, closed_keeps_nobody}
use Rattle.dump_lanes.proofs.laws.no_state_is_a_dead_end.Goals as goal

pub returns-clause-next : goal.returns-clause-next
returns-clause-next c = no_dead_end

pub returns-clause-still : goal.returns-clause-still
returns-clause-still c = only_done_stands_still

pub returns-clause-closed : goal.returns-clause-closed
returns-clause-closed c = closed_keeps_nobody
