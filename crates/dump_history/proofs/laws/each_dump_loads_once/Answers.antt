use Rattle.dump_history.proofs.restricted.LoadsOnce.{dump_loads_once, no_gap_is_needed, no_gap_is_needed_in_part}
use Rattle.dump_history.proofs.laws.each_dump_loads_once.Goals as goal

pub returns-clause-once : goal.returns-clause-once
returns-clause-once c = dump_loads_once

pub returns-clause-dump : goal.returns-clause-dump
returns-clause-dump c = no_gap_is_needed

pub returns-clause-part : goal.returns-clause-part
returns-clause-part c = no_gap_is_needed_in_part
