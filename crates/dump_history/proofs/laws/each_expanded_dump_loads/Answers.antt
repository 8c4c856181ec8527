use Rattle.dump_history.proofs.expanded.ExpandedLaw.{expanded_dump_loads}
use Rattle.dump_history.proofs.laws.each_expanded_dump_loads.Goals as goal

pub returns : goal.returns
returns c = expanded_dump_loads
