use Rattle.dump_cut.proofs.LoadLaws.{rejected_is_first, rejected_is_not_allowed, unrejected_loads}
use Rattle.dump_cut.proofs.laws.loads_are_decided.Goals as goal

pub returns-clause-kinds : goal.returns-clause-kinds
returns-clause-kinds c = rejected_is_not_allowed

pub returns-clause-loads : goal.returns-clause-loads
returns-clause-loads c = unrejected_loads

pub returns-clause-stops : goal.returns-clause-stops
returns-clause-stops c = rejected_is_first
