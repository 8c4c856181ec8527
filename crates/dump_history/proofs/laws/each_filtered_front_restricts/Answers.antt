use Rattle.dump_history.proofs.restricted.FilteredLaw.{filtered_front_restricts, quiet_front_restricts}
use Rattle.dump_history.proofs.laws.each_filtered_front_restricts.Goals as goal

pub returns-clause-separated : goal.returns-clause-separated
returns-clause-separated c = filtered_front_restricts

pub returns-clause-quiet : goal.returns-clause-quiet
returns-clause-quiet c = quiet_front_restricts
