use Rattle.dump_history.proofs.restricted.PartLaw.{filtered_part_restricts, quiet_part_restricts}
use Rattle.dump_history.proofs.laws.each_part_restricts.Goals as goal

pub returns-clause-separated : goal.returns-clause-separated
returns-clause-separated c = filtered_part_restricts

pub returns-clause-quiet : goal.returns-clause-quiet
returns-clause-quiet c = quiet_part_restricts
