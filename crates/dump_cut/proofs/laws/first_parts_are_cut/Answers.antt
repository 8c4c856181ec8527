use Rattle.dump_cut.proofs.FirstLaw.{first_parts_are_filtered}
use Rattle.dump_cut.proofs.FirstTrimLaw.{first_parts_are_trimmed}
use Rattle.dump_cut.proofs.laws.first_parts_are_cut.Goals as goal

pub returns-clause-filtered : goal.returns-clause-filtered
returns-clause-filtered c = first_parts_are_filtered

pub returns-clause-trimmed : goal.returns-clause-trimmed
returns-clause-trimmed c = first_parts_are_trimmed
