use Rattle.dump_cut.proofs.AlikeCuts.{first_parts_go_on}
use Rattle.dump_cut.proofs.AlikeLaw.{filters_alike}
use Rattle.dump_cut.proofs.laws.filters_write_alike.Goals as goal

pub returns-clause-alike : goal.returns-clause-alike
returns-clause-alike c = filters_alike

pub returns-clause-first_parts : goal.returns-clause-first_parts
returns-clause-first_parts c = first_parts_go_on
