use Rattle.dump_additions.proofs.AdditionLaw.{additions_expand, additions_load, additions_over}
use Rattle.dump_additions.proofs.laws.additions_load_the_same.Goals as goal

pub returns-clause-expand : goal.returns-clause-expand
returns-clause-expand c = additions_expand

pub returns-clause-load : goal.returns-clause-load
returns-clause-load c = additions_load

pub returns-clause-over : goal.returns-clause-over
returns-clause-over c = additions_over
