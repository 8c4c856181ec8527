use Rattle.dump_cut.proofs.AlikeCuts.{cover_the_same, cuts_filter_alike}
use Rattle.dump_cut.proofs.laws.alike_cuts_filter_alike.Goals as goal

pub returns-clause-covered : goal.returns-clause-covered
returns-clause-covered c = cover_the_same

pub returns-clause-filtered : goal.returns-clause-filtered
returns-clause-filtered c = cuts_filter_alike
