use Rattle.dump_cut.proofs.FirstSiblings.{first_siblings_cover_the_same, first_siblings_filter_alike}
use Rattle.dump_cut.proofs.laws.first_siblings_stay.Goals as goal

pub returns-clause-covered : goal.returns-clause-covered
returns-clause-covered c = first_siblings_cover_the_same

pub returns-clause-filtered : goal.returns-clause-filtered
returns-clause-filtered c = first_siblings_filter_alike
