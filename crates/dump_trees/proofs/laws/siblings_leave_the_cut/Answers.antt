use Rattle.dump_trees.proofs.paths.SiblingLemmas.{siblings_leave_cut, named_paths_leave_cut}
use Rattle.dump_trees.proofs.paths.NamedLines.{named_texts_leave_cut}
use Rattle.dump_trees.proofs.laws.siblings_leave_the_cut.Goals as goal

pub returns-clause-cut : goal.returns-clause-cut
returns-clause-cut c = siblings_leave_cut

pub returns-clause-named : goal.returns-clause-named
returns-clause-named c = named_paths_leave_cut

pub returns-clause-texts : goal.returns-clause-texts
returns-clause-texts c = named_texts_leave_cut
