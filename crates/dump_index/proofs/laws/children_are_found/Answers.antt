use Rattle.dump_index.proofs.PlainLemmas.{children_of_trees}
use Rattle.dump_index.proofs.SameNames.{names_ever_found, names_suffice}
use Rattle.dump_index.proofs.laws.children_are_found.Goals as goal

pub returns-clause-trees : goal.returns-clause-trees
returns-clause-trees c = children_of_trees

pub returns-clause-ever : goal.returns-clause-ever
returns-clause-ever c = names_ever_found

pub returns-clause-siblings : goal.returns-clause-siblings
returns-clause-siblings c = names_suffice
