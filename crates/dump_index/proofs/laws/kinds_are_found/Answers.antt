use Rattle.dump_index.proofs.LawLemmas.{kinds_found}
use Rattle.dump_index.proofs.PlainLemmas.{kinds_of_trees}
use Rattle.dump_index.proofs.ToldLemmas.{index_tells_kinds}
use Rattle.dump_index.proofs.laws.kinds_are_found.Goals as goal

pub returns-clause-node : goal.returns-clause-node
returns-clause-node c = kinds_found

pub returns-clause-trees : goal.returns-clause-trees
returns-clause-trees c = kinds_of_trees

pub returns-clause-told : goal.returns-clause-told
returns-clause-told c = index_tells_kinds
