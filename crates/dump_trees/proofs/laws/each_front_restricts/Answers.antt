use Rattle.dump_trees.proofs.histories.FrontLemmas.{each_front, begun_trees}
use Rattle.dump_trees.proofs.laws.each_front_restricts.Goals as goal

pub returns-clause-restricts : goal.returns-clause-restricts
returns-clause-restricts c = each_front

pub returns-clause-trees : goal.returns-clause-trees
returns-clause-trees c = begun_trees
