use Rattle.dump_trees.proofs.expansions.FoundSiblings.{above_are_listed, siblings_are_found}
use Rattle.dump_trees.proofs.laws.siblings_are_found.Goals as goal

pub returns-clause-above : goal.returns-clause-above
returns-clause-above c = above_are_listed

pub returns-clause-found : goal.returns-clause-found
returns-clause-found c = siblings_are_found
