use Rattle.dump_trees.proofs.expansions.NameLemmas.{names_are_looked}
use Rattle.dump_trees.proofs.laws.names_are_found_without_trees.Goals as goal

pub returns : goal.returns
returns c = names_are_looked
