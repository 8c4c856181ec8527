use Rattle.dump_changes.proofs.PropertyLemmas.{properties_of_trees}
use Rattle.dump_changes.proofs.laws.properties_are_found.Goals as goal

pub returns : goal.returns
returns c = properties_of_trees
