use Rattle.dump_trees.proofs.cuts.DeleteLemmas.{deletes_are_found}
use Rattle.dump_trees.proofs.laws.taken_tops_are_found.Goals as goal

pub returns : goal.returns
returns c = deletes_are_found
