use Rattle.dump_trees.proofs.cuts.ReturnLemmas.{returns_tell_all}
use Rattle.dump_trees.proofs.laws.returns_are_found.Goals as goal

pub returns : goal.returns
returns c = returns_tell_all
