use Rattle.dump_trees.proofs.histories.AlikeLemmas.{each_loads_alike}
use Rattle.dump_trees.proofs.laws.each_dump_loads_behind_others.Goals as goal

pub returns : goal.returns
returns c = each_loads_alike
