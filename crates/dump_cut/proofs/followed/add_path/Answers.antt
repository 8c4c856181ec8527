use Rattle.std.proofs.Common.{inr, refl, ap}
use Rattle.dump_trees.specs.Paths.{names_of}
use Rattle.dump_cut.proofs.followed.add_path.Goals as goal

pub returns-clause-one : goal.returns-clause-one
returns-clause-one c = inr (_, c.in_ok-push.ensures.items, refl, ap names_of c.in_ok-copy.ensures.items)
