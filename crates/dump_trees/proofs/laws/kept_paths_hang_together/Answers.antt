use Rattle.dump_trees.proofs.paths.KeptPaths.{gives_nothing, gives_above, keeps_nothing}
use Rattle.dump_trees.proofs.changes.CutLemmas.{gives_root}
use Rattle.dump_trees.proofs.laws.kept_paths_hang_together.Goals as goal

pub returns-clause-below : goal.returns-clause-below
returns-clause-below c = gives_nothing

pub returns-clause-above : goal.returns-clause-above
returns-clause-above c = gives_above

pub returns-clause-left : goal.returns-clause-left
returns-clause-left c = keeps_nothing

pub returns-clause-alone : goal.returns-clause-alone
returns-clause-alone c = gives_root
