use Rattle.dump_trees.proofs.cuts.CheckedSteps.{step_is_allowed}
use Rattle.dump_trees.proofs.cuts.CheckedLoads.{dump_is_allowed, tells_each_tree, first_rejection_is_there}
use Rattle.dump_trees.proofs.cuts.PlainLooks.{plain_looks_tell_kinds}
use Rattle.dump_trees.proofs.laws.loads_are_checked.Goals as goal

pub returns-clause-step : goal.returns-clause-step
returns-clause-step c = step_is_allowed

pub returns-clause-dump : goal.returns-clause-dump
returns-clause-dump c = dump_is_allowed

pub returns-clause-plain : goal.returns-clause-plain
returns-clause-plain c = plain_looks_tell_kinds

pub returns-clause-trees : goal.returns-clause-trees
returns-clause-trees c = tells_each_tree

pub returns-clause-place : goal.returns-clause-place
returns-clause-place c = first_rejection_is_there
