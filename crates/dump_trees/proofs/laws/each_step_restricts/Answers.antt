use Rattle.dump_trees.proofs.changes.StepLemmas.{each_step}
use Rattle.dump_trees.proofs.changes.FilteredChange.{filtered_is_new}
use Rattle.dump_trees.proofs.laws.each_step_restricts.Goals as goal

pub returns-clause-step : goal.returns-clause-step
returns-clause-step c = each_step

pub returns-clause-filtered : goal.returns-clause-filtered
returns-clause-filtered c = filtered_is_new
