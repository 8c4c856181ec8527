use Rattle.dump_trees.proofs.quiet.QuietLemmas.{quiet_separates, all_quiet}
use Rattle.dump_trees.proofs.laws.quiet_changes_are_separated.Goals as goal

pub returns-clause-each : goal.returns-clause-each
returns-clause-each c = quiet_separates

pub returns-clause-all : goal.returns-clause-all
returns-clause-all c = all_quiet
