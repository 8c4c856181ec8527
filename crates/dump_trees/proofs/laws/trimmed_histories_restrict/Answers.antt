use Rattle.dump_trees.proofs.expansions.TrimmedHistories.{each_trimmed_revision, each_trimmed_history}
use Rattle.dump_trees.proofs.expansions.TrimmedNumbers.{each_trimmed_filtered}
use Rattle.dump_trees.proofs.laws.trimmed_histories_restrict.Goals as goal

pub returns-clause-revision : goal.returns-clause-revision
returns-clause-revision c = each_trimmed_revision

pub returns-clause-history : goal.returns-clause-history
returns-clause-history c = each_trimmed_history

pub returns-clause-filtered : goal.returns-clause-filtered
returns-clause-filtered c = each_trimmed_filtered
