use Rattle.dump_trees.proofs.histories.HistoryLemmas.{each_history}
use Rattle.dump_trees.proofs.laws.each_history_restricts.Goals as goal

pub returns : goal.returns
returns c = each_history
