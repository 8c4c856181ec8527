use Rattle.dump_history.proofs.cuts.KeptChanges.{filtered_changes_are_kept, trimmed_changes_are_kept}
use Rattle.dump_history.proofs.laws.filtered_changes_come_of_kept_ones.Goals as goal

pub returns-clause-filtered : goal.returns-clause-filtered
returns-clause-filtered c = filtered_changes_are_kept

pub returns-clause-trimmed : goal.returns-clause-trimmed
returns-clause-trimmed c = trimmed_changes_are_kept
