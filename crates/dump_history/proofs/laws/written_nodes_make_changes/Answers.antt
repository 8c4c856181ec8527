use Rattle.dump_history.proofs.expanded.NodeLemmas.{written_nodes_are_records, written_nodes_make_changes}
use Rattle.dump_history.proofs.laws.written_nodes_make_changes.Goals as goal

pub returns-clause-records : goal.returns-clause-records
returns-clause-records c = written_nodes_are_records

pub returns-clause-changes : goal.returns-clause-changes
returns-clause-changes c = written_nodes_make_changes
