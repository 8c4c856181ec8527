use Rattle.dump_trees.proofs.cuts.EverSiblings.{ever_siblings_are_found, changed_paths_exist, copied_paths_exist}
use Rattle.dump_trees.proofs.cuts.EverKept.{ever_kept_in_cut}
use Rattle.dump_trees.proofs.laws.siblings_are_ever_found.Goals as goal

pub returns-clause-kept : goal.returns-clause-kept
returns-clause-kept c = ever_kept_in_cut

pub returns-clause-found : goal.returns-clause-found
returns-clause-found c = ever_siblings_are_found

pub returns-clause-changed : goal.returns-clause-changed
returns-clause-changed c = changed_paths_exist

pub returns-clause-copied : goal.returns-clause-copied
returns-clause-copied c = copied_paths_exist
