use Rattle.dump_trees.proofs.expansions.CaseLemmas.{separated_expands, kept_copy}
use Rattle.dump_trees.proofs.expansions.StayingLemmas.{excluded_change_stays}
use Rattle.dump_trees.proofs.laws.changes_have_expansions.Goals as goal

pub returns-clause-separated : goal.returns-clause-separated
returns-clause-separated c = separated_expands

pub returns-clause-kept : goal.returns-clause-kept
returns-clause-kept c = kept_copy

pub returns-clause-excluded : goal.returns-clause-excluded
returns-clause-excluded c = excluded_change_stays
