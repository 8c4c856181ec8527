use Rattle.dump_trees.proofs.expansions.ExpandLemmas.{expanded_lead, expanded_load}
use Rattle.dump_trees.proofs.expansions.StayingLemmas.{separated_revisions_expand}
use Rattle.dump_trees.proofs.laws.expanded_revisions_restrict.Goals as goal

pub returns-clause-lead : goal.returns-clause-lead
returns-clause-lead c = expanded_lead

pub returns-clause-load : goal.returns-clause-load
returns-clause-load c = expanded_load

pub returns-clause-itself : goal.returns-clause-itself
returns-clause-itself c = separated_revisions_expand
