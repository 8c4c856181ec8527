use Rattle.dump_trees.proofs.changes.RevisionLemmas.{each_revision}
use Rattle.dump_trees.proofs.laws.each_revision_restricts.Goals as goal

pub returns : goal.returns
returns c = each_revision
