use Rattle.dump_trees.proofs.paths.CanonicalLemmas.{canonical_have_names, short_are_canonical}
use Rattle.dump_trees.proofs.laws.prefixes_are_canonical.Goals as goal

pub returns-clause-have : goal.returns-clause-have
returns-clause-have c = canonical_have_names

pub returns-clause-short : goal.returns-clause-short
returns-clause-short c = short_are_canonical
