use Rattle.dump_trees.proofs.paths.SiblingLemmas.{short_names}
use Rattle.dump_trees.proofs.histories.StandingNames.{loaded_directories, loaded_names}
use Rattle.dump_trees.proofs.laws.loaded_trees_have_names.Goals as goal

pub returns-clause-directories : goal.returns-clause-directories
returns-clause-directories c = loaded_directories

pub returns-clause-names : goal.returns-clause-names
returns-clause-names c = loaded_names

pub returns-clause-short : goal.returns-clause-short
returns-clause-short c = short_names
