use Rattle.dump_trees.proofs.paths.PathNames.{keeps_text, text_read}
use Rattle.dump_trees.proofs.laws.paths_are_their_texts.Goals as goal

pub returns-clause-kept : goal.returns-clause-kept
returns-clause-kept c = keeps_text

pub returns-clause-read : goal.returns-clause-read
returns-clause-read c = text_read
