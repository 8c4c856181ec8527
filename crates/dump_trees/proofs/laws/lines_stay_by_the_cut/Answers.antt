use Rattle.dump_trees.proofs.paths.CutLineLemmas.{named_line_stays}
use Rattle.dump_trees.proofs.laws.lines_stay_by_the_cut.Goals as goal

pub returns : goal.returns
returns c = named_line_stays
