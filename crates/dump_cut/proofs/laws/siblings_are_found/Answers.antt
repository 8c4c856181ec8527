use Rattle.dump_cut.proofs.FoundSiblings.{found_siblings_are_all}
use Rattle.dump_cut.proofs.laws.siblings_are_found.Goals as goal

pub returns : goal.returns
returns c = found_siblings_are_all
