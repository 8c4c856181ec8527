use Rattle.dump_history.proofs.expanded.SteadLemmas.{expansions_are_dumps}
use Rattle.dump_history.proofs.laws.each_expansion_is_a_dump.Goals as goal

pub returns : goal.returns
returns c = expansions_are_dumps
