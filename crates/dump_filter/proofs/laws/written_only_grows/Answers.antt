use Rattle.dump_filter.proofs.knowing.GrowthLaw.{written_only_grows}
use Rattle.dump_filter.proofs.laws.written_only_grows.Goals as goal

pub returns : goal.returns
returns c = written_only_grows
