use Rattle.svndiff.proofs.MiddleLemmas.{middles_are}
use Rattle.svndiff.proofs.laws.middles_are_replaced.Goals as goal

pub returns : goal.returns
returns c = middles_are
