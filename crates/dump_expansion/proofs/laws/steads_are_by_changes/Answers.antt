use Rattle.dump_expansion.proofs.ByChanges.{steads_by_changes}
use Rattle.dump_expansion.proofs.laws.steads_are_by_changes.Goals as goal

pub returns : goal.returns
returns c = steads_by_changes
