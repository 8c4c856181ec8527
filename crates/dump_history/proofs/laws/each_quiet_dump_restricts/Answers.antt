use Rattle.dump_history.proofs.restricted.FilteredLaw.{quiet_dump_restricts}
use Rattle.dump_history.proofs.laws.each_quiet_dump_restricts.Goals as goal

pub returns : goal.returns
returns c = quiet_dump_restricts
