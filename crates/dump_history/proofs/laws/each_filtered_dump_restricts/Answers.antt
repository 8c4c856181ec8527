use Rattle.dump_history.proofs.restricted.FilteredLaw.{filtered_dump_restricts}
use Rattle.dump_history.proofs.laws.each_filtered_dump_restricts.Goals as goal

pub returns : goal.returns
returns c = filtered_dump_restricts
