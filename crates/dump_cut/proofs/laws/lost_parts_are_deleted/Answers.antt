use Rattle.dump_cut.proofs.TrimLaw.{trimmed_copies_load}
use Rattle.dump_cut.proofs.laws.lost_parts_are_deleted.Goals as goal

pub returns : goal.returns
returns c = trimmed_copies_load
