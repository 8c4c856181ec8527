use Rattle.dump_cut.proofs.LaterLaw.{dumps_load_in_parts}
use Rattle.dump_cut.proofs.laws.dumps_load_in_parts.Goals as goal

pub returns : goal.returns
returns c = dumps_load_in_parts
