use Rattle.dump_index.proofs.ExistsLemmas.{existing_is_found}
use Rattle.dump_index.proofs.laws.existing_is_found.Goals as goal

pub returns : goal.returns
returns c = existing_is_found
