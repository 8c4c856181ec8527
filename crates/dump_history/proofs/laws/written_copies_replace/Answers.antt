use Rattle.dump_history.proofs.expanded.ReplacingLemmas.{kept_copy_replaces}
use Rattle.dump_history.proofs.laws.written_copies_replace.Goals as goal

pub returns : goal.returns
returns c = kept_copy_replaces
