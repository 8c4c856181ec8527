use Rattle.dump_changes.proofs.PatchedLemmas.{patched_found}
use Rattle.dump_changes.proofs.laws.patched_texts_are_found.Goals as goal

pub returns : goal.returns
returns c = patched_found
