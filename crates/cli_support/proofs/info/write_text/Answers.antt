use Rattle.cli_support.proofs.OutputLemmas.{none_taken}
use Rattle.cli_support.proofs.info.write_text.Goals as goal

pub returns-in_default-clause-part : goal.returns-in_default-clause-part
returns-in_default-clause-part g c = none_taken _ _
