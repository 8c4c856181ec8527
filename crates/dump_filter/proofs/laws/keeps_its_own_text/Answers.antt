use Rattle.dump_filter.proofs.again.OwnTextLaw.{keeps_its_own_text}
use Rattle.dump_filter.proofs.laws.keeps_its_own_text.Goals as goal

pub returns : goal.returns
returns c = keeps_its_own_text
