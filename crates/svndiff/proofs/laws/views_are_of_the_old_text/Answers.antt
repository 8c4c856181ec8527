use Rattle.svndiff.proofs.ViewLemmas.{views_are}
use Rattle.svndiff.proofs.laws.views_are_of_the_old_text.Goals as goal

pub returns : goal.returns
returns c = views_are
