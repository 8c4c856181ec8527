use Rattle.dump_index.proofs.PartLemmas.{props_found, texts_found}
use Rattle.dump_index.proofs.laws.settings_are_found.Goals as goal

pub returns-clause-props : goal.returns-clause-props
returns-clause-props c = props_found

pub returns-clause-text : goal.returns-clause-text
returns-clause-text c = texts_found
