use Rattle.dump_text.proofs.PropertyLemmas.{no_entry-value}
use Rattle.dump_text.proofs.parts.entry.Goals as goal

pub returns-in_default-sized_part-2 : goal.returns-in_default-sized_part-2
returns-in_default-sized_part-2 c = no_entry-value _ _ _ _ c.in-Some.ensures c.in_default-sized_part-2.ensures
