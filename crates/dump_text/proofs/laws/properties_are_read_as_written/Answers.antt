use Rattle.dump_text.specs.PropertyList.{property_block_text}
use Rattle.dump_text.proofs.PropertyLemmas.{property_block_once}
use Rattle.dump_text.proofs.WrittenLemmas.{short_block}
use Rattle.dump_text.proofs.laws.properties_are_read_as_written.Goals as goal

pub returns : goal.returns
returns c ps small = (
  short_block ps small,
  λ others read. property_block_once (property_block_text ps) others ps read (short_block ps small),
)
