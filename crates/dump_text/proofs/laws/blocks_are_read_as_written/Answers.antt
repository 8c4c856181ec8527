use Rattle.dump_text.proofs.Prelude.{◌++◌, refl, block_text}
use Rattle.dump_text.proofs.Unique.{block_once}
use Rattle.dump_text.proofs.laws.blocks_are_read_as_written.Goals as goal

pub returns : goal.returns
returns c headers rest lawful = (
  record { block = lawful; spelled = refl },
  λ others more read. block_once (block_text headers ++ rest) others headers more rest read
      (record { block = lawful; spelled = refl }),
)
