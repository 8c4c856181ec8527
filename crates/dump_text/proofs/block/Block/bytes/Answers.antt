use Rattle.dump_text.proofs.BlockLemmas.{block_bytes}
use Rattle.dump_text.proofs.block.Block.bytes.Goals as goal

pub returns : goal.returns
returns c = let b = c.args.self.now in block_bytes b.dump.now b.place b.after b.stands
