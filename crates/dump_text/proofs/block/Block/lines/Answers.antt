use Rattle.dump_text.proofs.BlockLemmas.{lines_of}
use Rattle.dump_text.proofs.block.Block.lines.Goals as goal

pub invariant_of-result : goal.invariant_of-result
invariant_of-result c =
    let b = c.args.self.now in
    record { lines = (lines_of b.dump.now b.place b.after b.stands).lines }

pub returns-clause-lines : goal.returns-clause-lines
returns-clause-lines c = let b = c.args.self.now in (lines_of b.dump.now b.place b.after b.stands).headers
