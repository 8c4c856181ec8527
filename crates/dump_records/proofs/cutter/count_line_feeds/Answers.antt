use Rattle.dump_records.proofs.PartLemmas.{gap_at, gap_whole}
use Rattle.dump_records.proofs.cutter.count_line_feeds.Goals as goal

pub returns-then-byte-ne10 : goal.returns-then-byte-ne10
returns-then-byte-ne10 c = gap_at c.args.text.now c.loop-i.i c.loop-i.invariant c.loop-i-test.true c.if-byte-ne10.true

pub returns : goal.returns
returns c = gap_whole c.args.text.now c.loop-i.i c.loop-i.invariant c.loop-i-test.false c.loop-i.auto.i-end
