use Rattle.dump_text.proofs.ScanLemmas.{found_place}
use Rattle.dump_text.proofs.scan.find.Goals as goal

pub returns : goal.returns
returns c = found_place c.args.byte c.args.text.now c.memchr.result c.memchr.ensures
