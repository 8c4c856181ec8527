use Rattle.std.proofs.Common.{arith}
use Rattle.dump_text.proofs.PlaceLemmas.{value_there, front_size}
use Rattle.dump_text.proofs.value_place.ValueSpan.before.Goals as goal

pub returns : goal.returns
returns c =
    let (front, some, is) = c.requires.stands in
    let size = front_size c.args.dump.now c.args.value.now c.args.behind.now front is in
    value_there c.args.dump.now c.args.value.now c.args.behind.now front _ _ c.requires.line some is (omega arith)
    (omega arith)
