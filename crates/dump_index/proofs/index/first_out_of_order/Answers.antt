use Rattle.dump_index.proofs.OrderedLemmas.{all_ordered, one_more_ordered, out_of_order}
use Rattle.std.proofs.Common.{sym, ◌∙◌}
use Rattle.dump_index.proofs.index.first_out_of_order.Goals as goal

pub loop-place-preserved : goal.loop-place-preserved
loop-place-preserved c =
    one_more_ordered c.args.changes.now c.loop-place.least c.loop-place.place _ c.loop-place-test.true
    c.loop-place.invariant (sym c.comes_in_order.ensures ∙ c.if-not-comes_in_order.false)

pub returns-then-not-comes_in_order : goal.returns-then-not-comes_in_order
returns-then-not-comes_in_order c =
    out_of_order c.args.changes.now c.loop-place.least c.loop-place.place _ c.loop-place-test.true
    c.loop-place.invariant (sym c.comes_in_order.ensures ∙ c.if-not-comes_in_order.true)

pub returns : goal.returns
returns c = all_ordered c.args.changes.now c.loop-place.least c.loop-place.place c.loop-place-test.false c.loop-place.invariant
