use Rattle.std.proofs.Common.{◌∙◌, ap, ◌+◌, arith}
use Rattle.crossbeam_queue.specs.Passes.{view}
use Rattle.dump_lanes.proofs.DoneSteps.{takes}
use Rattle.dump_lanes.proofs.PortSteps.{read_item, read_item_ends, read_end, read_end_ends}
use Rattle.dump_lanes.proofs.pool.sequencer.take_from.Goals as goal

pub pop-mark-requires-clause-rule : goal.pop-mark-requires-clause-rule
pop-mark-requires-clause-rule g c =
    takes _ _ c.loop-left.invariant.1.leads

pub returns-in-Item-clause-read : goal.returns-in-Item-clause-read
returns-in-Item-clause-read g c = read_item _
    (view c.loop-left.pass) _ _ _ c.in-Item.is c.loop-left.invariant.1 c.pop-mark.ensures.rule

pub returns-in-Item-clause-ends : goal.returns-in-Item-clause-ends
returns-in-Item-clause-ends g c =
    ap (λ n. n + c.loop-left.left) (read_item_ends (view c.loop-left.pass) _ _ _ c.in-Item.is c.pop-mark.ensures.rule)
    ∙ c.loop-left.invariant.2

pub loop-left-preserved : goal.loop-left-preserved
loop-left-preserved g c =
    let inv = c.loop-left.invariant in
    let ends = read_end_ends (view c.loop-left.pass) _ _ c.in-End.is c.pop-mark.ensures.rule in (
      (
        c.pop-mark.ensures.queue.0 ∙ inv.0.0,
        c.pop-mark.ensures.queue.1 ∙ inv.0.1,
        c.pop-mark.ensures.queue.2 ∙ inv.0.2,
      ),
      read_end _ (view c.loop-left.pass) _ _ c.in-End.is inv.1 c.pop-mark.ensures.rule,
      (let e = inv.2 in omega arith),
      (let e = inv.3 in omega arith),
    )
