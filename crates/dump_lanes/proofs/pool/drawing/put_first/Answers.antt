use Rattle.dump_lanes.proofs.Prelude.{ap, Purse}
use Rattle.dump_lanes.proofs.CreditSteps.{fills}
use Rattle.dump_lanes.proofs.pool.drawing.put_first.Goals as goal

pub push-requires-clause-rule : goal.push-requires-clause-rule
push-requires-clause-rule g c =
    let v = c.loop.invariant.1 in
    fills _ _ _ _ (ap (λ (p : Purse). p.draws) v) (ap (λ (p : Purse). p.gives) v) (ap (λ (p : Purse). p.drawn) v)
    (ap (λ (p : Purse). p.back) v)
