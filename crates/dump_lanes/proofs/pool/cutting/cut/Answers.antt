use Rattle.dump_lanes.proofs.Prelude.{ap, Purse}
use Rattle.dump_lanes.proofs.CreditSteps.{forks}
use Rattle.dump_lanes.proofs.pool.cutting.cut.Goals as goal

pub another-back-requires-clause-rule : goal.another-back-requires-clause-rule
another-back-requires-clause-rule g c =
    let v = c.requires.passes.credits in
    forks _ _ (ap (λ (p : Purse). p.draws) v) (ap (λ (p : Purse). p.gives) v) (ap (λ (p : Purse). p.drawn) v)
    (ap (λ (p : Purse). p.back) v)
