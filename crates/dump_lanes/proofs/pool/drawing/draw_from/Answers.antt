use Rattle.dump_lanes.proofs.Prelude.{ap, ◌∙◌, Purse}
use Rattle.dump_lanes.proofs.CreditSteps.{draws}
use Rattle.dump_lanes.proofs.pool.drawing.draw_from.Goals as goal

pub pop_as-requires-clause-rule : goal.pop_as-requires-clause-rule
pop_as-requires-clause-rule g c =
    (draws _ _ (ap (λ (v : Purse). v.draws) c.loop.invariant.1 ∙ c.requires.draws), λ items views h at. tt)
