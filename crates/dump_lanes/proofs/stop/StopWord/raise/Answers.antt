use Rattle.dump_lanes.proofs.Prelude.{ap, sym, ◌∙◌, arith, Seat}
use Rattle.dump_lanes.proofs.StopSteps.{raises}
use Rattle.dump_lanes.proofs.stop.StopWord.raise.Goals as goal

pub store-requires : goal.store-requires
store-requires c =
    let one = c.self.inside.one_word in (
      ap (λ (x : Seat). x.word) c.seat.view_is ∙ (c.requires ∙ sym c.self.view_is),
      omega arith,
      raises _ _ _ c.seat.invariant.0,
    )
