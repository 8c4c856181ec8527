use Rattle.dump_lanes.proofs.Prelude.{ap, sym, ◌∙◌, arith, Seat}
use Rattle.dump_lanes.proofs.StopSteps.{looks}
use Rattle.dump_lanes.proofs.stop.StopWord.look.Goals as goal

pub load-requires : goal.load-requires
load-requires c =
    let one = c.self.inside.one_word in (
      ap (λ (x : Seat). x.word) c.seat.view_is ∙ (c.requires ∙ sym c.self.view_is),
      omega arith,
      looks _ _ _ c.seat.invariant.0,
    )
