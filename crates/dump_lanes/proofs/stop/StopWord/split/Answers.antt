use Rattle.dump_lanes.proofs.Prelude.{ap, sym, ◌∙◌, ◌%◌, arith, Seat}
use Rattle.dump_lanes.proofs.StopSteps.{splits}
use Rattle.dump_lanes.proofs.stop.StopWord.split.Goals as goal

pub split_seat-other-requires : goal.split_seat-other-requires
split_seat-other-requires c =
    let one = c.self.inside.one_word in
    let even = ap (λ (x : Seat). x.share % 2) c.seat.view_is ∙ c.requires.even in (
      ap (λ (x : Seat). x.word) c.seat.view_is ∙ (c.requires.this_word ∙ sym c.self.view_is),
      omega arith,
      splits _ _ even c.seat.invariant.0,
    )
