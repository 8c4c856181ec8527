use Rattle.dump_lanes.proofs.Prelude.{ap, sym, ◌∙◌, arith, Seat}
use Rattle.dump_lanes.proofs.StopSteps.{joins, checks}
use Rattle.dump_lanes.proofs.stop.StopWord.join.Goals as goal

pub join_seat-requires : goal.join_seat-requires
join_seat-requires c =
    let one = c.self.inside.one_word in
    let left = ap (λ (x : Seat). x.word) c.left.view_is ∙ (c.requires.left ∙ sym c.self.view_is) in
    let right = ap (λ (x : Seat). x.word) c.right.view_is ∙ (c.requires.right ∙ sym c.self.view_is) in
    (left, right, c.right.invariant.1, omega arith, joins _ _ _ _ c.left.invariant.0)

pub load-requires : goal.load-requires
load-requires c =
    let one = c.self.inside.one_word in
    let left = ap (λ (x : Seat). x.word) c.left.view_is ∙ (c.requires.left ∙ sym c.self.view_is) in
    (c.join_seat.ensures.0 ∙ left, omega arith, checks _ _ _)
