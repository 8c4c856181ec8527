use Rattle.std.proofs.Common.{sym, arith}
use Rattle.dump_text.proofs.PartLemmas.{no_sized-number, sized_room}
use Rattle.dump_text.proofs.parts.sized_part.Goals as goal
use Rattle.dump_text.proofs.parts.sized_part.Goals.{then-size-behind-via-then-size-behind, then-size-behind-via-else-size-behind+then-behind-size-ne10}

pub returns-in_default-number : goal.returns-in_default-number
returns-in_default-number c =
    no_sized-number _ _ _ _ _ c.in-Some.ensures c.in-Some-first_line.ensures (sym c.in_default-number.ensures.value)

pub returns-then-size-behind : goal.returns-then-size-behind
returns-then-size-behind c = λ has.
    let room = sized_room _ _ _ _ _ _ c.in-Some.ensures c.in-Some-first_line.ensures
    (sym c.in-Some-number.ensures.value) has in
    let below = room.0 in
    let lf = room.1 in
    elim c.then-size-behind.branch [
      | then-size-behind-via-then-size-behind w ↦ absurd (omega arith)
      | then-size-behind-via-else-size-behind+then-behind-size-ne10 w ↦ absurd (omega arith)
    ]
