use Rattle.dump_pipeline.proofs.Prelude.{refl, sym, ap, arith, subst, ◌≡◌, ◌∙◌, ℕ, List, IsNone, Some, false≢true, IsWaiting, SequencerSide, done_port, slot_item, with_slot_item, slot_places, Checked, checked_numbers, HasFound, HasTaken}
use Rattle.dump_pipeline.proofs.Steps.{row_unlifted, row_lifted, row_passed, lifted_wrong, row_placed, place_clash, none_lifted}
use Rattle.dump_pipeline.proofs.sequence.find_next.Goals as goal
use Rattle.dump_pipeline.proofs.sequence.find_next.Goals.{then-number-next, else-number-next, in-Ok, in-Err}

pub returns-in-Some-clause-found : goal.returns-in-Some-clause-found
returns-in-Some-clause-found g c = λ w row.
    let port = done_port c.args.ends.now.port in
    let old = slot_places c.args.ends.now.slots in
    let new = slot_places c.lift.new.self in
    let some = c.args.ends.now.slots.some_places in
    elim c.if-number-next.branch [
      | then-number-next b ↦ subst (HasFound w c.args.next port new) (sym b.result-is) (
        sym c.number.ensures.number ∙ b.if-number-next.true,
        (let counted = c.number.ensures.counted in let same = b.if-number-next.true in omega arith),
        row_lifted w c.args.next (checked_numbers port.taken) old new c.lift.result c.in-Some.checked some row
            c.lift.ensures.value c.in-Some.is (sym c.number.ensures.number ∙ b.if-number-next.true) c.lift.ensures.emptied,
      )
      | else-number-next b ↦ subst (HasFound w c.args.next port new) (sym b.result-is)
          (lifted_wrong w c.args.next (checked_numbers port.taken) old c.lift.result c.in-Some.checked some row
          c.lift.ensures.value c.in-Some.is (λ same. b.if-number-next.false (c.number.ensures.number ∙ same)))
    ]

pub returns-in_default-take-clause-found : goal.returns-in_default-take-clause-found
returns-in_default-take-clause-found g c = λ w row.
    let E : Type 0 = Checked g.row.D.Denot g.D.Run in
    let step = c.in_default-take.ensures in (
      subst (λ (l : List E). IsWaiting c.args.next (checked_numbers l)) (sym (ap (λ (x : SequencerSide E). x.taken) step))
          (none_lifted w c.args.next (checked_numbers (done_port c.args.ends.now.port).taken)
          (slot_places c.args.ends.now.slots) c.lift.result row c.lift.ensures.value c.in_default.is),
      ap (λ (x : SequencerSide E). x.ended) step,
    )

pub returns-then-number-next-2-clause-found : goal.returns-then-number-next-2-clause-found
returns-then-number-next-2-clause-found g c = λ w row.
    let E : Type 0 = Checked g.row.D.Denot g.D.Run in
    let old = done_port c.args.ends.now.port in
    let same = sym c.number-number.ensures.number ∙ c.if-number-next-2.true in (
      same,
      (let counted = c.number-number.ensures.counted in let next = c.if-number-next-2.true in omega arith),
      row_passed w c.args.next old.taken (done_port c.take.new.self).taken (slot_places c.lift.new.self)
          c.in-Some-take.checked
          (row_unlifted w c.args.next (checked_numbers old.taken) (slot_places c.args.ends.now.slots)
          (slot_places c.lift.new.self) c.lift.result row c.lift.ensures.value c.in_default.is c.lift.ensures.emptied)
          (ap (λ (x : SequencerSide E). x.taken) c.in-Some-take.ensures.1) same,
    )

pub returns-clause-found : goal.returns-clause-found
returns-clause-found g c = λ w row.
    let E : Type 0 = Checked g.row.D.Denot g.D.Run in
    let next : ℕ = c.args.next in
    let old = done_port c.args.ends.now.port in
    let new = done_port c.take.new.self in
    let places = slot_places c.lift.new.self in
    let same = c.number-number.ensures.number in
    let took : new.taken ≡ _ = ap (λ (x : SequencerSide E). x.taken) c.in-Some-take.ensures.1 in
    let unlifted = row_unlifted w next (checked_numbers old.taken) (slot_places c.args.ends.now.slots) places
    c.lift.result row c.lift.ensures.value c.in_default.is c.lift.ensures.emptied in
    elim c.match-place.branch [
      | in-Ok b ↦ subst (HasFound w next new (slot_places c.place.new.self)) (sym b.result-is)
          (row_placed w next old.taken new.taken places (slot_places c.place.new.self) c.in-Some-take.checked
          c.lift.new.self.some_places unlifted took
          (subst (λ (n : ℕ). IsNone (slot_item places n)) same (b.in-Ok.ensures.free.0 refl))
          (b.in-Ok.ensures.placed ∙ ap (λ (n : ℕ). with_slot_item places n (Some c.in-Some-take.checked)) same))
      | in-Err b ↦ subst (HasFound w next new (slot_places c.place.new.self)) (sym b.result-is)
          (place_clash w next old.taken new.taken places c.in-Some-take.checked c.lift.new.self.some_places unlifted took
          (λ h. false≢true (b.in-Err.ensures.free.1 (subst (λ (n : ℕ). IsNone (slot_item places n)) (sym same) h))))
    ]

pub returns-clause-taken : goal.returns-clause-taken
returns-clause-taken g c =
    let E : Type 0 = Checked g.row.D.Denot g.D.Run in
    let old = done_port c.args.ends.now.port in
    let new = done_port c.take.new.self in
    elim c.match-place.branch [
      | in-Ok b ↦ subst (HasTaken old new) (sym b.result-is)
          (c.in-Some-take.checked, ap (λ (x : SequencerSide E). x.taken) c.in-Some-take.ensures.1)
      | in-Err b ↦ subst (HasTaken old new) (sym b.result-is) tt
    ]
