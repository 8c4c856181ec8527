use Rattle.std.proofs.Common.{subst, arith, refl}
use Rattle.dump_records.specs.declared.cutter.Cut.{Cut}
use Rattle.dump_records.proofs.CutterLemmas.{read_ends, read_nearer}
use Rattle.dump_changes.proofs.Prelude.{Ending, CutStep, record_item}
use Rattle.dump_changes.proofs.StepLemmas.{none_read, is_next, not_in_order, read_revision, read_other, read_more, read_so_far}
use Rattle.dump_changes.proofs.read.read_changes.Goals as goal

pub loop-item-init : goal.loop-item-init
loop-item-init c =
    none_read c.args.dump.now c.new-cutter.result _ c.new-changes.result.items c.new-numbers.result.items c.new-cutter.ensures
    refl c.new-changes.ensures.items c.new-numbers.ensures.items

pub loop-item-smaller-in-Revision : goal.loop-item-smaller-in-Revision
loop-item-smaller-in-Revision c =
    let step = subst (λ (x : Cut). CutStep c.loop-item.cutter x c.next.new.self) c.in-Item.is c.next.ensures in
    let near =
    read_nearer c.args.dump.now c.loop-item.cutter c.next.new.self c.loop-item.invariant.read c.in-Item.item step in
    omega (arith, near.0, near.1)

pub loop-item-preserved-in-Revision : goal.loop-item-preserved-in-Revision
loop-item-preserved-in-Revision c =
    let step = subst (λ (x : Cut). CutStep c.loop-item.cutter x c.next.new.self) c.in-Item.is c.next.ensures in
    read_revision c.args.dump.now c.loop-item.cutter c.next.new.self c.loop-item.at c.loop-item.changes.items
    c.loop-item.numbers.items c.loop-item.invariant c.in-Item.item step c.in-Revision.number c.in-Revision.behind
    c.push.new.self.items c.in-Revision.ensures.reading c.in-Revision.ensures.first
    c.in-Revision.ensures.counting c.in-Revision.ensures.present c.in-Revision.ensures.number c.in_ok-push-in-Revision.ensures.items

pub loop-item-smaller-in-Other : goal.loop-item-smaller-in-Other
loop-item-smaller-in-Other c =
    let step = subst (λ (x : Cut). CutStep c.loop-item.cutter x c.next.new.self) c.in-Item.is c.next.ensures in
    let near =
    read_nearer c.args.dump.now c.loop-item.cutter c.next.new.self c.loop-item.invariant.read c.in-Item.item step in
    omega (arith, near.0, near.1)

pub loop-item-preserved-in-Other : goal.loop-item-preserved-in-Other
loop-item-preserved-in-Other c =
    let step = subst (λ (x : Cut). CutStep c.loop-item.cutter x c.next.new.self) c.in-Item.is c.next.ensures in
    read_other c.args.dump.now c.loop-item.cutter c.next.new.self c.loop-item.at c.loop-item.changes.items
    c.loop-item.numbers.items c.loop-item.invariant c.in-Item.item step c.in-Other.behind c.in-Other.ensures.reading
    c.in-Other.ensures.first c.in-Other.ensures.counting c.in-Other.ensures.present
    c.in-Other.ensures.number

pub loop-item-smaller : goal.loop-item-smaller
loop-item-smaller c =
    let step = subst (λ (x : Cut). CutStep c.loop-item.cutter x c.next.new.self) c.in-Item.is c.next.ensures in
    let near =
    read_nearer c.args.dump.now c.loop-item.cutter c.next.new.self c.loop-item.invariant.read c.in-Item.item step in
    omega (arith, near.0, near.1)

pub loop-item-preserved : goal.loop-item-preserved
loop-item-preserved c =
    let step = subst (λ (x : Cut). CutStep c.loop-item.cutter x c.next.new.self) c.in-Item.is c.next.ensures in
    read_more c.args.dump.now c.loop-item.cutter c.next.new.self c.loop-item.at c.loop-item.changes.items
    c.loop-item.numbers.items c.loop-item.invariant c.in-Item.item step c.in-Makes.change c.push-in-Makes.new.self.items
    c.in-Makes.ensures.reading c.in-Makes.ensures.first c.in-Makes.ensures.counting c.in-Makes.ensures.present
    c.in-Makes.ensures.number
    c.in_ok-push-in-Makes.ensures.items

pub returns-in-NoChange : goal.returns-in-NoChange
returns-in-NoChange c =
    let step = subst (λ (x : Cut). CutStep c.loop-item.cutter x c.next.new.self) c.in-Item.is c.next.ensures in
    read_so_far c.args.dump.now c.loop-item.cutter c.next.new.self c.loop-item.at c.loop-item.changes.items
    c.loop-item.numbers.items c.loop-item.invariant _ _ _ _ refl refl c.ended.ensures (
      record_item c.in-Item.item,
      is_next c.args.dump.now c.loop-item.cutter c.next.new.self c.loop-item.at c.loop-item.changes.items
          c.loop-item.numbers.items c.loop-item.invariant c.in-Item.item step c.number.result c.number.ensures,
      c.in-NoChange.ensures.reading.0,
      c.in-NoChange.ensures.reading.1,
    )

pub returns-in-OutOfOrder : goal.returns-in-OutOfOrder
returns-in-OutOfOrder c =
    let step = subst (λ (x : Cut). CutStep c.loop-item.cutter x c.next.new.self) c.in-Item.is c.next.ensures in
    read_so_far c.args.dump.now c.loop-item.cutter c.next.new.self c.loop-item.at c.loop-item.changes.items
    c.loop-item.numbers.items c.loop-item.invariant _ _ _ _ refl refl c.ended-in-OutOfOrder.ensures (
      record_item c.in-Item.item,
      is_next c.args.dump.now c.loop-item.cutter c.next.new.self c.loop-item.at c.loop-item.changes.items
          c.loop-item.numbers.items c.loop-item.invariant c.in-Item.item step _ c.number-in-OutOfOrder.ensures,
      not_in_order c.args.dump.now c.loop-item.cutter c.next.new.self c.loop-item.at c.loop-item.changes.items
          c.loop-item.numbers.items c.loop-item.invariant c.in-Item.item step c.in-OutOfOrder.ensures.reading,
    )

pub returns-in-Finished : goal.returns-in-Finished
returns-in-Finished c =
    let step = subst (λ (x : Cut). CutStep c.loop-item.cutter x c.next.new.self) c.in-Finished.is c.next.ensures in
    read_so_far c.args.dump.now c.loop-item.cutter c.next.new.self c.loop-item.at c.loop-item.changes.items
    c.loop-item.numbers.items c.loop-item.invariant _ _ _ _ refl refl c.ended-in-Finished.ensures (read_ends
    c.args.dump.now c.loop-item.cutter c.next.new.self c.loop-item.invariant.read Ending.Whole step.0)

pub returns-in-Fault : goal.returns-in-Fault
returns-in-Fault c =
    let step = subst (λ (x : Cut). CutStep c.loop-item.cutter x c.next.new.self) c.in-Fault.is c.next.ensures in
    read_so_far c.args.dump.now c.loop-item.cutter c.next.new.self c.loop-item.at c.loop-item.changes.items
    c.loop-item.numbers.items c.loop-item.invariant _ _ _ _ refl refl c.ended-in-Fault.ensures (read_ends
    c.args.dump.now c.loop-item.cutter c.next.new.self c.loop-item.invariant.read
    (Ending.Broken c.in-Fault.kind c.in-Fault.place) step.0)
