use Rattle.std.proofs.Common.{subst, arith, sym, ◌∙◌, rules}
use Rattle.dump_records.specs.declared.cutter.Cut.{Cut}
use Rattle.dump_records.specs.steps.RecordViews.{CutStep}
use Rattle.dump_cut.specs.steps.CountedRevisions.{is_after}
use Rattle.dump_records.proofs.CutterLemmas.{read_nearer}
use Rattle.dump_cut.proofs.LaterLemmas.{is_first, is_none, none_more, none_yet}
use Rattle.dump_cut.proofs.later.first_place.Goals as goal

pub loop-item-init : goal.loop-item-init
loop-item-init c = none_yet (is_after c.args.number) c.args.dump.now c.new-cutter.result c.new-cutter.ensures

pub returns-then-is_after-clause-place : goal.returns-then-is_after-clause-place
returns-then-is_after-clause-place c records has =
    let step = subst (λ (x : Cut). CutStep c.loop-item.cutter x c.next.new.self) c.in-Item.is c.next.ensures in
    c.place.ensures
    ∙ is_first (is_after c.args.number) c.args.dump.now c.loop-item.cutter c.next.new.self c.loop-item.invariant c.in-Item.item
    step (sym c.is_after.ensures ∙ c.if-is_after.true) records has

pub loop-item-smaller : goal.loop-item-smaller
loop-item-smaller c =
    let step = subst (λ (x : Cut). CutStep c.loop-item.cutter x c.next.new.self) c.in-Item.is c.next.ensures in
    let near = read_nearer c.args.dump.now c.loop-item.cutter c.next.new.self c.loop-item.invariant.read c.in-Item.item step in
    omega (arith, near.0, near.1)

pub loop-item-preserved : goal.loop-item-preserved
loop-item-preserved c =
    let step = subst (λ (x : Cut). CutStep c.loop-item.cutter x c.next.new.self) c.in-Item.is c.next.ensures in
    none_more (is_after c.args.number) c.args.dump.now c.loop-item.cutter c.next.new.self c.loop-item.invariant c.in-Item.item
    step (sym c.is_after.ensures ∙ c.if-is_after.false)

pub returns : goal.returns
returns c = record {
  place = is_none (is_after c.args.number) c.args.dump.now c.loop-item.cutter c.next.new.self c.loop-item.invariant
      c.next.result c.next.ensures c.in_default.not-Item;
  inside = search rules;
}
