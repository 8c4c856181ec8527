use Rattle.std.proofs.Common.{subst, arith, refl}
use Rattle.dump_records.specs.declared.cutter.Cut.{Cut}
use Rattle.dump_records.specs.steps.RecordViews.{CutStep}
use Rattle.dump_records.proofs.CutterLemmas.{read_nearer}
use Rattle.dump_cut.proofs.FateLemmas.{all_fates, fates_more, no_fates}
use Rattle.dump_cut.proofs.fates.revision_fates.Goals as goal

pub loop-item-init : goal.loop-item-init
loop-item-init c = no_fates c.args.options.now c.args.dump.now c.new-cutter.result _ c.new-fates.result.items
    c.new-cutter.ensures refl c.new-fates.ensures.items

pub loop-item-smaller : goal.loop-item-smaller
loop-item-smaller c =
    let step = subst (λ (x : Cut). CutStep c.loop-item.cutter x c.next.new.self) c.in-Item.is c.next.ensures in
    let near = read_nearer c.args.dump.now c.loop-item.cutter c.next.new.self c.loop-item.invariant.read c.in-Item.item step in
    omega (arith, near.0, near.1)

pub loop-item-preserved : goal.loop-item-preserved
loop-item-preserved c =
    let step = subst (λ (x : Cut). CutStep c.loop-item.cutter x c.next.new.self) c.in-Item.is c.next.ensures in
    fates_more c.args.options.now c.args.dump.now c.loop-item.cutter c.next.new.self c.loop-item.present
    c.loop-item.fates.items c.loop-item.invariant c.in-Item.item step c.push_before.new.fates.items _
    c.in_ok-push_before.ensures c.open_after-present.ensures

pub returns : goal.returns
returns c = all_fates c.args.options.now c.args.dump.now c.loop-item.cutter c.next.new.self c.loop-item.present
    c.loop-item.fates.items c.loop-item.invariant c.next.result c.next.ensures c.in_default.not-Item
    c.push_ended.new.fates.items c.in_ok-push_ended.ensures
