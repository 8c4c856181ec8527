use Rattle.std.proofs.Common.{subst, arith}
use Rattle.dump_records.specs.declared.cutter.Cut.{Cut}
use Rattle.dump_changes.specs.steps.FileTexts.{told_text}
use Rattle.dump_changes.specs.steps.NodeTexts.{told_of}
use Rattle.dump_records.proofs.CutterLemmas.{read_nearer}
use Rattle.dump_changes.proofs.Prelude.{CutStep}
use Rattle.dump_changes.proofs.TableLemmas.{all_parts, no_parts, one_more_part}
use Rattle.dump_changes.proofs.text_table.TextTable.of.Goals as goal

pub loop-item-init : goal.loop-item-init
loop-item-init c =
    no_parts told_of told_text c.args.dump.now c.new-cutter.result c.new-texts.result.items c.new-cutter.ensures
    c.new-texts.ensures.items

pub loop-item-smaller : goal.loop-item-smaller
loop-item-smaller c =
    let step = subst (λ (x : Cut). CutStep c.loop-item.cutter x c.next.new.self) c.in-Item.is c.next.ensures in
    let near =
    read_nearer c.args.dump.now c.loop-item.cutter c.next.new.self c.loop-item.invariant.read c.in-Item.item step in
    omega (arith, near.0, near.1)

pub loop-item-preserved : goal.loop-item-preserved
loop-item-preserved c =
    let step = subst (λ (x : Cut). CutStep c.loop-item.cutter x c.next.new.self) c.in-Item.is c.next.ensures in
    one_more_part told_of told_text c.args.dump.now c.loop-item.cutter c.next.new.self c.loop-item.texts.items
    c.loop-item.invariant c.in-Item.item step c.text_of.result c.push.new.self.items c.text_of.ensures
    c.in_ok-push.ensures.items

pub returns : goal.returns
returns c =
    all_parts told_of told_text c.args.dump.now c.loop-item.cutter c.next.new.self c.loop-item.texts.items
    c.loop-item.invariant c.next.result c.next.ensures c.in_default.not-Item
