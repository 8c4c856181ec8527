use Rattle.std.proofs.Common.{◌≡◌, ◌∙◌, ◌+◌, ◌==◌, true, false, subst, arith, refl, sym, ap, unwrap_or, rules}
use Rattle.std.proofs.lemmas.Bool.{eqb-true, false_from_ne_true}
use Rattle.dump_text.specs.Names.{revision_name}
use Rattle.dump_records.specs.declared.cutter.Cut.{Cut}
use Rattle.dump_records.specs.steps.RecordViews.{CutStep, record_item}
use Rattle.dump_digest.specs.RecordParts.{is_revision_record}
use Rattle.dump_filter.specs.Groups.{revision_number}
use Rattle.dump_filter.proofs.again.Output.{header_small}
use Rattle.dump_records.proofs.CutterLemmas.{read_nearer}
use Rattle.dump_cut.proofs.LaterLemmas.{all_counted, next_counted, none_counted, not_counted, other_counted}
use Rattle.dump_cut.proofs.later.count_revisions.Goals as goal

pub loop-item-init : goal.loop-item-init
loop-item-init c = none_counted c.args.dump.now c.new-cutter.result _ c.new-cutter.ensures refl

pub returns-then-revision-count : goal.returns-then-revision-count
returns-then-revision-count c =
    let step = subst (λ (x : Cut). CutStep c.loop-item.cutter x c.next.new.self) c.in-Item.is c.next.ensures in
    let is : is_revision_record (record_item c.in-Item.item) ≡ true = search rules in
    let number : revision_number (record_item c.in-Item.item) ≡ c.in-Some.revision =
    ap (λ o. unwrap_or o 0) (sym c.revision.ensures ∙ c.in-Some.is) in
    let differs : (revision_number (record_item c.in-Item.item) == c.loop-item.count) ≡ false =
    ap (λ n. n == c.loop-item.count) number ∙ false_from_ne_true _ (λ e. c.if-revision-count.true (eqb-true _ _ e)) in
    not_counted c.args.dump.now c.loop-item.cutter c.next.new.self c.loop-item.count c.loop-item.invariant c.in-Item.item step is
    differs

pub overflow_add-count : goal.overflow_add-count
overflow_add-count c =
    let small = header_small revision_name (record_item c.in-Item.item).headers c.in-Some.revision
    (sym c.revision.ensures ∙ c.in-Some.is) in
    omega (arith, small)

pub loop-item-smaller-in-Some : goal.loop-item-smaller-in-Some
loop-item-smaller-in-Some c =
    let step = subst (λ (x : Cut). CutStep c.loop-item.cutter x c.next.new.self) c.in-Item.is c.next.ensures in
    let near = read_nearer c.args.dump.now c.loop-item.cutter c.next.new.self c.loop-item.invariant.read c.in-Item.item step in
    omega (arith, near.0, near.1)

pub loop-item-preserved-in-Some : goal.loop-item-preserved-in-Some
loop-item-preserved-in-Some c =
    let step = subst (λ (x : Cut). CutStep c.loop-item.cutter x c.next.new.self) c.in-Item.is c.next.ensures in
    let is : is_revision_record (record_item c.in-Item.item) ≡ true = search rules in
    let number : revision_number (record_item c.in-Item.item) ≡ c.in-Some.revision =
    ap (λ o. unwrap_or o 0) (sym c.revision.ensures ∙ c.in-Some.is) in
    next_counted c.args.dump.now c.loop-item.cutter c.next.new.self c.loop-item.count c.loop-item.invariant c.in-Item.item step
    (c.in-Some.revision + 1) is (number ∙ c.if-revision-count.false) (ap (λ n. n + 1) c.if-revision-count.false)

pub loop-item-smaller : goal.loop-item-smaller
loop-item-smaller c =
    let step = subst (λ (x : Cut). CutStep c.loop-item.cutter x c.next.new.self) c.in-Item.is c.next.ensures in
    let near = read_nearer c.args.dump.now c.loop-item.cutter c.next.new.self c.loop-item.invariant.read c.in-Item.item step in
    omega (arith, near.0, near.1)

pub loop-item-preserved : goal.loop-item-preserved
loop-item-preserved c =
    let step = subst (λ (x : Cut). CutStep c.loop-item.cutter x c.next.new.self) c.in-Item.is c.next.ensures in
    let other : is_revision_record (record_item c.in-Item.item) ≡ false = search rules in
    other_counted c.args.dump.now c.loop-item.cutter c.next.new.self c.loop-item.count c.loop-item.invariant c.in-Item.item step
    other

pub returns : goal.returns
returns c = all_counted c.args.dump.now c.loop-item.cutter c.next.new.self c.loop-item.count c.loop-item.invariant
    c.next.result c.next.ensures c.in_default.not-Item
