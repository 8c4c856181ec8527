use Rattle.std.proofs.Common.{◌≡◌, ◌∷◌, [], ◌++◌, ◌-◌, length, take, drop, sym, ap, ◌∙◌, subst, arith, map}
use Rattle.std.proofs.lemmas.Bool.{eqb-true}
use Rattle.std.proofs.lemmas.List.{nil_from_length, take_rest}
use Rattle.dump_records.specs.declared.cutter.Cut.{Cut}
use Rattle.dump_records.specs.steps.RecordViews.{CutStep, record_item}
use Rattle.dump_history.specs.TrimmedDumps.{IsTrimmedText}
use Rattle.dump_cut.specs.TrimmedCopies.{deletes_behind}
use Rattle.dump_cut.specs.steps.TrimmedTexts.{delete_texts}
use Rattle.dump_cut.proofs.TrimmedTextLemmas.{path_texts, first_texts, plain_texts, none_trimmed, none_taken, other_passes, trim_nearer, trim_on, trim_more, low, high, trimmed_early, trimmed_late}
use Rattle.dump_cut.proofs.trimming.trimmed.Goals as goal
use Rattle.dump_cut.proofs.trimming.trimmed.Goals.{in-Item+else-not-is_node+in_default-left, in_default}

pub loop-item-init : goal.loop-item-init
loop-item-init c =
    none_trimmed (path_texts c.args.deletes.now) c.args.dump.now c.new-cutter.result c.new-piece.result c.new-cutter.ensures
    c.new-piece.ensures

pub loop-item-smaller-then-not-is_node : goal.loop-item-smaller-then-not-is_node
loop-item-smaller-then-not-is_node c =
    let step = subst (λ (x : Cut). CutStep c.loop-item.cutter x c.next.new.self) c.in-Item.is c.next.ensures in
    let near = trim_nearer (path_texts c.args.deletes.now) c.args.dump.now c.loop-item.cutter c.next.new.self
    c.loop-item.piece (path_texts c.loop-item.left.now) c.loop-item.from c.loop-item.invariant c.in-Item.item step in
    omega (arith, near.0, near.1)

pub loop-item-preserved-then-not-is_node : goal.loop-item-preserved-then-not-is_node
loop-item-preserved-then-not-is_node c =
    let step = subst (λ (x : Cut). CutStep c.loop-item.cutter x c.next.new.self) c.in-Item.is c.next.ensures in
    let left = path_texts c.loop-item.left.now in
    trim_on (path_texts c.args.deletes.now) c.args.dump.now c.loop-item.cutter c.next.new.self c.loop-item.piece left
    c.loop-item.from c.loop-item.invariant c.in-Item.item step left
    (other_passes (record_item c.in-Item.item) left (sym c.is_node.ensures ∙ c.if-not-is_node.true))

pub slice_bounds-push-count : goal.slice_bounds-push-count
slice_bounds-push-count c =
    let step = subst (λ (x : Cut). CutStep c.loop-item.cutter x c.next.new.self) c.in-Item.is c.next.ensures in
    low (path_texts c.args.deletes.now) c.args.dump.now c.loop-item.cutter c.next.new.self c.loop-item.piece
    (path_texts c.loop-item.left.now) c.loop-item.from c.loop-item.invariant c.in-Item.item step c.after-after.result
    c.after-after.ensures

pub slice_bounds-push-start : goal.slice_bounds-push-start
slice_bounds-push-start c = slice_bounds-push-count c

pub slice_bounds-push-end : goal.slice_bounds-push-end
slice_bounds-push-end c =
    let step = subst (λ (x : Cut). CutStep c.loop-item.cutter x c.next.new.self) c.in-Item.is c.next.ensures in
    high (path_texts c.args.deletes.now) c.args.dump.now c.loop-item.cutter c.next.new.self c.loop-item.piece
    (path_texts c.loop-item.left.now) c.loop-item.from c.loop-item.invariant c.in-Item.item step c.after-after.result
    c.after-after.ensures

pub loop-item-smaller-then-not-is_empty : goal.loop-item-smaller-then-not-is_empty
loop-item-smaller-then-not-is_empty c =
    let step = subst (λ (x : Cut). CutStep c.loop-item.cutter x c.next.new.self) c.in-Item.is c.next.ensures in
    let near = trim_nearer (path_texts c.args.deletes.now) c.args.dump.now c.loop-item.cutter c.next.new.self
    c.loop-item.piece (path_texts c.loop-item.left.now) c.loop-item.from c.loop-item.invariant c.in-Item.item step in
    omega (arith, near.0, near.1)

pub loop-item-preserved-then-not-is_empty : goal.loop-item-preserved-then-not-is_empty
loop-item-preserved-then-not-is_empty c =
    let step = subst (λ (x : Cut). CutStep c.loop-item.cutter x c.next.new.self) c.in-Item.is c.next.ensures in
    let left = c.loop-item.left.now in
    let paths = c.paths-item.result in
    trim_more (path_texts c.args.deletes.now) c.args.dump.now c.loop-item.cutter c.next.new.self c.loop-item.piece
    (path_texts left) c.loop-item.from c.loop-item.invariant c.in-Item.item step c.after-after.result c.after-after.ensures
    (map (λ path. path.items) paths.items) _ c.push-then-not-is_empty.new.self
    (sym c.is_node.ensures ∙ c.if-not-is_node.false)
    (first_texts left paths c.in-len1-up.len_at_least c.paths-item.is)
    (c.in_ok-push-2.ensures.ok
    ∙ (λ i. c.in_ok-push.ensures.ok i
    ++ (c.in_ok-nodes.ensures ∙ ap (λ ps. delete_texts (map (λ path. path.items) ps)) c.deref.ensures.value) i))

pub loop-item-smaller : goal.loop-item-smaller
loop-item-smaller c =
    let step = subst (λ (x : Cut). CutStep c.loop-item.cutter x c.next.new.self) c.in-Item.is c.next.ensures in
    let near = trim_nearer (path_texts c.args.deletes.now) c.args.dump.now c.loop-item.cutter c.next.new.self
    c.loop-item.piece (path_texts c.loop-item.left.now) c.loop-item.from c.loop-item.invariant c.in-Item.item step in
    omega (arith, near.0, near.1)

pub loop-item-preserved : goal.loop-item-preserved
loop-item-preserved c =
    let step = subst (λ (x : Cut). CutStep c.loop-item.cutter x c.next.new.self) c.in-Item.is c.next.ensures in
    let left = c.loop-item.left.now in
    let paths = c.paths-item.result in
    let others = path_texts (take (length left - 1) (drop 1 left)) in
    let no_paths = eqb-true paths.len 0 (sym c.is_empty.ensures ∙ c.if-not-is_empty.false) in
    let size = paths.ok in
    let none : paths.items ≡ [] = nil_from_length paths.items (omega (arith, no_paths, size)) in
    trim_on (path_texts c.args.deletes.now) c.args.dump.now c.loop-item.cutter c.next.new.self c.loop-item.piece
    (path_texts left) c.loop-item.from c.loop-item.invariant c.in-Item.item step others
    (none_taken (record_item c.in-Item.item) (path_texts left) others (sym c.is_node.ensures ∙ c.if-not-is_node.false)
    (first_texts left paths c.in-len1-up.len_at_least c.paths-item.is
    ∙ ap (λ ps. map (λ path. path.items) ps ∷ others) none))

pub slice_bounds-push-count-2 : goal.slice_bounds-push-count-2
slice_bounds-push-count-2 c = c.loop-item.invariant.inside

pub returns : goal.returns
returns c = λ records has.
    let dump = c.args.dump.now in
    let deletes = path_texts c.args.deletes.now in
    let left = path_texts c.loop-item.left.now in
    let plain = plain_texts c.args.deletes.now c.requires in
    subst (λ text. IsTrimmedText records (deletes_behind records deletes) text)
    (sym (c.in_ok-push-3.ensures.ok ∙ ap (λ t. c.loop-item.piece ++ t) (take_rest dump c.loop-item.from)))
    (elim c.match-next.branch [
      | in-Item+else-not-is_node+in_default-left w ↦
          trimmed_early deletes dump c.loop-item.cutter c.next.new.self c.loop-item.piece left c.loop-item.from
          c.loop-item.invariant records has
          (ap path_texts (nil_from_length c.loop-item.left.now (let few = w.in_default-left.len_below in omega (arith, few))))
          plain
      | in_default w ↦
          trimmed_late deletes dump c.loop-item.cutter c.next.new.self c.loop-item.piece left c.loop-item.from
          c.loop-item.invariant records has c.next.result c.next.ensures w.in_default.not-Item plain
    ])
