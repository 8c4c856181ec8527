use Rattle.std.proofs.Common.{◌≡◌, ◌==◌, ◌≤◌, false, ◌∷◌, [], ◌++◌, ◌+◌, ◌-◌, List, length, take, drop, get_or, sym, ap, ◌∙◌, subst, arith, map, ne_eqb, eq-eqb}
use Rattle.std.proofs.lemmas.List.{nil_from_length, take_rest}
use Rattle.dump_records.specs.declared.cutter.Cut.{Cut}
use Rattle.dump_records.specs.steps.RecordViews.{CutStep, record_item}
use Rattle.dump_expansion.specs.steps.GivenSteads.{GivenStead}
use Rattle.dump_expansion.specs.steps.ExpandedBytes.{IsExactlyExpandedBy}
use Rattle.dump_expansion.specs.steps.Given.{given_of}
use Rattle.dump_expansion.specs.steps.NewNodes.{written_of}
use Rattle.dump_expansion.specs.declared.expanding.Stead.{Stead}
use Rattle.dump_expansion.specs.steps.NodeTexts.{nodes_text}
use Rattle.dump_expansion.proofs.ExpandingLemmas.{expand_on, expanded_early, expanded_late, has_its_records, high, low, nearer, none_written, pass_on}
use Rattle.dump_expansion.proofs.SteadLemmas.{bytes_with, no_node, node_takes, other_number, own_with_lfs}
use Rattle.dump_expansion.proofs.expanding.expanded.Goals as goal
use Rattle.dump_expansion.proofs.expanding.expanded.Goals.{in-Item+in_default-left, in_default}

-- the first one that is given and the others
first_given : (left : List Stead) (stead : Stead) → 1 ≤ length left → stead ≡ get_or left 0 stead
    → map given_of left ≡ given_of stead ∷ map given_of (take (length left - 1) (drop 1 left))
first_given [] stead some is = absurd (omega arith)
first_given (first ∷ left) stead some is =
    λ i. given_of (sym is i) ∷ map given_of (sym (take_rest (first ∷ left) 1) i)

pub loop-item-init : goal.loop-item-init
loop-item-init c =
    none_written (map given_of c.args.steads.now) c.args.dump.now c.new-cutter.result c.new-text.result.items
    c.new-cutter.ensures c.new-text.ensures.items

pub loop-item-smaller-then-stead-number : goal.loop-item-smaller-then-stead-number
loop-item-smaller-then-stead-number c =
    let step = subst (λ (x : Cut). CutStep c.loop-item.cutter x c.next.new.self) c.in-Item.is c.next.ensures in
    let near = nearer (map given_of c.args.steads.now) c.args.dump.now c.loop-item.cutter c.next.new.self
    c.loop-item.text.items (map given_of c.loop-item.left.now) c.loop-item.from c.loop-item.invariant c.in-Item.item step in
    omega (arith, near.0, near.1)

pub loop-item-preserved-then-stead-number : goal.loop-item-preserved-then-stead-number
loop-item-preserved-then-stead-number c =
    let step = subst (λ (x : Cut). CutStep c.loop-item.cutter x c.next.new.self) c.in-Item.is c.next.ensures in
    let n = c.loop-item.cutter.number in
    let left = c.loop-item.left.now in
    let stead = c.stead-item.result in
    let others = map given_of (take (length left - 1) (drop 1 left)) in
    let number = c.number.ensures ∙ step.1 in
    let other = subst (λ m. (stead.record_number == m) ≡ false) number
    (ne_eqb stead.record_number c.number.result c.if-stead-number.true) in
    pass_on (map given_of c.args.steads.now) c.args.dump.now c.loop-item.cutter c.next.new.self c.loop-item.text.items
    (map given_of left) c.loop-item.from c.loop-item.invariant c.in-Item.item step (map given_of left)
    (λ rest. subst (λ (gs : List GivenStead). bytes_with c.args.dump.now n (record_item c.in-Item.item ∷ rest) gs
    ≡ own_with_lfs c.args.dump.now (record_item c.in-Item.item) ++ bytes_with c.args.dump.now (n + 1) rest gs)
    (sym (first_given left stead c.in-len1-up.len_at_least c.stead-item.is))
    (other_number c.args.dump.now n (record_item c.in-Item.item) (given_of stead) others other rest))

pub loop-item-smaller-then-not-is_node : goal.loop-item-smaller-then-not-is_node
loop-item-smaller-then-not-is_node c =
    let step = subst (λ (x : Cut). CutStep c.loop-item.cutter x c.next.new.self) c.in-Item.is c.next.ensures in
    let near = nearer (map given_of c.args.steads.now) c.args.dump.now c.loop-item.cutter c.next.new.self
    c.loop-item.text.items (map given_of c.loop-item.left.now) c.loop-item.from c.loop-item.invariant c.in-Item.item step in
    omega (arith, near.0, near.1)

pub loop-item-preserved-then-not-is_node : goal.loop-item-preserved-then-not-is_node
loop-item-preserved-then-not-is_node c =
    let step = subst (λ (x : Cut). CutStep c.loop-item.cutter x c.next.new.self) c.in-Item.is c.next.ensures in
    let n = c.loop-item.cutter.number in
    let left = c.loop-item.left.now in
    let stead = c.stead-item.result in
    let others = map given_of (take (length left - 1) (drop 1 left)) in
    let same = eq-eqb stead.record_number n (c.if-stead-number.false ∙ c.number.ensures ∙ step.1) in
    pass_on (map given_of c.args.steads.now) c.args.dump.now c.loop-item.cutter c.next.new.self c.loop-item.text.items
    (map given_of left) c.loop-item.from c.loop-item.invariant c.in-Item.item step others
    (λ rest. ap (bytes_with c.args.dump.now n (record_item c.in-Item.item ∷ rest))
    (first_given left stead c.in-len1-up.len_at_least c.stead-item.is)
    ∙ no_node c.args.dump.now n (record_item c.in-Item.item) (given_of stead) others same
    (sym c.is_node.ensures ∙ c.if-not-is_node.true) rest)

pub slice_bounds-extend_from_slice-count : goal.slice_bounds-extend_from_slice-count
slice_bounds-extend_from_slice-count c =
    let step = subst (λ (x : Cut). CutStep c.loop-item.cutter x c.next.new.self) c.in-Item.is c.next.ensures in
    low (map given_of c.args.steads.now) c.args.dump.now c.loop-item.cutter c.next.new.self c.loop-item.text.items
    (map given_of c.loop-item.left.now) c.loop-item.from c.loop-item.invariant c.in-Item.item step c.place.result
    c.place.ensures

pub slice_bounds-extend_from_slice-start : goal.slice_bounds-extend_from_slice-start
slice_bounds-extend_from_slice-start c = slice_bounds-extend_from_slice-count c

pub slice_bounds-extend_from_slice-end : goal.slice_bounds-extend_from_slice-end
slice_bounds-extend_from_slice-end c =
    let step = subst (λ (x : Cut). CutStep c.loop-item.cutter x c.next.new.self) c.in-Item.is c.next.ensures in
    high (map given_of c.args.steads.now) c.args.dump.now c.loop-item.cutter c.next.new.self c.loop-item.text.items
    (map given_of c.loop-item.left.now) c.loop-item.from c.loop-item.invariant c.in-Item.item step c.place.result
    c.place.ensures

pub loop-item-smaller : goal.loop-item-smaller
loop-item-smaller c =
    let step = subst (λ (x : Cut). CutStep c.loop-item.cutter x c.next.new.self) c.in-Item.is c.next.ensures in
    let near = nearer (map given_of c.args.steads.now) c.args.dump.now c.loop-item.cutter c.next.new.self
    c.loop-item.text.items (map given_of c.loop-item.left.now) c.loop-item.from c.loop-item.invariant c.in-Item.item step in
    omega (arith, near.0, near.1)

pub loop-item-preserved : goal.loop-item-preserved
loop-item-preserved c =
    let step = subst (λ (x : Cut). CutStep c.loop-item.cutter x c.next.new.self) c.in-Item.is c.next.ensures in
    let n = c.loop-item.cutter.number in
    let left = c.loop-item.left.now in
    let stead = c.stead-item.result in
    let others = map given_of (take (length left - 1) (drop 1 left)) in
    let same = eq-eqb stead.record_number n (c.if-stead-number.false ∙ c.number.ensures ∙ step.1) in
    expand_on (map given_of c.args.steads.now) c.args.dump.now c.loop-item.cutter c.next.new.self c.loop-item.text.items
    (map given_of left) c.loop-item.from c.loop-item.invariant c.in-Item.item step c.place.result c.place.ensures
    (map written_of stead.nodes.items) others c.push_nodes.new.out.items
    (c.in_ok-push_nodes.ensures
    ∙ (λ i. c.in_ok-extend_from_slice.ensures.items i ++ nodes_text (map written_of (c.deref.ensures.value i))))
    stead.keeps c.left_from-from.result
    (λ rest. ap (bytes_with c.args.dump.now n (record_item c.in-Item.item ∷ rest))
    (first_given left stead c.in-len1-up.len_at_least c.stead-item.is)
    ∙ node_takes c.args.dump.now n (record_item c.in-Item.item) (given_of stead) others same
    (sym c.is_node.ensures ∙ c.if-not-is_node.false) rest)
    c.left_from-from.ensures

pub returns-clause-bytes : goal.returns-clause-bytes
returns-clause-bytes c =
    let dump = c.args.dump.now in
    let given = map given_of c.args.steads.now in
    let left = map given_of c.loop-item.left.now in
    let text = c.loop-item.text.items in
    subst (IsExactlyExpandedBy given dump)
    (sym (c.in_ok-extend_from_slice-2.ensures.items ∙ ap (λ t. text ++ t) (take_rest dump c.loop-item.from)))
    (elim c.match-next.branch [
      | in-Item+in_default-left w ↦
          expanded_early given dump c.loop-item.cutter c.next.new.self text left c.loop-item.from c.loop-item.invariant
          (ap (map given_of)
          (nil_from_length c.loop-item.left.now (let few = w.in_default-left.len_below in omega (arith, few))))
      | in_default w ↦
          expanded_late given dump c.loop-item.cutter c.next.new.self text left c.loop-item.from c.loop-item.invariant
          c.next.result c.next.ensures w.in_default.not-Item
    ])

pub returns-clause-records : goal.returns-clause-records
returns-clause-records c =
    has_its_records (map given_of c.args.steads.now) c.args.dump.now _ c.requires (returns-clause-bytes c)
