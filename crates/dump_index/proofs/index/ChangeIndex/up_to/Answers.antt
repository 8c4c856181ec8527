use Rattle.std.proofs.Common.{◌≡◌, true, List, IfOk, map, take, sym, ap, ◌∙◌, subst}
use Rattle.std.proofs.lemmas.List.{take-map}
use Rattle.dump_trees.specs.steps.Looking.{end_of}
use Rattle.dump_index.specs.steps.InOrder.{are_in_order}
use Rattle.dump_index.specs.steps.Listed.{Listed, all_placed, listed_of}
use Rattle.dump_index.specs.declared.change.NodeChange.{NodeChange}
use Rattle.dump_index.proofs.OrderLemmas.{first_ordered}
use Rattle.dump_index.proofs.index.ChangeIndex.up_to.Goals as goal

pub new-requires : goal.new-requires
new-requires c =
    subst (λ (all : List NodeChange). are_in_order 0 all ≡ true) (sym c.in_ok-changes.ensures.items)
    (first_ordered 0 c.deref.result.now c.end_of-end.result
    (subst (λ (all : List NodeChange). are_in_order 0 all ≡ true) (sym c.deref.ensures.value) c.self.invariant.ordered))

pub returns : goal.returns
returns c =
    let end = c.end_of-end.result in
    let listed : map listed_of c.in_ok-changes.changes.items ≡ take (end_of (all_placed c.args.self.now) c.args.revision) c.args.self.now =
    ap (map listed_of) (c.in_ok-changes.ensures.items ∙ ap (take end) c.deref.ensures.value)
    ∙ sym (take-map listed_of end c.self.inside.changes.items)
    ∙ ap (take end) c.self.view_is
    ∙ ap (λ n. take n c.args.self.now) c.end_of-end.ensures in
    subst (λ (all : List Listed). IfOk c.new.result (λ index. index ≡ all)) listed c.new.ensures
