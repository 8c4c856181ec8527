use Rattle.std.proofs.Common.{◌≡◌, ◌≤◌, List, length, nat_le, rules, true, false, ap, subst, sym, ◌∙◌}
use Rattle.std.proofs.lemmas.List.Sorted.{IsPartitionPoint-from_clause}
use Rattle.std.specs.List.Sorted.{IsPartitionPoint, IsPartitionedBy}
use Rattle.dump_trees.specs.steps.Looking.{end_of}
use Rattle.dump_index.specs.steps.Listed.{Listed, all_placed}
use Rattle.dump_index.specs.declared.change.NodeChange.{NodeChange}
use Rattle.dump_index.proofs.OrderLemmas.{changes_parted, point_is_end}
use Rattle.dump_index.proofs.index.ChangeIndex.end_of.Goals as goal

pub returns : goal.returns
returns c =
    let number = c.args.revision in
    let changes = c.self.inside.changes.items in
    let point = c.partition_point.result in
    point_is_end changes number point
    (subst (λ (all : List NodeChange). point ≤ length all) c.deref.ensures.value c.partition_point.ensures.bound)
    (subst (λ (all : List NodeChange). IsPartitionPoint (λ (x : NodeChange). nat_le x.revision number ≡ true)
    (λ (x : NodeChange). nat_le x.revision number ≡ false) all point) c.deref.ensures.value
    (IsPartitionPoint-from_clause (λ (x : NodeChange). nat_le x.revision number) _ point c.partition_point.ensures.partitioned
    (subst (λ (all : List NodeChange). IsPartitionedBy (λ (x : NodeChange). nat_le x.revision number) all)
    (sym c.deref.ensures.value) (changes_parted changes number c.self.invariant.ordered)) (λ a r q k. search rules)))
    ∙ ap (λ (all : List Listed). end_of (all_placed all) number) c.self.view_is
