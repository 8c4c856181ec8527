use Rattle.std.proofs.Common.{List, ℕ, map, sym, rules, subst}
use Rattle.std.proofs.Math.Seq.{take-length}
use Rattle.std.proofs.lemmas.List.Sorted.{IsPartitionPoint-from_clause}
use Rattle.std.specs.List.Sorted.{IsPartitionedBy}
use Rattle.dump_index.specs.steps.Listed.{listed_of}
use Rattle.dump_index.specs.steps.Keys.{PathKey, IsSortedKeys, is_key_before, key_in, keys_in}
use Rattle.dump_index.specs.steps.Below.{AreFrom, NoneBelow}
use Rattle.dump_index.proofs.KeyLemmas.{IsPointOf, keys_parted}
use Rattle.dump_index.proofs.WalkLemmas.{front_none, behind_from}
use Rattle.dump_index.proofs.order.PathOrder.first_from.Goals as goal
use Rattle.dump_index.proofs.order.PathOrder.first_from.Goals.{After-partition_point}

point : (c : After-partition_point)
    → IsPointOf (map listed_of c.args.changes.now) c.self.inside.places.items (c.args.top.now, 0) c.partition_point.result
point c =
    let listed = map listed_of c.args.changes.now in
    let wanted : PathKey = (c.args.top.now, 0) in
    subst (λ (places : List ℕ). IsPointOf listed places wanted c.partition_point.result) c.deref.ensures.value
    (IsPartitionPoint-from_clause (λ place. is_key_before (key_in listed place) wanted) _ c.partition_point.result
    c.partition_point.ensures.partitioned
    (subst (λ (places : List ℕ). IsPartitionedBy (λ place. is_key_before (key_in listed place) wanted) places)
    (sym c.deref.ensures.value)
    (keys_parted listed c.self.inside.places.items wanted (subst (IsSortedKeys listed) (sym c.self.view_is) c.requires)))
    (λ a r q k. search (rules, take-length)))

pub returns-clause-front : goal.returns-clause-front
returns-clause-front c =
    let listed = map listed_of c.args.changes.now in
    subst (λ (places : List ℕ). NoneBelow (keys_in listed places) c.args.top.now 0 c.partition_point.result) c.self.view_is
    (front_none listed c.self.inside.places.items c.args.top.now c.partition_point.result (point c))

pub returns-clause-behind : goal.returns-clause-behind
returns-clause-behind c =
    let listed = map listed_of c.args.changes.now in
    subst (λ (places : List ℕ). AreFrom (keys_in listed places) c.args.top.now c.partition_point.result) c.self.view_is
    (behind_from listed c.self.inside.places.items c.args.top.now c.partition_point.result (point c))
