use Rattle.std.proofs.Common.{map, rules}
use Rattle.std.proofs.lemmas.List.Sorted.{IsPartitionPoint-from_clause}
use Rattle.dump_index.specs.steps.Listed.{listed_of}
use Rattle.dump_index.proofs.WalkLemmas.{is_key_up_to, up_to_parted, is_behind}
use Rattle.dump_index.proofs.order.behind.Goals as goal

pub returns : goal.returns
returns c =
    let listed = map listed_of c.args.changes.now in
    is_behind listed c.args.places.now c.args.front.now c.partition_point.result c.partition_point.ensures.bound
    (IsPartitionPoint-from_clause (is_key_up_to listed c.args.front.now) _ c.partition_point.result
    c.partition_point.ensures.partitioned (up_to_parted listed c.args.places.now c.args.front.now c.requires)
    (λ a r q k. search rules))
