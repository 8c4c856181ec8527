use Rattle.dump_rules.proofs.Prelude.{◌≡◌, true, false, nat_le, rules, IsPartitionPoint, IsPartitionPoint-from_clause, IsPartitionedBy-leb, Ends}
use Rattle.dump_rules.proofs.reading.BlockLemmas.{none_meets, last_meets}
use Rattle.dump_rules.proofs.blocks.some_meets.Goals as goal
use Rattle.dump_rules.proofs.blocks.some_meets.Goals.{After-partition_point-begun}

found : (c : After-partition_point-begun) → IsPartitionPoint (λ (e : Ends). nat_le e.from c.args.to ≡ true)
    (λ e. nat_le e.from c.args.to ≡ false) c.args.block.now c.partition_point-begun.result
found c =
    IsPartitionPoint-from_clause (λ (e : Ends). nat_le e.from c.args.to) _ _ c.partition_point-begun.ensures.partitioned
    (IsPartitionedBy-leb (λ (e : Ends). e.from) _ c.args.to c.requires.from_rises) (λ a r q k. search rules)

pub returns-then-begun-gt0 : goal.returns-then-begun-gt0
returns-then-begun-gt0 c =
    last_meets c.args.from c.args.to _ _ _ c.if-begun-gt0.true c.partition_point-begun.ensures.bound
    (found (goal.at.returns-then-begun-gt0 c).After-partition_point-begun) c.requires.to_rises

pub returns-else-begun-gt0 : goal.returns-else-begun-gt0
returns-else-begun-gt0 c =
    none_meets c.args.from c.args.to _ _ c.if-begun-gt0.false
    (found (goal.at.returns-else-begun-gt0 c).After-partition_point-begun)
