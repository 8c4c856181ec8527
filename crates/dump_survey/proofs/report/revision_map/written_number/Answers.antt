use Rattle.dump_survey.proofs.Prelude.{rules, IsPartitionPoint-from_clause, IsPartitionedBy-ltb, count_at_point}
use Rattle.std.proofs.Common.{nat_lt}
use Rattle.dump_survey.proofs.report.revision_map.written_number.Goals as goal

pub returns : goal.returns
returns c =
    let parted = IsPartitionedBy-ltb (λ k. k) c.args.sorted.now c.args.number c.requires.rising in
    let point = IsPartitionPoint-from_clause (λ k. nat_lt k c.args.number) c.args.sorted.now _
    c.partition_point-below.ensures.partitioned parted (λ a r q k. search rules) in
    let below = count_at_point (λ k. nat_lt k c.args.number) c.partition_point-below.result c.args.sorted.now
    c.partition_point-below.ensures.bound point in
    rw (← below) (search rules)
