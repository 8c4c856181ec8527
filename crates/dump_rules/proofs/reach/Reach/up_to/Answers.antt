use Rattle.dump_rules.proofs.Prelude.{rules, nat_le}
use Rattle.dump_rules.proofs.ReachLemmas.{parted_from_rise, count_kept}
use Rattle.dump_rules.proofs.reach.Reach.up_to.Goals as goal

pub returns : goal.returns
returns c =
    let found = c.partition_point.ensures in
    count_kept (λ k. nat_le k c.args.revision) _ _ _ _ found.bound found.partitioned c.deref.ensures.value
    c.self.view_is (parted_from_rise _ _ _ c.self.invariant) (λ a r q k. search rules)
