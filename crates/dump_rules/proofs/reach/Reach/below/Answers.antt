use Rattle.dump_rules.proofs.Prelude.{rules, nat_lt}
use Rattle.dump_rules.proofs.ReachLemmas.{parted_below, count_kept}
use Rattle.dump_rules.proofs.reach.Reach.below.Goals as goal

pub returns : goal.returns
returns c =
    let found = c.partition_point.ensures in
    count_kept (λ k. nat_lt k c.args.revision) _ _ _ _ found.bound found.partitioned c.deref.ensures.value
    c.self.view_is (parted_below _ _ _ c.self.invariant) (λ a r q k. search rules)
