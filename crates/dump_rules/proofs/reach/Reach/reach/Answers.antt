use Rattle.dump_rules.proofs.Prelude.{◌≡◌, ℕ, ◌+◌, Some, subst, rules, arith, ap, sym, ◌∙◌, nat_le, count_by, KeptRevisions, RiseFrom}
use Rattle.dump_rules.proofs.ReachLemmas.{parted_from_rise, count_kept, image_of_none, image_of_some}
use Rattle.dump_rules.proofs.reach.Reach.reach.Goals as goal
use Rattle.dump_rules.proofs.reach.Reach.reach.Goals.{After-partition_point-up_to}

found : (c : After-partition_point-up_to) → c.partition_point-up_to.result ≡ count_by
    (λ k. nat_le k c.args.revision) c.args.self.now.numbers
found c =
    let at_point = c.partition_point-up_to.ensures in
    count_kept (λ k. nat_le k c.args.revision) _ _ _ _ at_point.bound at_point.partitioned c.deref.ensures.value
    c.self.view_is (parted_from_rise _ _ _ c.self.invariant) (λ a r q k. search rules)

risen : (c : After-partition_point-up_to) → RiseFrom c.args.self.now.first c.args.self.now.numbers
risen c = subst (λ (kept : KeptRevisions). RiseFrom kept.first kept.numbers) c.self.view_is c.self.invariant

pub returns-in_err-before : goal.returns-in_err-before
returns-in_err-before c =
    let at_point = (goal.at.returns-in_err-before c).After-partition_point-up_to in
    let count = found at_point in
    let few = c.in_err-before.ensures in
    c.from_residual.ensures ∙ sym (image_of_none c.args.self.now c.args.revision (risen at_point) (grind arith))

pub overflow_add-result : goal.overflow_add-result
overflow_add-result c =
    let at_point = (goal.at.overflow_add-result c).After-partition_point-up_to in
    let count = found at_point in
    let some = c.in_ok-before.ensures in
    let reached = image_of_some c.args.self.now c.args.revision c.in_ok-before.before (risen at_point) (omega arith) in
    let first = ap (λ (kept : KeptRevisions). kept.first) c.self.view_is in
    let fits = c.ranges.revision.fits in
    omega arith

pub returns : goal.returns
returns c =
    let at_point = (goal.at.returns c).After-partition_point-up_to in
    let count = found at_point in
    let some = c.in_ok-before.ensures in
    let reached = image_of_some c.args.self.now c.args.revision c.in_ok-before.before (risen at_point) (omega arith) in
    let first = ap (λ (kept : KeptRevisions). kept.first) c.self.view_is in
    ap (λ (n : ℕ). Some (n + c.in_ok-before.before)) first ∙ sym reached.0
