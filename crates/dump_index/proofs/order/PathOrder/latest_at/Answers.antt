use Rattle.std.proofs.Common.{◌≤◌, List, ℕ, ap, bytes_eq, sym, arith, rules, length, map, subst, ◌∙◌}
use Rattle.std.proofs.Math.Seq.{take-length}
use Rattle.std.proofs.lemmas.List.Sorted.{IsPartitionPoint-from_clause}
use Rattle.std.specs.List.Sorted.{IsPartitionedBy}
use Rattle.dump_index.specs.steps.Listed.{listed_of}
use Rattle.dump_index.specs.declared.order.Effect.{Effect}
use Rattle.dump_index.specs.steps.Keys.{PathKey, is_key_before, key_in, has_effect_at, IsOrder}
use Rattle.dump_index.proofs.KeyLemmas.{IsPointOf, keys_parted, found_none, found_here, found_other}
use Rattle.dump_index.proofs.order.PathOrder.latest_at.Goals as goal
use Rattle.dump_index.proofs.order.PathOrder.latest_at.Goals.{After-partition_point-behind}

its : (c : After-partition_point-behind) (effect : Effect) → IsOrder effect (map listed_of c.args.changes.now) c.args.self.now
    → IsOrder effect (map listed_of c.args.changes.now) c.self.inside.places.items
its c effect order =
    subst (λ (all : List ℕ). IsOrder effect (map listed_of c.args.changes.now) all) (sym c.self.view_is) order

point : (c : After-partition_point-behind) (effect : Effect)
    → IsOrder effect (map listed_of c.args.changes.now) c.args.self.now
    → IsPointOf (map listed_of c.args.changes.now) c.self.inside.places.items (c.args.path.now, c.args.count)
    c.partition_point-behind.result
point c effect order =
    let listed = map listed_of c.args.changes.now in
    let wanted : PathKey = (c.args.path.now, c.args.count) in
    subst (λ (places : List ℕ). IsPointOf listed places wanted c.partition_point-behind.result) c.deref.ensures.value
    (IsPartitionPoint-from_clause (λ place. is_key_before (key_in listed place) wanted) _ c.partition_point-behind.result
    c.partition_point-behind.ensures.partitioned
    (subst (λ (places : List ℕ). IsPartitionedBy (λ place. is_key_before (key_in listed place) wanted) places)
    (sym c.deref.ensures.value)
    (keys_parted listed c.self.inside.places.items wanted (its c effect order).sorted))
    (λ a r q k. search (rules, take-length)))

bound : (c : After-partition_point-behind) → c.partition_point-behind.result ≤ length c.self.inside.places.items
bound c =
    subst (λ (places : List ℕ). c.partition_point-behind.result ≤ length places) c.deref.ensures.value
    c.partition_point-behind.ensures.bound

pub returns-in_err-last : goal.returns-in_err-last
returns-in_err-last c effect order =
    let listed = map listed_of c.args.changes.now in
    let at_point = (goal.at.returns-in_err-last c).After-partition_point-behind in
    let inside = its at_point effect order in
    let few = c.in_err-last.ensures in
    c.from_residual.ensures
    ∙ sym (found_none listed c.self.inside.places.items inside.sorted c.args.path.now c.args.count
    c.partition_point-behind.result (point at_point effect order) (has_effect_at effect listed c.args.path.now)
    (inside.keys.has c.args.path.now) (inside.keys.only c.args.path.now) (grind arith) 0)

pub returns-then-eq : goal.returns-then-eq
returns-then-eq c effect order =
    let listed = map listed_of c.args.changes.now in
    let at_point = (goal.at.returns-then-eq c).After-partition_point-behind in
    let inside = its at_point effect order in
    let some = c.in_ok-last.ensures in
    sym (found_here listed c.self.inside.places.items inside.sorted c.args.path.now c.args.count
    c.partition_point-behind.result (point at_point effect order) (has_effect_at effect listed c.args.path.now)
    (inside.keys.has c.args.path.now) (inside.keys.only c.args.path.now) c.in_ok-last.last c.index-place.result.now
    (omega arith) (bound at_point) c.index-place.ensures
    (ap (λ (text : List ℕ). bytes_eq text c.args.path.now) (sym c.path_at.ensures) ∙ sym c.eq.ensures ∙ c.if-eq.true))

pub returns-else-eq : goal.returns-else-eq
returns-else-eq c effect order =
    let listed = map listed_of c.args.changes.now in
    let at_point = (goal.at.returns-else-eq c).After-partition_point-behind in
    let inside = its at_point effect order in
    let some = c.in_ok-last.ensures in
    sym (found_other listed c.self.inside.places.items inside.sorted c.args.path.now c.args.count
    c.partition_point-behind.result (point at_point effect order) (has_effect_at effect listed c.args.path.now)
    (inside.keys.has c.args.path.now) (inside.keys.only c.args.path.now) c.in_ok-last.last c.index-place.result.now
    (omega arith) (bound at_point) c.index-place.ensures
    (ap (λ (text : List ℕ). bytes_eq text c.args.path.now) (sym c.path_at.ensures) ∙ sym c.eq.ensures ∙ c.if-eq.false))
