use Rattle.std.proofs.Common.{◌≡◌, ℕ, Bool, ◌||◌, map}
use Rattle.dump_index.specs.steps.Listed.{listed_of}
use Rattle.dump_index.specs.declared.order.Effect.TheVariants.{Moving}
use Rattle.dump_index.specs.steps.Keys.{IsOrder, latest_place}
use Rattle.dump_index.specs.steps.Touching.{moves_within}
use Rattle.dump_index.proofs.order.PathOrder.latest_above.Given as goal

abbrev pub invariant-loop-place : goal.invariant-loop-place
invariant-loop-place l = (test : ℕ → Bool) → IsOrder Moving (map listed_of l.changes) l.self
    → l.fn.here ≡ latest_place test l.count
    → l.last ≡ latest_place (λ place. test place || moves_within l.place (map listed_of l.changes) l.path place) l.count
