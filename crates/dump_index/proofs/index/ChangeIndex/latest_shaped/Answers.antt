use Rattle.std.proofs.Common.{◌≡◌, List, map, ap, subst, ◌∙◌}
use Rattle.dump_index.specs.steps.Listed.{Listed, listed_of}
use Rattle.dump_index.specs.declared.order.Effect.TheVariants.{Shaping}
use Rattle.dump_index.specs.steps.Keys.{IsOrder, has_effect_at, latest_place}
use Rattle.dump_index.proofs.index.ChangeIndex.latest_shaped.Goals as goal

pub returns : goal.returns
returns c =
    let order = c.self.inside.shaping in
    subst (λ (all : List Listed). IsOrder Shaping all order
    → c.latest_at.result ≡ latest_place (has_effect_at Shaping all c.args.path.now) c.args.count)
    (ap (map listed_of) c.deref.ensures.value ∙ c.self.view_is) (c.latest_at.ensures Shaping)
    (subst (λ (all : List Listed). IsOrder Shaping all order) c.self.view_is c.self.invariant.shapes)
