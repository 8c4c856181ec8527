use Rattle.std.proofs.Common.{map, subst, sym, ◌∙◌, ap}
use Rattle.std.specs.List.{filter}
use Rattle.dump_index.specs.steps.Listed.{listed_of}
use Rattle.dump_index.specs.declared.order.Effect.TheVariants.{Any}
use Rattle.dump_index.specs.steps.Keys.{IsOrder, has_effect_here}
use Rattle.dump_index.proofs.KeyLemmas.{order_chosen}
use Rattle.dump_index.proofs.order.PathOrder.with_effect.Goals as goal

pub returns : goal.returns
returns c =
    let listed = map listed_of c.args.changes.now in
    let test = has_effect_here c.args.effect listed in
    subst (IsOrder c.args.effect listed)
    (sym (c.in_ok-places.ensures ∙ ap (filter test) c.deref.ensures.value))
    (order_chosen c.args.effect listed c.self.inside.places.items
    (subst (IsOrder Any listed) (sym c.self.view_is) c.requires))
