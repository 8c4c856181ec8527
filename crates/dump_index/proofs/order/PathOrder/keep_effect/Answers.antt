use Rattle.std.proofs.Common.{map, rules, subst, sym}
use Rattle.std.proofs.lemmas.Fn.{filter_same}
use Rattle.dump_index.specs.steps.Listed.{listed_of}
use Rattle.dump_index.specs.declared.order.Effect.TheVariants.{Any}
use Rattle.dump_index.specs.steps.Keys.{IsOrder, has_effect_here}
use Rattle.dump_index.proofs.KeyLemmas.{order_chosen}
use Rattle.dump_index.proofs.order.PathOrder.keep_effect.Goals as goal

pub returns : goal.returns
returns c =
    let listed = map listed_of c.args.changes.now in
    let test = has_effect_here c.args.effect listed in
    subst (IsOrder c.args.effect listed)
    (sym (filter_same _ test _ (λ place b f k. search rules) c.self.inside.places.items c.retain.new.self.items
    c.retain.ensures.filtered))
    (order_chosen c.args.effect listed c.self.inside.places.items
    (subst (IsOrder Any listed) (sym c.self.view_is) c.requires))
