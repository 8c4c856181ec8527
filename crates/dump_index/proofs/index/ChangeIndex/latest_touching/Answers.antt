use Rattle.std.proofs.Common.{◌≡◌, ◌||◌, List, map, ap, ap₂, subst, sym, ◌∙◌}
use Rattle.dump_index.specs.steps.Listed.{Listed, listed_of}
use Rattle.dump_index.specs.declared.order.Effect.TheVariants.{Shaping, Moving, Props, Texts}
use Rattle.dump_index.specs.steps.Keys.{IsOrder, has_effect_at, latest_place}
use Rattle.dump_index.specs.steps.Touching.{later, moves_above}
use Rattle.dump_index.proofs.PlaceLemmas.{latest_or}
use Rattle.dump_index.proofs.LatestLemmas.{latest_touch}
use Rattle.dump_index.proofs.TrailLemmas.{latest_props, latest_texts}
use Rattle.dump_index.proofs.index.ChangeIndex.latest_touching.Goals as goal

pub returns : goal.returns
returns c =
    let listed = c.args.self.now in
    let path = c.args.path.now in
    let count = c.args.count in
    let order = c.self.inside.moving in
    let set = c.later-set.ensures
    ∙ ap₂ later (c.latest_setting.ensures ∙ sym (latest_props listed path count))
    (c.latest_setting-2.ensures ∙ sym (latest_texts listed path count))
    ∙ latest_or (has_effect_at Props listed path) (has_effect_at Texts listed path) count in
    let here = c.later-here.ensures ∙ ap₂ later c.latest_shaped.ensures set
    ∙ latest_or (has_effect_at Shaping listed path)
    (λ place. has_effect_at Props listed path place || has_effect_at Texts listed path place) count in
    subst (λ (all : List Listed). IsOrder Moving all order → c.latest_above.result
    ≡ latest_place (λ place. (has_effect_at Shaping listed path place
    || (has_effect_at Props listed path place || has_effect_at Texts listed path place)) || moves_above all path place) count)
    (ap (map listed_of) c.deref.ensures.value ∙ c.self.view_is) (λ moves. c.latest_above.ensures
    (λ place. has_effect_at Shaping listed path place
    || (has_effect_at Props listed path place || has_effect_at Texts listed path place)) moves here)
    (subst (λ (all : List Listed). IsOrder Moving all order) c.self.view_is c.self.invariant.moves)
    ∙ sym (latest_touch listed path count)
