use Rattle.std.proofs.Common.{◌≡◌, List, map, ap, subst, sym, ◌∙◌}
use Rattle.dump_index.specs.steps.Listed.{Listed, listed_of}
use Rattle.dump_index.specs.steps.Settings.{sets_at}
use Rattle.dump_index.specs.declared.trail.Part.{Part}
use Rattle.dump_index.specs.declared.order.Effect.TheVariants.{Props, Texts}
use Rattle.dump_index.specs.steps.Keys.{IsOrder, has_effect_at, latest_place}
use Rattle.dump_index.proofs.TrailLemmas.{latest_props, latest_texts}
use Rattle.dump_index.proofs.index.ChangeIndex.latest_setting.Goals as goal

pub returns-in-Props : goal.returns-in-Props
returns-in-Props c =
    let order = c.self.inside.props in
    subst (λ (all : List Listed). IsOrder Props all order
    → c.latest_at.result ≡ latest_place (has_effect_at Props all c.args.path.now) c.args.count)
    (ap (map listed_of) c.deref.ensures.value ∙ c.self.view_is) (c.latest_at.ensures Props)
    (subst (λ (all : List Listed). IsOrder Props all order) c.self.view_is c.self.invariant.sets_props)
    ∙ latest_props c.args.self.now c.args.path.now c.args.count
    ∙ ap (λ (part : Part). latest_place (sets_at part c.args.self.now c.args.path.now) c.args.count) (sym c.in-Props.is)

pub returns-in-Text : goal.returns-in-Text
returns-in-Text c =
    let order = c.self.inside.texts in
    subst (λ (all : List Listed). IsOrder Texts all order
    → c.latest_at-in-Text.result ≡ latest_place (has_effect_at Texts all c.args.path.now) c.args.count)
    (ap (map listed_of) c.deref-in-Text.ensures.value ∙ c.self.view_is) (c.latest_at-in-Text.ensures Texts)
    (subst (λ (all : List Listed). IsOrder Texts all order) c.self.view_is c.self.invariant.sets_texts)
    ∙ latest_texts c.args.self.now c.args.path.now c.args.count
    ∙ ap (λ (part : Part). latest_place (sets_at part c.args.self.now c.args.path.now) c.args.count) (sym c.in-Text.is)
