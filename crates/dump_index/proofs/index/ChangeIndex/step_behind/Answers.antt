use Rattle.std.proofs.Common.{◌≡◌, ◌<◌, ℕ, List, Some, map, length, ap, sym, subst, ◌∙◌, inl, inr}
use Rattle.std.specs.Prelude.{option_to_list}
use Rattle.std.proofs.lemmas.Bool.{or_cases}
use Rattle.dump_index.specs.steps.Listed.{Listed, listed_of}
use Rattle.dump_index.specs.steps.Settings.{latest_for, sets_at, IsTrail}
use Rattle.dump_index.specs.declared.trail.Next.TheVariants.{Before, Copied}
use Rattle.dump_index.specs.steps.Touching.{shapes}
use Rattle.dump_index.specs.steps.Trails.{TrailGoesOn}
use Rattle.dump_index.proofs.OriginLemmas.{in_range}
use Rattle.dump_index.proofs.TrailLemmas.{sets_in_range, step_whole, step_before, step_copied, step_other, ends_at}
use Rattle.dump_index.proofs.index.ChangeIndex.step_behind.Goals as goal
use Rattle.dump_index.proofs.index.ChangeIndex.step_behind.Goals.{After-own_place-own}

-- with the changes of the index
shaped_is : (c : After-own_place-own)
    → c.args.shaped ≡ shapes (map listed_of c.self.inside.changes.items) c.args.path.now c.args.place
shaped_is c =
    c.requires.shaped ∙ ap (λ (all : List Listed). shapes all c.args.path.now c.args.place) (sym c.self.view_is)

set_is : (c : After-own_place-own)
    → c.args.set ≡ sets_at c.args.part (map listed_of c.self.inside.changes.items) c.args.path.now c.args.place
set_is c =
    c.requires.set ∙ ap (λ (all : List Listed). sets_at c.args.part all c.args.path.now c.args.place) (sym c.self.view_is)

low : (c : After-own_place-own) → c.args.place < length c.self.inside.changes.items
low c =
    elim (or_cases c.args.shaped c.args.set c.requires.some) [
      | inl is ↦ in_range c.self.inside.changes.items c.args.path.now c.args.place (sym (shaped_is c) ∙ is)
      | inr is ↦ sets_in_range c.self.inside.changes.items c.args.part c.args.path.now c.args.place (sym (set_is c) ∙ is)
    ]

last_is : (c : After-own_place-own) (before : ℕ)
    → latest_for c.args.part c.args.self.now c.args.path.now before ≡ Some c.args.place
    → latest_for c.args.part (map listed_of c.self.inside.changes.items) c.args.path.now before ≡ Some c.args.place
last_is c before last =
    ap (λ (all : List Listed). latest_for c.args.part all c.args.path.now before) c.self.view_is ∙ last

pub returns-then-replaces : goal.returns-then-replaces
returns-then-replaces c before last =
    let p = (goal.at.returns-then-replaces c).After-own_place-own in
    ends_at c.args.part c.args.self.now before c.args.path.now c.own_place-own.result c.last.result c.last.ensures
    (subst (λ (all : List Listed). IsTrail c.args.part all before c.args.path.now (option_to_list c.own_place-own.result))
    c.self.view_is
    (step_whole c.self.inside.changes.items c.self.invariant.ordered c.args.path.now c.requires.bare c.args.part c.args.place
    c.index-change.result.now c.index-change.ensures (low p) before (last_is p before last)
    (option_to_list c.own_place-own.result) c.args.set c.own_place-own.ensures (set_is p) c.if-set.true
    (sym c.replaces.ensures ∙ c.if-replaces.true)))

pub returns-then-not-shaped : goal.returns-then-not-shaped
returns-then-not-shaped c before last =
    let p = (goal.at.returns-then-not-shaped c).After-own_place-own in
    subst (λ (all : List Listed). TrailGoesOn c.args.part all before c.args.path.now (option_to_list c.own_place-own.result)
    (Before c.args.place)) c.self.view_is
    (step_before c.self.inside.changes.items c.self.invariant.ordered c.args.path.now c.requires.bare c.args.part c.args.place
    c.index-change.result.now c.index-change.ensures (low p) before (last_is p before last)
    (option_to_list c.own_place-own.result) c.args.set c.args.shaped c.own_place-own.ensures (set_is p) (shaped_is p)
    c.requires.some c.if-not-shaped.true)

pub returns-in-Copied : goal.returns-in-Copied
returns-in-Copied c before last =
    let p = (goal.at.returns-in-Copied c).After-own_place-own in
    subst (λ (all : List Listed). TrailGoesOn c.args.part all before c.args.path.now (option_to_list c.own_place-own.result)
    (Copied c.in-Copied.source c.in-Copied.rest)) c.self.view_is
    (step_copied c.self.inside.changes.items c.self.invariant.ordered c.args.path.now c.requires.bare c.args.part c.args.place
    c.index-change.result.now c.index-change.ensures (low p) before (last_is p before last)
    (option_to_list c.own_place-own.result) c.args.set c.args.shaped c.own_place-own.ensures (set_is p) (shaped_is p)
    c.if-not-shaped.false c.in-Copied.source c.in-Copied.rest c.in-Copied.ensures)

pub returns : goal.returns
returns c before last =
    let p = (goal.at.returns c).After-own_place-own in
    ends_at c.args.part c.args.self.now before c.args.path.now c.own_place-own.result c.last-2.result c.last-2.ensures
    (subst (λ (all : List Listed). IsTrail c.args.part all before c.args.path.now (option_to_list c.own_place-own.result))
    c.self.view_is
    (step_other c.self.inside.changes.items c.self.invariant.ordered c.args.path.now c.requires.bare c.args.part c.args.place
    c.index-change.result.now c.index-change.ensures (low p) before (last_is p before last)
    (option_to_list c.own_place-own.result) c.args.set c.args.shaped c.own_place-own.ensures (set_is p) (shaped_is p)
    c.if-not-shaped.false c.made_origin.result c.made_origin.ensures c.in_default.not-Copied))
