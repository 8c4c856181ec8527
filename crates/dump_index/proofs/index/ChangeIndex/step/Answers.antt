use Rattle.std.proofs.Common.{◌≡◌, ◌||◌, ℕ, Option, Some, None, ap, ap₂, sym, ◌∙◌}
use Rattle.dump_index.specs.steps.Settings.{Unset, latest_for, sets_at}
use Rattle.dump_index.specs.steps.Touching.{shapes, later}
use Rattle.dump_index.specs.steps.Looks.{is_place}
use Rattle.dump_index.proofs.PlaceLemmas.{latest_or, latest_first, latest_second, place_is}
use Rattle.dump_index.proofs.TrailLemmas.{ends_at}
use Rattle.dump_index.proofs.index.ChangeIndex.step.Goals as goal
use Rattle.dump_index.proofs.index.ChangeIndex.step.Goals.{After-later}

last : (c : After-later) → c.later.result ≡ latest_for c.args.part c.args.self.now c.args.path.now c.args.before
last c =
    c.later.ensures ∙ ap₂ later c.latest_shaping-shaped.ensures.place c.latest_setting-set.ensures
    ∙ latest_or (shapes c.args.self.now c.args.path.now) (sets_at c.args.part c.args.self.now c.args.path.now) c.args.before

pub returns-in_default : goal.returns-in_default
returns-in_default c =
    let p = (goal.at.returns-in_default c).After-later in
    ends_at c.args.part c.args.self.now c.args.before c.args.path.now None c.last.result c.last.ensures
    (Unset c.args.before c.args.path.now (sym (last p) ∙ none c.later.result c.in_default.not-Some))
  where
    none : (o : Option ℕ) → ((place : ℕ) → o ≡ Some place → ⊥) → o ≡ None
    none None other = Rattle.std.proofs.Common.refl
    none (Some place) other = absurd (other place Rattle.std.proofs.Common.refl)

pub step_behind-requires-clause-shaped : goal.step_behind-requires-clause-shaped
step_behind-requires-clause-shaped c =
    let p = (goal.at.step_behind-requires-clause-shaped c).After-later in
    let shape = shapes c.args.self.now c.args.path.now in
    c.is_place.ensures ∙ ap (λ (o : Option ℕ). is_place o c.in-Some.place) c.latest_shaping-shaped.ensures.place
    ∙ place_is shape c.args.before c.in-Some.place
    (latest_first shape (sets_at c.args.part c.args.self.now c.args.path.now) c.args.before c.in-Some.place
    (sym (last p) ∙ c.in-Some.is))

pub step_behind-requires-clause-set : goal.step_behind-requires-clause-set
step_behind-requires-clause-set c =
    let p = (goal.at.step_behind-requires-clause-set c).After-later in
    let set = sets_at c.args.part c.args.self.now c.args.path.now in
    c.is_place-2.ensures ∙ ap (λ (o : Option ℕ). is_place o c.in-Some.place) c.latest_setting-set.ensures
    ∙ place_is set c.args.before c.in-Some.place
    (latest_second (shapes c.args.self.now c.args.path.now) set c.args.before c.in-Some.place (sym (last p) ∙ c.in-Some.is))

pub returns : goal.returns
returns c =
    let p = (goal.at.returns c).After-later in
    c.step_behind.ensures c.args.before (sym (last p) ∙ c.in-Some.is)
