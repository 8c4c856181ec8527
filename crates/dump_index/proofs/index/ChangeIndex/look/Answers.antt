use Rattle.std.proofs.Common.{◌≡◌, ◌∙◌, ℕ, List, Option, ap, map, sym, subst, arith}
use Rattle.dump_trees.specs.steps.Looking.{end_of}
use Rattle.dump_index.specs.steps.Listed.{Listed, listed_of, all_placed}
use Rattle.dump_index.specs.steps.Kinds.{kind_look}
use Rattle.dump_index.specs.declared.order.Effect.TheVariants.{Texts}
use Rattle.dump_index.specs.steps.Keys.{IsOrder, has_effect_at, latest_place}
use Rattle.dump_index.specs.steps.Touching.{shapes}
use Rattle.dump_index.specs.steps.Looks.{came, is_since, kind_with_text}
use Rattle.dump_index.proofs.KnownLemmas.{back_in, looks_known}
use Rattle.dump_index.proofs.OriginLemmas.{hops_back}
use Rattle.dump_index.proofs.PlaceLemmas.{latest_low, latest_holds}
use Rattle.dump_index.proofs.SlashLemmas.{names_joined}
use Rattle.dump_index.proofs.index.ChangeIndex.look.Goals as goal
use Rattle.dump_index.proofs.index.ChangeIndex.look.Goals.{After-latest_at-set-in-Copied}

pub origin-requires-clause-shaped : goal.origin-requires-clause-shaped
origin-requires-clause-shaped c place is =
    latest_holds (shapes c.args.self.now c.args.path.now) c.args.before place (sym c.latest_shaping-shaped.ensures.place ∙ is)

text_set : (c : After-latest_at-set-in-Copied) → c.latest_at-set-in-Copied.result
    ≡ latest_place (has_effect_at Texts c.args.self.now c.args.path.now) c.args.before
text_set c =
    let order = c.self.inside.texts in
    subst (λ (all : List Listed). IsOrder Texts all order
    → c.latest_at-set-in-Copied.result ≡ latest_place (has_effect_at Texts all c.args.path.now) c.args.before)
    (ap (map listed_of) c.deref-in-Copied.ensures.value ∙ c.self.view_is) (c.latest_at-set-in-Copied.ensures Texts)
    (subst (λ (all : List Listed). IsOrder Texts all order) c.self.view_is c.self.invariant.sets_texts)

pub returns-in-Some : goal.returns-in-Some
returns-in-Some c =
    let listed = c.args.self.now in
    looks_known listed (back_in c.self.inside.changes.items c.self.invariant.ordered listed c.self.view_is)
    c.args.path.now c.args.before c.latest_shaping-shaped.result c.latest_at-set-in-Copied.result c.later.result c.in-Some.kind
    c.latest_shaping-shaped.ensures.place
    (text_set (goal.at.returns-in-Some c).After-latest_at-set-in-Copied)
    c.later.ensures c.in-Some.ensures

pub returns-in-None : goal.returns-in-None
returns-in-None c =
    let listed = c.args.self.now in
    let path = c.args.path.now in
    let shaped = c.latest_shaping-shaped.result in
    let source = c.in-Copied.source in
    let rest = c.in-Copied.rest in
    let back = hops_back listed shaped source rest c.in-Copied.ensures.back in
    let low = latest_low (shapes listed path) c.args.before back.0 (sym c.latest_shaping-shaped.ensures.place ∙ back.1) in
    let end = back.2 in
    let set = text_set (goal.at.returns-in-None c).After-latest_at-set-in-Copied in (
      c.latest_shaping-shaped.ensures.looks
          ∙ ap (λ (o : Option ℕ). kind_with_text (is_since shaped o) (came listed path shaped)) (sym set)
          ∙ ap (λ b. kind_with_text b (came listed path shaped)) (sym c.is_since-in-None.ensures)
          ∙ ap (kind_with_text c.is_since-in-None.result) (sym c.in-Copied.ensures.kind
          ∙ ap (kind_look listed (end_of (all_placed listed) source.revision)) (sym (names_joined source.path.now rest.now))),
      omega arith,
      back.3,
    )
