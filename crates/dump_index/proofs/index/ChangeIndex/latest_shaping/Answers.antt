use Rattle.std.proofs.Common.{◌≡◌, ◌||◌, ℕ, Option, List, map, ap, sym, subst, ◌∙◌}
use Rattle.dump_trees.specs.Paths.{names_of}
use Rattle.dump_trees.proofs.expansions.BackLemmas.{LooksBack}
use Rattle.dump_trees.specs.steps.Listing.{names_behind, names_look, names_made}
use Rattle.dump_index.specs.steps.Listed.{Listed, listed_of, all_placed}
use Rattle.dump_index.specs.steps.Children.{is_child_named}
use Rattle.dump_index.specs.declared.order.Effect.TheVariants.{Shaping, Moving, Texts}
use Rattle.dump_index.specs.steps.Keys.{IsOrder, latest_place, has_effect_at}
use Rattle.dump_index.specs.steps.Touching.{moves_above, shapes}
use Rattle.dump_index.specs.steps.Looks.{came, is_since, kind_with_text}
use Rattle.dump_index.proofs.KnownLemmas.{back_in}
use Rattle.dump_index.proofs.KindLemmas.{kinds}
use Rattle.dump_index.proofs.LookNames.{shaped_names}
use Rattle.dump_index.proofs.index.ChangeIndex.latest_shaping.Goals as goal
use Rattle.dump_index.proofs.index.ChangeIndex.latest_shaping.Goals.{After-latest_above}

inner : (c : After-latest_above) → c.latest_above.result ≡ latest_place (shapes c.args.self.now c.args.path.now) c.args.count
inner c =
    let path = c.args.path.now in
    let shaped = has_effect_at Shaping c.args.self.now path in
    let order = c.self.inside.moving in
    subst (λ (all : List Listed). IsOrder Moving all order
    → c.latest_above.result ≡ latest_place (λ place. shaped place || moves_above all path place) c.args.count)
    (ap (map listed_of) c.deref.ensures.value ∙ c.self.view_is)
    (λ moves. c.latest_above.ensures shaped moves c.latest_shaped-here.ensures)
    (subst (λ (all : List Listed). IsOrder Moving all order) c.self.view_is c.self.invariant.moves)

back : (c : After-latest_above) → LooksBack (all_placed c.args.self.now)
back c = back_in c.self.inside.changes.items c.self.invariant.ordered c.args.self.now c.self.view_is

pub returns-clause-place : goal.returns-clause-place
returns-clause-place c = inner c

pub returns-clause-looks : goal.returns-clause-looks
returns-clause-looks c =
    let listed = c.args.self.now in
    let path = c.args.path.now in
    let count = c.args.count in
    kinds listed (back c) path count
    ∙ sym (ap (λ (o : Option ℕ). kind_with_text (is_since o (latest_place (has_effect_at Texts listed path) count))
    (came listed path o)) (inner c))

pub returns-clause-names : goal.returns-clause-names
returns-clause-names c name =
    let listed = c.args.self.now in
    let path = c.args.path.now in
    let count = c.args.count in
    shaped_names listed (back c) path name count
    ∙ ap (λ (o : Option ℕ). is_child_named (names_made (all_placed listed) count (names_of path)) name
    || is_child_named (names_behind (names_look (all_placed listed)) (all_placed listed) (names_of path) o) name) (sym (inner c))
