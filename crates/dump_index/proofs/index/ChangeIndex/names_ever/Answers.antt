use Rattle.std.proofs.Common.{◌≡◌, ◌||◌, false, ℕ, List, Bor, Some, map, ap, ap₂, sym, subst, ◌∙◌}
use Rattle.std.specs.Prelude.{slice_get}
use Rattle.std.proofs.lemmas.List.Filters.{dedup_is}
use Rattle.dump_trees.specs.Paths.{names_of}
use Rattle.dump_trees.specs.steps.Looking.{end_of}
use Rattle.dump_trees.specs.steps.Listing.{names_look, names_made}
use Rattle.dump_trees.proofs.expansions.BackLemmas.{LooksBack}
use Rattle.dump_index.specs.steps.Listed.{Listed, listed_of, all_placed}
use Rattle.dump_index.specs.steps.InOrder.{ends_in_slash}
use Rattle.dump_index.specs.steps.Children.{is_child_named}
use Rattle.dump_index.specs.steps.Names.{texts_of}
use Rattle.dump_index.specs.steps.Touching.{shapes}
use Rattle.dump_index.proofs.PlaceLemmas.{latest_low, latest_holds}
use Rattle.dump_index.proofs.OrderLemmas.{all_look_back, bare_at}
use Rattle.dump_index.proofs.OriginLemmas.{hops_back}
use Rattle.dump_index.proofs.SlashLemmas.{names_joined}
use Rattle.dump_index.proofs.LookNames.{none_next}
use Rattle.dump_index.proofs.EverLemmas.{IsFoundFrom, found_first, found_more, ever_found}
use Rattle.dump_index.proofs.index.ChangeIndex.names_ever.Goals as goal
use Rattle.dump_index.proofs.index.ChangeIndex.names_ever.Goals.{After-push_made}
use Rattle.std.proofs.Math.Bool.{or-false}

back : (c : After-push_made) → LooksBack (all_placed c.args.self.now)
back c =
    subst (λ (all : List Listed). LooksBack (all_placed all)) c.self.view_is
    (all_look_back c.self.inside.changes.items c.self.invariant.ordered)

bare : (c : After-push_made) (place : ℕ) (l : Listed) → slice_get c.args.self.now place ≡ Some l → ends_in_slash l.path ≡ false
bare c place l at =
    bare_at 0 c.self.inside.changes.items c.self.invariant.ordered place l
    (ap (λ (all : List Listed). slice_get all place) c.self.view_is ∙ at)

pub loop-place-init : goal.loop-place-init
loop-place-init c =
    let p = (goal.at.loop-place-init c).After-push_made in
    let listed = c.args.self.now in
    let path = c.args.path.now in
    subst (λ n. IsFoundFrom listed path c.push_made.new.names.items n) (sym c.len-before.ensures)
    (found_first listed (back p) (bare p) path c.push_made.new.names.items (λ name.
    c.in_ok-push_made.ensures.named name
    ∙ ap (λ (items : List (Bor (List ℕ))). is_child_named (texts_of items) name
    || is_child_named (names_made (all_placed (map listed_of c.deref.result.now)) c.len-before.result (names_of path)) name)
    c.new-names.ensures.items
    ∙ ap₂ (λ (all : List Listed) n. false || is_child_named (names_made (all_placed all) n (names_of path)) name)
    (ap (map listed_of) c.deref.ensures.value ∙ c.self.view_is) c.len-before.ensures))

pub origin-requires-clause-shaped : goal.origin-requires-clause-shaped
origin-requires-clause-shaped c place is =
    latest_holds (shapes c.args.self.now c.args.path.now) c.loop-place.before place (sym c.in-Some.ensures.place ∙ is)

pub loop-place-smaller-in_ok-push_names : goal.loop-place-smaller-in_ok-push_names
loop-place-smaller-in_ok-push_names c =
    latest_low (shapes c.args.self.now c.args.path.now) c.loop-place.before c.in-Some.place (sym c.in-Some.ensures.place)

pub loop-place-smaller : goal.loop-place-smaller
loop-place-smaller c =
    latest_low (shapes c.args.self.now c.args.path.now) c.loop-place.before c.in-Some.place (sym c.in-Some.ensures.place)

pub push_names-requires : goal.push_names-requires
push_names-requires c =
    let its = hops_back c.args.self.now (Some c.in-Some.place) c.in-Copied.source c.in-Copied.rest c.in-Copied.ensures.back in
    ap ends_in_slash (c.deref-in-Copied.ensures.value ∙ c.in_ok-from.ensures) ∙ its.3

pub loop-place-preserved-in_ok-push_names : goal.loop-place-preserved-in_ok-push_names
loop-place-preserved-in_ok-push_names c =
    let p = (goal.at.loop-place-preserved-in_ok-push_names c).After-push_made in
    let listed = c.args.self.now in
    found_more listed (back p) (bare p) c.args.path.now c.loop-place.names.items c.push_names.new.names.items
    c.loop-place.before c.in-Some.place c.loop-place.invariant (sym c.in-Some.ensures.place) (λ name.
    c.in_ok-push_names.ensures.named name
    ∙ ap (λ (names : List (List ℕ)). is_child_named (texts_of c.loop-place.names.items) name || is_child_named names name)
    (ap₂ (λ n (text : List ℕ). names_look (all_placed listed) n (names_of text)) c.end_of.ensures
    (c.deref-in-Copied.ensures.value ∙ c.in_ok-from.ensures)
    ∙ ap (names_look (all_placed listed) (end_of (all_placed listed) c.in-Copied.source.revision))
    (names_joined c.in-Copied.source.path.now c.in-Copied.rest.now)
    ∙ c.in-Copied.ensures.names))

pub loop-place-preserved : goal.loop-place-preserved
loop-place-preserved c =
    let p = (goal.at.loop-place-preserved c).After-push_made in
    let listed = c.args.self.now in
    found_more listed (back p) (bare p) c.args.path.now c.loop-place.names.items c.loop-place.names.items
    c.loop-place.before c.in-Some.place c.loop-place.invariant (sym c.in-Some.ensures.place) (λ name.
    sym (or-false (is_child_named (texts_of c.loop-place.names.items) name))
    ∙ ap (λ (names : List (List ℕ)). is_child_named (texts_of c.loop-place.names.items) name || is_child_named names name)
    (sym (none_next listed c.origin.result c.in_default-origin.not-Copied) ∙ c.origin.ensures.names))

pub returns : goal.returns
returns c =
    let p = (goal.at.returns c).After-push_made in
    ever_found c.args.self.now (back p) (bare p) c.args.path.now c.loop-place.names.items c.sort_unstable.new.self.items
    c.dedup.new.self.items c.loop-place.before c.loop-place.invariant
    (sym c.latest_shaping.ensures.place ∙ c.in_default.is) c.sort_unstable.ensures.permutation
    c.sort_unstable.ensures.sorted (dedup_is _ _ _ c.dedup.ensures.filtered)
