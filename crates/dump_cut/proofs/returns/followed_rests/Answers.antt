use Rattle.std.proofs.Common.{◌≡◌, ◌++◌, ◌&&◌, take, filter, is_some, map, not, sym, ap, ap₂, ◌∙◌}
use Rattle.std.proofs.lemmas.List.{take_all}
use Rattle.dump_trees.specs.Following.{from_of}
use Rattle.dump_trees.specs.Paths.{names_of}
use Rattle.dump_trees.specs.Returns.{is_covered}
use Rattle.dump_trees.specs.steps.Returns.{rests_covered}
use Rattle.dump_index.specs.steps.ToldKinds.{kinds_told_by}
use Rattle.dump_index.proofs.LawLemmas.{end_same}
use Rattle.dump_cut.specs.steps.ExcludedPaths.{paths_of}
use Rattle.dump_cut.specs.steps.Returned.{way_meant}
use Rattle.std.specs.List.{list_all}
use Rattle.dump_index.specs.steps.InOrder.{ends_in_slash}
use Rattle.dump_trees.specs.Siblings.{has_node_names}
use Rattle.dump_cut.proofs.FollowedLemmas.{filtered_named, named_shown}
use Rattle.dump_cut.proofs.ParentLemmas.{ends_named}
use Rattle.dump_cut.proofs.ReturnedLemmas.{bare_at}
use Rattle.dump_cut.proofs.returns.followed_rests.Goals as goal

pub is_new_there-requires-clause-source : goal.is_new_there-requires-clause-source
is_new_there-requires-clause-source c = ends_named c.args.source.path.now c.requires

pub is_new_there-requires-clause-rest : goal.is_new_there-requires-clause-rest
is_new_there-requires-clause-rest c =
    bare_at c.deref-rest-items.result.now c.loop-rest.rest-index _
    (ap (list_all (λ rest. not (ends_in_slash rest.now))) c.deref-rest-items.ensures.value ∙ c.in_ok-covered.ensures.bare)
    c.loop-rest-test.true

pub returns-clause-followed : goal.returns-clause-followed
returns-clause-followed c = λ placed all.
    let tops = paths_of c.args.excluded.now in
    let source = names_of c.args.source.path.now in
    let test = λ (count : Rattle.std.proofs.Common.ℕ) (to rest : Rattle.dump_trees.specs.Paths.NodePath).
    is_some (kinds_told_by c.args.index.now count (source ++ rest)) && not (is_covered tops (to ++ rest)) in
    c.loop-rest.invariant
    ∙ (ap (λ rests. filter (test c.end_of-count.result (names_of c.to-to.result.now)) (map (λ rest. names_of rest.now) rests))
    (take_all c.loop-rest.rest-index c.deref-rest-items.result.now c.loop-rest-test.false ∙ c.deref-rest-items.ensures.value)
    ∙ (ap (filter (test c.end_of-count.result (names_of c.to-to.result.now)))
    (c.in_ok-covered.ensures.rests ∙ ap (λ from. rests_covered from tops) c.from.ensures)
    ∙ ap₂ (λ count to. filter (test count to) (rests_covered (from_of (way_meant c.args.way) (names_of c.args.path.now) source) tops))
    (c.end_of-count.ensures ∙ sym (end_same c.args.index.now placed all c.args.source.revision)) c.to-to.ensures))

pub returns-clause-named : goal.returns-clause-named
returns-clause-named c =
    named_shown (λ rest. names_of rest.now) c.loop-rest.rests.items
    ∙ filtered_named _ (map (λ rest. names_of rest.now) c.loop-rest.rests.items)
    (map (λ rest. names_of rest.now) (take c.loop-rest.rest-index c.deref-rest-items.result.now)) c.loop-rest.invariant
    (ap (λ rests. list_all has_node_names (map (λ rest. names_of rest.now) rests))
    (take_all c.loop-rest.rest-index c.deref-rest-items.result.now c.loop-rest-test.false ∙ c.deref-rest-items.ensures.value)
    ∙ (sym (named_shown (λ rest. names_of rest.now) c.in_ok-covered.covered.items) ∙ c.in_ok-covered.ensures.named))
