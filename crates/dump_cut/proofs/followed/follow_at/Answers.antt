use Rattle.std.proofs.Common.{◌≡◌, ◌<◌, [], arith, length, map, sym, ap, subst, ◌∙◌}
use Rattle.std.specs.List.{AllZip, list_all, slice_get}
use Rattle.std.proofs.lemmas.List.{length-map}
use Rattle.dump_index.specs.steps.IndexLaws.{IsListed}
use Rattle.dump_index.specs.steps.Listed.{listed_of}
use Rattle.dump_index.specs.steps.ToldKinds.{kinds_told_by}
use Rattle.dump_index.proofs.KeyLemmas.{listed_at}
use Rattle.dump_trees.specs.steps.FollowedRests.{rests_at}
use Rattle.dump_trees.specs.Paths.{names_of}
use Rattle.dump_trees.specs.Returns.{is_covered}
use Rattle.dump_cut.specs.steps.ExcludedPaths.{paths_of}
use Rattle.dump_cut.specs.steps.FollowedPaths.{AreFollowedTo}
use Rattle.dump_cut.specs.steps.Returned.{way_meant}
use Rattle.dump_cut.specs.steps.NamedPaths.{has_named_paths}
use Rattle.dump_cut.proofs.CheckLemmas.{named_at, stands_at}
use Rattle.dump_cut.proofs.FollowedLemmas.{none_there, nothing_made}
use Rattle.dump_cut.proofs.followed.follow_at.Goals as goal

pub followed_paths-requires : goal.followed_paths-requires
followed_paths-requires c =
    let size = sym (length-map c.changes.result.now listed_of) ∙ ap length c.changes.ensures in
    let inside = c.requires.inside in
    named_at c.changes.result.now c.args.place _ (ap (list_all has_named_paths) c.changes.ensures ∙ c.requires.named)
    (omega (arith, size, inside))

pub returns-clause-placed : goal.returns-clause-placed
returns-clause-placed c =
    let its_low : c.args.place < length c.changes.result.now =
    (let size = sym (length-map c.changes.result.now listed_of) ∙ ap length c.changes.ensures in
    let inside = c.requires.inside in omega (arith, size, inside)) in
    let are = subst (λ paths. AreFollowedTo (way_meant c.args.way) c.args.index.now (paths_of c.args.excluded.now)
    c.args.place (map (λ path. names_of path.items) paths)) (sym c.deref.ensures.value)
    (c.in_ok-paths.ensures.followed c.args.place
    (ap (λ listed. slice_get listed c.args.place) (sym c.changes.ensures)
    ∙ listed_at c.changes.result.now c.args.place _ its_low)) in
    c.in_ok-add_paths.ensures.placed (way_meant c.args.way) c.args.index.now are

pub returns-clause-keeps : goal.returns-clause-keeps
returns-clause-keeps c =
    let its_low : c.args.place < length c.changes.result.now =
    (let size = sym (length-map c.changes.result.now listed_of) ∙ ap length c.changes.ensures in
    let inside = c.requires.inside in omega (arith, size, inside)) in
    let are = subst (λ paths. AreFollowedTo (way_meant c.args.way) c.args.index.now (paths_of c.args.excluded.now)
    c.args.place (map (λ path. names_of path.items) paths)) (sym c.deref.ensures.value)
    (c.in_ok-paths.ensures.followed c.args.place
    (ap (λ listed. slice_get listed c.args.place) (sym c.changes.ensures)
    ∙ listed_at c.changes.result.now c.args.place _ its_low)) in
    c.in_ok-add_paths.ensures.keeps (way_meant c.args.way) c.args.index.now are

pub returns-clause-idle : goal.returns-clause-idle
returns-clause-idle c = λ same.
    let way = way_meant c.args.way in
    let tops = paths_of c.args.excluded.now in
    let told = kinds_told_by c.args.index.now in
    let its_low : c.args.place < length c.changes.result.now =
    (let size = sym (length-map c.changes.result.now listed_of) ∙ ap length c.changes.ensures in
    let inside = c.requires.inside in omega (arith, size, inside)) in
    let is = c.in_ok-add_paths.ensures.idle same in (
      is.0,
      λ placed all.
          let its = stands_at c.changes.result.now placed
          (subst (λ listed. AllZip IsListed listed placed) (sym c.changes.ensures) all) c.args.place _ its_low in
          subst (λ paths. rests_at way paths told placed (slice_get placed c.args.place) ≡ []) (sym is.0)
          (none_there way tops told placed c.args.place its.p _ _ its.there its.listed.path its.listed.made
          (nothing_made way tops told placed _ _ (ap (list_all (is_covered tops))
          (sym (ap (map (λ path. names_of path.items)) c.deref.ensures.value ∙ c.in_ok-paths.ensures.exact placed all)) ∙ is.1))),
    )
