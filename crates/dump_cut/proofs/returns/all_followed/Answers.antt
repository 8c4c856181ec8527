use Rattle.std.proofs.Common.{◌≡◌, arith, length, sym, ap, ◌∙◌, subst}
use Rattle.std.proofs.lemmas.List.{length-map}
use Rattle.std.specs.List.{AllZip, list_all}
use Rattle.dump_index.specs.steps.IndexLaws.{IsListed}
use Rattle.dump_index.specs.steps.Listed.{listed_of}
use Rattle.dump_index.specs.steps.ToldKinds.{kinds_told_by}
use Rattle.dump_cut.specs.steps.ExcludedPaths.{paths_of}
use Rattle.dump_trees.specs.steps.FollowedRests.{all_rests}
use Rattle.dump_cut.specs.steps.Returned.{way_meant}
use Rattle.dump_cut.specs.steps.NamedPaths.{has_named_paths}
use Rattle.dump_cut.proofs.CheckLemmas.{named_at, same_length, stands_at}
use Rattle.dump_cut.proofs.ReturnedLemmas.{rests_next}
use Rattle.dump_cut.proofs.returns.all_followed.Goals as goal

pub push_followed-requires : goal.push_followed-requires
push_followed-requires c =
    named_at c.changes-changes.result.now c.loop-place.place _
    (ap (list_all has_named_paths) c.changes-changes.ensures ∙ c.requires) c.loop-place-test.true

pub loop-place-preserved : goal.loop-place-preserved
loop-place-preserved c = λ placed all.
    let its = stands_at c.changes-changes.result.now placed
    (subst (λ listed. AllZip IsListed listed placed) (sym c.changes-changes.ensures) all)
    c.loop-place.place _ c.loop-place-test.true in
    rests_next (way_meant c.args.way) (paths_of c.args.excluded.now) (kinds_told_by c.args.index.now) placed c.loop-place.place
    its.p _ _ _ _ its.there its.listed.path its.listed.made (c.loop-place.invariant placed all)
    (c.in_ok-push_followed.ensures placed all)

pub returns : goal.returns
returns c = λ placed all.
    let long : length placed ≡ length c.changes-changes.result.now =
    same_length c.args.index.now placed all ∙ sym (ap length c.changes-changes.ensures)
    ∙ length-map c.changes-changes.result.now listed_of in
    let end = c.loop-place.auto.place-end in
    let last : c.loop-place.place ≡ length placed = omega (arith, long, end, c.loop-place-test.false) in
    c.loop-place.invariant placed all
    ∙ ap (all_rests (way_meant c.args.way) (paths_of c.args.excluded.now) (kinds_told_by c.args.index.now) placed) last
