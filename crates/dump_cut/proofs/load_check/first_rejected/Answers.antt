use Rattle.std.proofs.Common.{◌≡◌, length, sym, ap, refl, ◌∙◌, subst, arith, below_more}
use Rattle.std.proofs.lemmas.List.{length-map}
use Rattle.std.specs.List.{AllZip, list_all}
use Rattle.dump_index.specs.steps.IndexLaws.{IsListed}
use Rattle.dump_index.specs.steps.Listed.{listed_of}
use Rattle.dump_index.specs.steps.ToldKinds.{kinds_told_by}
use Rattle.dump_cut.specs.steps.NamedPaths.{has_named_paths}
use Rattle.dump_cut.proofs.CheckLemmas.{named_at, reason_is, same_length, stands_at}
use Rattle.dump_cut.proofs.SeenLemmas.{are_for, known_length, known_next, same_listed, both_next, told_before}
use Rattle.dump_cut.proofs.load_check.first_rejected.Goals as goal

pub kinds_before-requires-clause-named : goal.kinds_before-requires-clause-named
kinds_before-requires-clause-named c =
    named_at c.changes-changes.result.now c.loop-place.place _
    (ap (list_all has_named_paths) c.changes-changes.ensures ∙ c.requires) c.loop-place-test.true

pub returns-in-Some : goal.returns-in-Some
returns-in-Some c placed all =
    let its = stands_at c.changes-changes.result.now placed
    (subst (λ listed. AllZip IsListed listed placed) (sym c.changes-changes.ensures) all)
    c.loop-place.place _ c.loop-place-test.true in
    let many = ap length c.deref.ensures.value ∙ c.loop-place.invariant.many in
    record {
      before = c.loop-place.invariant.taken placed all;
      there = reason_is (kinds_told_by c.args.index.now) placed c.loop-place.place its.p c.in_ok-kinds.kinds c.rejection_of.result
          its.there (told_before c.args.index.now placed all c.loop-place.place _ its.p c.in_ok-kinds.kinds its.listed
          (are_for c.args.index.now _ _ _ _ c.in_ok-kinds.kinds c.in_ok-kinds.ensures many refl)) (c.rejection_of.ensures its.p its.listed)
          ∙ c.in-Some.is;
    }

pub kind_behind-requires-clause-here : goal.kind_behind-requires-clause-here
kind_behind-requires-clause-here c l at =
    let same = same_listed c.changes-changes.result.now c.args.index.now c.changes-changes.ensures c.loop-place.place _ c.loop-place-test.true in
    let many = ap length c.deref.ensures.value ∙ c.loop-place.invariant.many in
    (are_for c.args.index.now _ _ _ _ c.in_ok-kinds.kinds c.in_ok-kinds.ensures many (same.1 l at)).here

pub kind_behind-requires-clause-source : goal.kind_behind-requires-clause-source
kind_behind-requires-clause-source c l at =
    let same = same_listed c.changes-changes.result.now c.args.index.now c.changes-changes.ensures c.loop-place.place _ c.loop-place-test.true in
    let many = ap length c.deref.ensures.value ∙ c.loop-place.invariant.many in
    (are_for c.args.index.now _ _ _ _ c.in_ok-kinds.kinds c.in_ok-kinds.ensures many (same.1 l at)).source

pub loop-place-preserved : goal.loop-place-preserved
loop-place-preserved c =
    let same = same_listed c.changes-changes.result.now c.args.index.now c.changes-changes.ensures c.loop-place.place _ c.loop-place-test.true in
    let many = ap length c.deref.ensures.value ∙ c.loop-place.invariant.many in
    let are = are_for c.args.index.now _ _ _ _ c.in_ok-kinds.kinds c.in_ok-kinds.ensures many refl in
    record {
      taken = λ placed all.
          let its = stands_at c.changes-changes.result.now placed
          (subst (λ listed. AllZip IsListed listed placed) (sym c.changes-changes.ensures) all)
          c.loop-place.place _ c.loop-place-test.true in
          below_more _ _ (c.loop-place.invariant.taken placed all)
          (reason_is (kinds_told_by c.args.index.now) placed c.loop-place.place its.p c.in_ok-kinds.kinds c.rejection_of.result
          its.there (told_before c.args.index.now placed all c.loop-place.place _ its.p c.in_ok-kinds.kinds its.listed are)
          (c.rejection_of.ensures its.p its.listed)
          ∙ c.in_default.is);
      known = known_next c.args.index.now c.loop-place.known.items _ c.loop-place.place c.kind_behind.result
          c.loop-place.invariant.known c.loop-place.invariant.many c.in_ok-push.ensures.items c.kind_behind.ensures.own;
      many = known_length c.loop-place.known.items _ c.loop-place.place c.kind_behind.result c.loop-place.invariant.many
          c.in_ok-push.ensures.items;
      seen = both_next c.args.index.now c.loop-place.place _ (omega arith) _ c.in_ok-kinds.kinds c.seen_behind-seen.result
          (named_at c.changes-changes.result.now c.loop-place.place _
          (ap (list_all has_named_paths) c.changes-changes.ensures ∙ c.requires) c.loop-place-test.true) are
          (λ path less. c.kind_behind.ensures.shorter _ path same.0 less) c.seen_behind-seen.ensures.last
          (c.seen_behind-seen.ensures.same c.args.index.now c.loop-place.place c.loop-place.invariant.seen)
          c.seen_behind-seen.ensures.shorter;
    }

pub returns : goal.returns
returns c placed all place low =
    let long : length placed ≡ length c.changes-changes.result.now =
    same_length c.args.index.now placed all ∙ sym (ap length c.changes-changes.ensures)
    ∙ length-map c.changes-changes.result.now listed_of in
    c.loop-place.invariant.taken placed all place (omega (arith, long, low, c.loop-place-test.false))
