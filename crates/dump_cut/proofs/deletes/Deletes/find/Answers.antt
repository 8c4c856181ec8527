use Rattle.std.proofs.Common.{◌≡◌, true, arith, length, map, sym, ap, ◌∙◌, subst}
use Rattle.std.proofs.lemmas.List.{length-map}
use Rattle.std.specs.List.{AllZip, list_all}
use Rattle.dump_history.specs.WrittenNodes.{is_plain_path}
use Rattle.dump_index.specs.steps.IndexLaws.{IsListed}
use Rattle.dump_index.specs.steps.Listed.{listed_of}
use Rattle.dump_index.specs.steps.ToldKinds.{kinds_told_by}
use Rattle.dump_trees.specs.Returns.{is_covered}
use Rattle.dump_cut.specs.steps.NamedPaths.{has_named_paths}
use Rattle.dump_cut.specs.steps.ExcludedPaths.{paths_of}
use Rattle.dump_cut.proofs.CheckLemmas.{named_at, same_length, stands_at}
use Rattle.dump_cut.proofs.FoundDeletes.{all_deletes, lost_told, none_there, one_shown, plain_more, some_there}
use Rattle.dump_cut.proofs.deletes.Deletes.find.Goals as goal

pub lost_paths-requires : goal.lost_paths-requires
lost_paths-requires c =
    named_at c.changes-changes.result.now c.loop-place.place _
    (ap (list_all has_named_paths) c.changes-changes.ensures ∙ c.requires) c.loop-place-test.true

pub loop-place-preserved-then-covers : goal.loop-place-preserved-then-covers
loop-place-preserved-then-covers c = record {
  plain = c.loop-place.invariant.plain;
  deletes = λ placed all.
      let its = stands_at c.changes-changes.result.now placed
      (subst (λ listed. AllZip IsListed listed placed) (sym c.changes-changes.ensures) all)
      c.loop-place.place _ c.loop-place-test.true in
      none_there (paths_of c.args.excluded.now) (kinds_told_by c.args.index.now) placed c.loop-place.place its.p its.there
      c.loop-place.behind.items (c.loop-place.invariant.deletes placed all)
      (ap (is_covered (paths_of c.args.excluded.now)) its.listed.path ∙ (sym c.covers.ensures ∙ c.if-covers.true));
}

pub returns-then-not-are_plain_paths : goal.returns-then-not-are_plain_paths
returns-then-not-are_plain_paths c = λ placed all.
    let its = stands_at c.changes-changes.result.now placed
    (subst (λ listed. AllZip IsListed listed placed) (sym c.changes-changes.ensures) all)
    c.loop-place.place _ c.loop-place-test.true in
    record {
      at = its.p;
      there = its.there;
      kept = ap (is_covered (paths_of c.args.excluded.now)) its.listed.path ∙ (sym c.covers.ensures ∙ c.if-covers.false);
      texts = map (λ path. path.items) c.in_ok-paths.paths.items;
      paths = lost_told (paths_of c.args.excluded.now) (kinds_told_by c.args.index.now) placed its.p _ _
          c.in_ok-paths.paths.items its.listed.path its.listed.made c.in_ok-paths.ensures.named
          (c.in_ok-paths.ensures.lost placed all);
      odd = sym (one_shown c.in_ok-paths.paths.items)
          ∙ (sym (ap (list_all (λ path. is_plain_path path.items)) c.deref.ensures.value)
          ∙ (sym c.are_plain_paths.ensures ∙ c.if-not-are_plain_paths.true));
    }

pub loop-place-preserved : goal.loop-place-preserved
loop-place-preserved c =
    let plain : list_all is_plain_path (map (λ path. path.items) c.in_ok-paths.paths.items) ≡ true =
    sym (one_shown c.in_ok-paths.paths.items)
    ∙ (sym (ap (list_all (λ path. is_plain_path path.items)) c.deref.ensures.value)
    ∙ (sym c.are_plain_paths.ensures ∙ c.if-not-are_plain_paths.false)) in
    record {
      plain = plain_more c.loop-place.behind.items c.push.new.self.items c.in_ok-paths.paths c.in_ok-push.ensures.items
          c.loop-place.invariant.plain plain;
      deletes = λ placed all.
          let its = stands_at c.changes-changes.result.now placed
          (subst (λ listed. AllZip IsListed listed placed) (sym c.changes-changes.ensures) all)
          c.loop-place.place _ c.loop-place-test.true in
          some_there (paths_of c.args.excluded.now) (kinds_told_by c.args.index.now) placed c.loop-place.place its.p its.there
          c.loop-place.behind.items (c.loop-place.invariant.deletes placed all)
          (ap (is_covered (paths_of c.args.excluded.now)) its.listed.path ∙ (sym c.covers.ensures ∙ c.if-covers.false))
          c.in_ok-paths.paths c.push.new.self.items c.in_ok-push.ensures.items
          (lost_told (paths_of c.args.excluded.now) (kinds_told_by c.args.index.now) placed its.p _ _
          c.in_ok-paths.paths.items its.listed.path its.listed.made c.in_ok-paths.ensures.named
          (c.in_ok-paths.ensures.lost placed all))
          plain;
    }

pub returns : goal.returns
returns c = λ placed all.
    let long : length placed ≡ length c.changes-changes.result.now =
    same_length c.args.index.now placed all ∙ sym (ap length c.changes-changes.ensures)
    ∙ length-map c.changes-changes.result.now listed_of in
    let end = c.loop-place.auto.place-end in
    let last : length placed ≡ c.loop-place.place = omega (arith, long, end, c.loop-place-test.false) in
    all_deletes (paths_of c.args.excluded.now) (kinds_told_by c.args.index.now) placed c.loop-place.place
    c.loop-place.behind.items last (c.loop-place.invariant.deletes placed all)
