use Rattle.std.proofs.Common.{[], ◌≡◌, ◌∙◌, ◌∷◌, List, ap, inl, inr, length, map, refl, subst, sym, true}
use Rattle.std.proofs.lemmas.Iterator.Consumers.{YieldsList-end, YieldsList-from_rest, YieldsList-turn}
use Rattle.std.proofs.lemmas.List.Elements.{Contains-push_cases}
use Rattle.std.specs.Prelude.{Contains}
use Rattle.dump_trees.specs.CanonicalPaths.{canonical_path}
use Rattle.dump_trees.specs.Paths.{NodePath, names_of}
use Rattle.dump_trees.specs.Siblings.{has_node_names}
use Rattle.dump_trees.proofs.cuts.CoveredPaths.{all_has, contains_none}
use Rattle.dump_cut.specs.steps.NamedLines.{is_left_by}
use Rattle.dump_cut.specs.steps.ExcludedPaths.{paths_of}
use Rattle.dump_cut.proofs.FollowedLemmas.{contains_at}
use Rattle.dump_cut.proofs.MergePathLemmas.{named_canonical}
use Rattle.dump_cut.proofs.NamedSiblings.{left_more, mergeinfo_covered, more_then, same_more}
use Rattle.dump_cut.proofs.RangeLemmas.{shown_twice}
use Rattle.dump_cut.proofs.named_siblings.add_named_siblings.Goals as goal
use Rattle.std.proofs.lemmas.List.{map-append}

pub loop-path-init : goal.loop-path-init
loop-path-init c = record {
  more = same_more (paths_of c.args.included.now) (paths_of c.args.siblings.now) (paths_of c.args.siblings.now) refl;
  covered = λ path there. absurd (contains_none path there);
}

pub loop-path-preserved : goal.loop-path-preserved
loop-path-preserved c =
    let keys = c.in_ok-paths.paths.keys in
    let t = YieldsList-turn (YieldsList-from_rest keys c.into_iter-path-iterator.ensures.into_iter_gives.0)
    c.loop-path.yielded _ c.loop-path.yielded_by _ _ c.in-Some.path c.in-Some.is c.next.ensures.steps in
    let included = paths_of c.args.included.now in
    let old = paths_of c.loop-path.siblings in
    let new = paths_of c.add_on_way.new.siblings in
    let named : has_node_names (names_of c.in-Some.path.now.items) ≡ true =
    all_has has_node_names (map (λ key. names_of key.items) keys) (names_of c.in-Some.path.now.items) c.in_ok-paths.ensures.named
    (subst (λ key. Contains (map (λ key. names_of key.items) keys) (names_of key.items)) (sym t.1)
    (contains_at (λ key. names_of key.items) keys (length c.loop-path.yielded) c.in-Some.path.now t.0)) in
    let own : is_left_by included new (names_of c.in-Some.path.now.items) ≡ true =
    ap (is_left_by included new) (sym (ap canonical_path c.deref.ensures.value ∙ named_canonical c.in-Some.path.now.items named))
    ∙ c.in_ok-add_on_way.ensures.covered in
    record {
      more = more_then included (paths_of c.args.siblings.now) old new c.loop-path.invariant.more c.in_ok-add_on_way.ensures.more;
      covered = λ path there.
          elim (Contains-push_cases (map (λ path. names_of path.now.items) c.loop-path.yielded) (names_of c.in-Some.path.now.items) path
          (subst (λ (ps : List NodePath). Contains ps path)
          (map-append (λ path. names_of path.now.items) c.loop-path.yielded (c.in-Some.path ∷ [])) there)) [
            | inl early ↦ left_more included old new c.in_ok-add_on_way.ensures.more path (c.loop-path.invariant.covered path early)
            | inr same ↦ subst (λ (p : NodePath). is_left_by included new p ≡ true) same own
          ];
    }

pub returns-clause-more : goal.returns-clause-more
returns-clause-more c = c.loop-path.invariant.more

pub returns-clause-covered : goal.returns-clause-covered
returns-clause-covered c =
    let keys = c.in_ok-paths.paths.keys in
    let all = YieldsList-end (YieldsList-from_rest keys c.into_iter-path-iterator.ensures.into_iter_gives.0)
    c.loop-path.yielded _ c.loop-path.yielded_by _ _ c.in-None.is c.next.ensures.steps in
    mergeinfo_covered (paths_of c.args.included.now) (paths_of c.loop-path.siblings) c.args.dump.now
    (map (λ key. names_of key.items) keys) c.in_ok-paths.ensures.paths (λ path there.
    c.loop-path.invariant.covered path
    (subst (λ (ps : List NodePath). Contains ps path)
    (sym (shown_twice (λ key. names_of key.items) (λ path. path.now) c.loop-path.yielded ∙ ap (map (λ key. names_of key.items)) all.0)) there))
