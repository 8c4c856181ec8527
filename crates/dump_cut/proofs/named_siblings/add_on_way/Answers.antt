use Rattle.std.proofs.Common.{◌≡◌, ◌∙◌, ◌+◌, ap, append-nil, arith, filter, length, nat_eq, not, rules, subst, sym, take, tests, true, false}
use Rattle.std.proofs.lemmas.Bool.{or_left}
use Rattle.std.proofs.lemmas.Iterator.Splits.{YieldsList-from_slice_split}
use Rattle.std.proofs.lemmas.Iterator.Consumers.{YieldsList-turn, YieldsList-end}
use Rattle.std.proofs.lemmas.List.{length_push, take_all}
use Rattle.std.specs.Slice.Iter.{split_rest, split_done, split_callee}
use Rattle.dump_trees.specs.CanonicalPaths.{canonical_path}
use Rattle.dump_trees.specs.Paths.{names_of}
use Rattle.dump_trees.specs.Returns.{is_covered}
use Rattle.dump_trees.specs.Siblings.{has_node_names, is_node_name}
use Rattle.dump_trees.specs.steps.Siblings.{is_in_cut}
use Rattle.dump_trees.proofs.paths.PathNames.{split}
use Rattle.dump_trees.proofs.paths.PrefixPaths.{split_names}
use Rattle.dump_cut.specs.steps.NamedLines.{is_left_by}
use Rattle.dump_cut.specs.steps.ExcludedPaths.{IsGrownIf, paths_of}
use Rattle.dump_cut.specs.steps.MoreSiblings.{AreMore}
use Rattle.dump_cut.proofs.NamedSiblings.{added_on_way, more_then, next_names, pushed_named_path, same_more}
use Rattle.dump_cut.proofs.NameTextLemmas.{filter_more, name_at}
use Rattle.dump_cut.proofs.named_siblings.add_on_way.Goals as goal
use Rattle.dump_cut.proofs.named_siblings.add_on_way.Goals.{In_ok-add}

pub is_node_name-requires : goal.is_node_name-requires
is_node_name-requires c =
    let same = c.into_iter-name-iterator.ensures.into_iter_gives in
    let t = YieldsList-turn (YieldsList-from_slice_split _ (λ b. nat_eq b 47) c.args.prefix.now
    (ap split_rest same ∙ c.split-name-items.ensures.rest) (ap split_done same ∙ c.split-name-items.ensures.done)
    (ap split_callee same ∙ c.split-name-items.ensures.closure) (λ x r q k. search (rules, tests)))
    c.loop-name.yielded _ c.loop-name.yielded_by _ _ c.in-Some.name c.in-Some.is c.next.ensures.steps in
    name_at (split c.args.prefix.now) (length c.loop-name.yielded) c.in-Some.name.now (split_names c.args.prefix.now) t.0 t.1

pub add-requires : goal.add-requires
add-requires c =
    ap has_node_names (ap names_of c.deref-then-not-branch.ensures.value ∙ c.in_ok-push_name.ensures)
    ∙ pushed_named_path c.args.prefix.now (length c.loop-name.yielded) (names_of c.loop-name.path.items) c.in-Some.name.now
    c.loop-name.invariant.names (sym c.is_node_name.ensures ∙ c.if-is_node_name.true)

added : (c : In_ok-add) → AreMore (paths_of c.args.included.now) (paths_of c.args.siblings.now) (paths_of c.add.new.self)
    × (is_left_by (paths_of c.args.included.now) (paths_of c.add.new.self) (canonical_path c.args.prefix.now) ≡ true)
added c =
    let same = c.into_iter-name-iterator.ensures.into_iter_gives in
    let t = YieldsList-turn (YieldsList-from_slice_split _ (λ b. nat_eq b 47) c.args.prefix.now
    (ap split_rest same ∙ c.split-name-items.ensures.rest) (ap split_done same ∙ c.split-name-items.ensures.done)
    (ap split_callee same ∙ c.split-name-items.ensures.closure) (λ x r q k. search (rules, tests)))
    c.loop-name.yielded _ c.loop-name.yielded_by _ _ c.in-Some.name c.in-Some.is c.next.ensures.steps in
    let included = paths_of c.args.included.now in
    let old = paths_of c.loop-name.siblings in
    let top = c.loop-name.path.items in
    let name = c.in-Some.name.now in
    let named = sym c.is_node_name.ensures ∙ c.if-is_node_name.true in
    let text = ap names_of c.deref-then-not-branch.ensures.value ∙ c.in_ok-push_name.ensures in
    let found = added_on_way included old (paths_of c.add.new.self) c.args.prefix.now top name (length c.loop-name.yielded + 1)
    c.in_ok-add.field-0
    (next_names c.args.prefix.now (length c.loop-name.yielded) (names_of top) name c.loop-name.invariant.names t.0 t.1 named)
    (pushed_named_path c.args.prefix.now (length c.loop-name.yielded) (names_of top) name c.loop-name.invariant.names named)
    c.loop-name.invariant.inside
    (sym (c.in_ok-is_in_cut.ensures ∙ ap (is_in_cut included) (ap names_of c.deref.ensures.value ∙ c.in_ok-push_name.ensures))
    ∙ c.if-not-branch.true)
    (c.in_ok-add.ensures.new ∙ ap (λ p. not (is_covered old p)) text)
    (subst (λ p. IsGrownIf old p (paths_of c.add.new.self) c.in_ok-add.field-0) text c.in_ok-add.ensures.grown) in (
      more_then included (paths_of c.args.siblings.now) old (paths_of c.add.new.self)
          (same_more included (paths_of c.args.siblings.now) old (ap paths_of c.loop-name.invariant.same)) found.0,
      found.1,
    )

pub returns-then-not-branch-clause-more : goal.returns-then-not-branch-clause-more
returns-then-not-branch-clause-more c = (added (goal.at.returns-then-not-branch-clause-more c).In_ok-add).0

pub returns-then-not-branch-clause-covered : goal.returns-then-not-branch-clause-covered
returns-then-not-branch-clause-covered c = (added (goal.at.returns-then-not-branch-clause-covered c).In_ok-add).1

pub loop-name-preserved-else-not-branch : goal.loop-name-preserved-else-not-branch
loop-name-preserved-else-not-branch c =
    let same = c.into_iter-name-iterator.ensures.into_iter_gives in
    let t = YieldsList-turn (YieldsList-from_slice_split _ (λ b. nat_eq b 47) c.args.prefix.now
    (ap split_rest same ∙ c.split-name-items.ensures.rest) (ap split_done same ∙ c.split-name-items.ensures.done)
    (ap split_callee same ∙ c.split-name-items.ensures.closure) (λ x r q k. search (rules, tests)))
    c.loop-name.yielded _ c.loop-name.yielded_by _ _ c.in-Some.name c.in-Some.is c.next.ensures.steps in
    record {
      names =
          c.in_ok-push_name.ensures
          ∙ (next_names c.args.prefix.now (length c.loop-name.yielded) (names_of c.loop-name.path.items) c.in-Some.name.now
          c.loop-name.invariant.names t.0 t.1 (sym c.is_node_name.ensures ∙ c.if-is_node_name.true)
          ∙ sym (ap (λ n. filter is_node_name (take n (split c.args.prefix.now))) (length_push c.loop-name.yielded c.in-Some.name)));
      inside =
          sym (c.in_ok-is_in_cut.ensures ∙ ap (λ p. is_in_cut (paths_of c.args.included.now) (names_of p)) c.deref.ensures.value)
          ∙ c.if-not-branch.false;
      same = c.loop-name.invariant.same;
    }

pub loop-name-preserved : goal.loop-name-preserved
loop-name-preserved c =
    let same = c.into_iter-name-iterator.ensures.into_iter_gives in
    let t = YieldsList-turn (YieldsList-from_slice_split _ (λ b. nat_eq b 47) c.args.prefix.now
    (ap split_rest same ∙ c.split-name-items.ensures.rest) (ap split_done same ∙ c.split-name-items.ensures.done)
    (ap split_callee same ∙ c.split-name-items.ensures.closure) (λ x r q k. search (rules, tests)))
    c.loop-name.yielded _ c.loop-name.yielded_by _ _ c.in-Some.name c.in-Some.is c.next.ensures.steps in
    record {
      names =
          c.loop-name.invariant.names
          ∙ sym (ap (λ n. filter is_node_name (take n (split c.args.prefix.now))) (length_push c.loop-name.yielded c.in-Some.name)
          ∙ filter_more is_node_name (split c.args.prefix.now) (length c.loop-name.yielded) c.in-Some.name.now false t.0 t.1
          (sym c.is_node_name.ensures ∙ c.if-is_node_name.false)
          ∙ append-nil (filter is_node_name (take (length c.loop-name.yielded) (split c.args.prefix.now))));
      inside = c.loop-name.invariant.inside;
      same = c.loop-name.invariant.same;
    }

pub returns-clause-more : goal.returns-clause-more
returns-clause-more c =
    same_more (paths_of c.args.included.now) (paths_of c.args.siblings.now) (paths_of c.loop-name.siblings)
    (ap paths_of c.loop-name.invariant.same)

pub returns-clause-covered : goal.returns-clause-covered
returns-clause-covered c =
    let same = c.into_iter-name-iterator.ensures.into_iter_gives in
    let t = YieldsList-end (YieldsList-from_slice_split _ (λ b. nat_eq b 47) c.args.prefix.now
    (ap split_rest same ∙ c.split-name-items.ensures.rest) (ap split_done same ∙ c.split-name-items.ensures.done)
    (ap split_callee same ∙ c.split-name-items.ensures.closure) (λ x r q k. search (rules, tests)))
    c.loop-name.yielded _ c.loop-name.yielded_by _ _ c.in-None.is c.next.ensures.steps in
    let whole = c.loop-name.invariant.names
    ∙ (ap (λ n. filter is_node_name (take n (split c.args.prefix.now))) t.1
    ∙ ap (filter is_node_name) (take_all (length (split c.args.prefix.now)) (split c.args.prefix.now) (omega arith))) in
    or_left (is_in_cut (paths_of c.args.included.now) (canonical_path c.args.prefix.now))
    (is_covered (paths_of c.loop-name.siblings) (canonical_path c.args.prefix.now))
    (ap (is_in_cut (paths_of c.args.included.now)) (sym whole) ∙ c.loop-name.invariant.inside)
