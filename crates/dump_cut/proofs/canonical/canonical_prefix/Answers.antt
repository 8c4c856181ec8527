use Rattle.std.proofs.Common.{true, false, arith, [], ◌∷◌, ◌++◌, length, take, filter, nat_eq, rules, tests, append-nil, sym, ap, ◌∙◌}
use Rattle.std.proofs.lemmas.Iterator.Splits.{YieldsList-from_slice_split}
use Rattle.std.proofs.lemmas.Iterator.Consumers.{YieldsList-turn, YieldsList-end}
use Rattle.std.proofs.lemmas.List.{length_push, take_all}
use Rattle.std.specs.Slice.Iter.{split_rest, split_done, split_callee}
use Rattle.dump_trees.specs.Siblings.{is_node_name}
use Rattle.dump_trees.proofs.paths.PathNames.{split}
use Rattle.dump_trees.proofs.paths.PrefixPaths.{split_names}
use Rattle.dump_cut.proofs.NameTextLemmas.{filter_more, name_at}
use Rattle.dump_cut.proofs.canonical.canonical_prefix.Goals as goal

pub is_node_name-requires : goal.is_node_name-requires
is_node_name-requires c =
    let same = c.into_iter-name-iterator.ensures.into_iter_gives in
    let t = YieldsList-turn (YieldsList-from_slice_split _ (λ b. nat_eq b 47) c.args.prefix.now
    (ap split_rest same ∙ c.split-name-items.ensures.rest) (ap split_done same ∙ c.split-name-items.ensures.done)
    (ap split_callee same ∙ c.split-name-items.ensures.closure) (λ x r q k. search (rules, tests)))
    c.loop-name.yielded _ c.loop-name.yielded_by _ _ c.in-Some.name c.in-Some.is c.next.ensures.steps in
    name_at (split c.args.prefix.now) (length c.loop-name.yielded) c.in-Some.name.now (split_names c.args.prefix.now) t.0 t.1

pub loop-name-preserved-in-Continue-1 : goal.loop-name-preserved-in-Continue-1
loop-name-preserved-in-Continue-1 c =
    let same = c.into_iter-name-iterator.ensures.into_iter_gives in
    let t = YieldsList-turn (YieldsList-from_slice_split _ (λ b. nat_eq b 47) c.args.prefix.now
    (ap split_rest same ∙ c.split-name-items.ensures.rest) (ap split_done same ∙ c.split-name-items.ensures.done)
    (ap split_callee same ∙ c.split-name-items.ensures.closure) (λ x r q k. search (rules, tests)))
    c.loop-name.yielded _ c.loop-name.yielded_by _ _ c.in-Some.name c.in-Some.is c.next.ensures.steps in
    c.in_ok-push_name.ensures
    ∙ ap (λ names. names ++ c.in-Some.name.now ∷ []) c.loop-name.invariant
    ∙ sym (ap (λ n. filter is_node_name (take n (split c.args.prefix.now))) (length_push c.loop-name.yielded c.in-Some.name)
    ∙ filter_more is_node_name (split c.args.prefix.now) (length c.loop-name.yielded) c.in-Some.name.now true t.0 t.1
    (sym c.is_node_name.ensures ∙ c.if-is_node_name.true))

pub loop-name-preserved : goal.loop-name-preserved
loop-name-preserved c =
    let same = c.into_iter-name-iterator.ensures.into_iter_gives in
    let t = YieldsList-turn (YieldsList-from_slice_split _ (λ b. nat_eq b 47) c.args.prefix.now
    (ap split_rest same ∙ c.split-name-items.ensures.rest) (ap split_done same ∙ c.split-name-items.ensures.done)
    (ap split_callee same ∙ c.split-name-items.ensures.closure) (λ x r q k. search (rules, tests)))
    c.loop-name.yielded _ c.loop-name.yielded_by _ _ c.in-Some.name c.in-Some.is c.next.ensures.steps in
    c.loop-name.invariant
    ∙ sym (ap (λ n. filter is_node_name (take n (split c.args.prefix.now))) (length_push c.loop-name.yielded c.in-Some.name)
    ∙ filter_more is_node_name (split c.args.prefix.now) (length c.loop-name.yielded) c.in-Some.name.now false t.0 t.1
    (sym c.is_node_name.ensures ∙ c.if-is_node_name.false)
    ∙ append-nil (filter is_node_name (take (length c.loop-name.yielded) (split c.args.prefix.now))))

pub returns : goal.returns
returns c =
    let same = c.into_iter-name-iterator.ensures.into_iter_gives in
    let t = YieldsList-end (YieldsList-from_slice_split _ (λ b. nat_eq b 47) c.args.prefix.now
    (ap split_rest same ∙ c.split-name-items.ensures.rest) (ap split_done same ∙ c.split-name-items.ensures.done)
    (ap split_callee same ∙ c.split-name-items.ensures.closure) (λ x r q k. search (rules, tests)))
    c.loop-name.yielded _ c.loop-name.yielded_by _ _ c.in-None.is c.next.ensures.steps in
    c.loop-name.invariant
    ∙ ap (λ n. filter is_node_name (take n (split c.args.prefix.now))) t.1
    ∙ ap (filter is_node_name) (take_all (length (split c.args.prefix.now)) (split c.args.prefix.now) (omega arith))
