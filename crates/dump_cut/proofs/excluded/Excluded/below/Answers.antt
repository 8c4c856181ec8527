use Rattle.std.proofs.Common.{ℕ, List, [], map, sym, ap, ap₂, subst, ◌∙◌, ◌≡◌, false}
use Rattle.std.proofs.lemmas.Iterator.Consumers.{YieldsList-end, YieldsList-from_rest}
use Rattle.std.specs.Ordering.{is_gt, nat_cmp}
use Rattle.std.specs.Cmp.Lexicographic.{slice_cmp}
use Rattle.dump_index.specs.steps.Touching.{rest_text}
use Rattle.dump_cut.specs.steps.ExcludedPaths.{paths_of}
use Rattle.dump_cut.specs.steps.ExcludedTexts.{texts_below}
use Rattle.dump_cut.proofs.GrowingLemmas.{uncovered_other}
use Rattle.dump_cut.proofs.RangeLemmas.{all_below_root, forward, range_texts, shown_twice, empty_list}
use Rattle.dump_cut.proofs.excluded.Excluded.below.Goals as goal

pub returns-then-is_empty-clause-rests : goal.returns-then-is_empty-clause-rests
returns-then-is_empty-clause-rests c =
    let all = YieldsList-end (YieldsList-from_rest c.self.inside.paths.keys c.into_iter-path-iterator.ensures.into_iter_gives.0)
    c.loop-path.yielded _ c.loop-path.yielded_by _ _ c.in-None.is c.next.ensures.steps in
    let root = empty_list c.args.top.now (sym c.is_empty.ensures ∙ c.if-is_empty.true) in
    c.loop-path.invariant
    ∙ (shown_twice (λ path. path.items) (λ path. path.now) c.loop-path.yielded
    ∙ (ap (map (λ path. path.items)) all.0
    ∙ (c.self.view_is
    ∙ (sym (all_below_root c.args.self.now
    (uncovered_other [] c.args.self.now (subst (λ t. Rattle.dump_trees.specs.Returns.is_covered (paths_of c.args.self.now)
    (Rattle.dump_trees.specs.Paths.names_of t) ≡ false) root c.requires)))
    ∙ ap (λ t. texts_below t c.args.self.now) (sym root)))))

pub range-path-items-requires : goal.range-path-items-requires
range-path-items-requires c =
    ap₂ (λ (one : List ℕ) (other : List ℕ). is_gt (slice_cmp nat_cmp one other)) c.in_ok-start.ensures c.in_ok-end.ensures
    ∙ forward c.args.top.now

pub returns-clause-rests : goal.returns-clause-rests
returns-clause-rests c =
    let all = YieldsList-end (YieldsList-from_rest _
    (c.into_iter-path-iterator-2.ensures.into_iter_gives ∙ c.range-path-items.ensures.between tt))
    c.loop-path-2.yielded _ c.loop-path-2.yielded_by _ _ c.in-None-path.is c.next-in-loop-path-2.ensures.steps in
    c.loop-path-2.invariant
    ∙ (shown_twice (λ path. rest_text c.args.top.now path.items) (λ path. path.now) c.loop-path-2.yielded
    ∙ (ap (map (λ path. rest_text c.args.top.now path.items)) all.0
    ∙ (range_texts (λ path. path.items) c.args.top.now c.in_ok-start.start c.in_ok-end.end
    (sym c.is_empty.ensures ∙ c.if-is_empty.false) c.in_ok-start.ensures c.in_ok-end.ensures c.self.inside.paths.keys
    ∙ ap (texts_below c.args.top.now) c.self.view_is)))
