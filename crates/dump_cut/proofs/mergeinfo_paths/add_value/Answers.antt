use Rattle.std.proofs.Common.{[], ◌≡◌, ◌∙◌, ap, arith, length, List, ℕ, map, nat_eq, rules, subst, sym, take, tests}
use Rattle.std.specs.List.{slice_split}
use Rattle.std.proofs.lemmas.Iterator.Splits.{YieldsList-from_slice_split}
use Rattle.std.proofs.lemmas.Iterator.Consumers.{YieldsList-turn, YieldsList-end}
use Rattle.std.proofs.lemmas.List.{length_push, take_all}
use Rattle.std.specs.Slice.Iter.{split_rest, split_done, split_callee}
use Rattle.dump_rules.specs.steps.RewrittenLines.{line_path}
use Rattle.dump_trees.specs.CanonicalPaths.{canonical_path}
use Rattle.dump_trees.specs.Paths.{NodePath, names_of}
use Rattle.dump_cut.specs.steps.MergePaths.{AddsPaths, IsInLines}
use Rattle.dump_cut.proofs.MergePathLemmas.{bare_line_adds, colon_line_adds, key_added, line_added, no_lines, none_added}
use Rattle.dump_cut.proofs.mergeinfo_paths.add_value.Goals as goal

pub loop-line-init : goal.loop-line-init
loop-line-init c = none_added (map (λ path. names_of path.items) c.args.paths.now.keys) (IsInLines []) no_lines

pub loop-line-preserved-in_ok-insert : goal.loop-line-preserved-in_ok-insert
loop-line-preserved-in_ok-insert c =
    let same = c.into_iter-line-iterator.ensures.into_iter_gives in
    let t = YieldsList-turn (YieldsList-from_slice_split _ (λ b. nat_eq b 10) c.args.value.now
    (ap split_rest same ∙ c.split-line-items.ensures.rest) (ap split_done same ∙ c.split-line-items.ensures.done)
    (ap split_callee same ∙ c.split-line-items.ensures.closure) (λ x r q k. search (rules, tests)))
    c.loop-line.yielded _ c.loop-line.yielded_by _ _ c.in-Some.line c.in-Some.is c.next.ensures.steps in
    let first = map (λ path. names_of path.items) c.args.paths.now.keys in
    let old = map (λ path. names_of path.items) c.loop-line.paths.keys in
    let new = map (λ path. names_of path.items) c.insert.new.self.keys in
    let lines = slice_split (λ b. nat_eq b 10) c.args.value.now in
    let its : names_of c.in_ok-path.path.items ≡ canonical_path (line_path c.in-Some.line.now) =
    c.in_ok-path.ensures ∙ ap canonical_path c.merge_path_of.ensures in
    let own : AddsPaths old new (λ path. path ≡ canonical_path (line_path c.in-Some.line.now)) =
    subst (λ (p : NodePath). AddsPaths old new (λ path. path ≡ p)) its
    (subst (λ keys. AddsPaths old (map (λ path. names_of path.items) keys) (λ path. path ≡ names_of c.in_ok-path.path.items))
    (sym c.in_ok-insert.ensures.keys) (key_added (λ path. path.items) c.in_ok-path.path c.loop-line.paths.keys)) in
    let named = colon_line_adds old new c.in-Some.line.now (sym c.contains.ensures.value ∙ c.if-contains.true) own in
    subst (λ (ls : List (List ℕ)). AddsPaths first new (IsInLines ls))
    (ap (λ n. take n lines) (sym (length_push c.loop-line.yielded c.in-Some.line)))
    (line_added first old new lines (length c.loop-line.yielded) c.in-Some.line.now t.0 t.1 c.loop-line.invariant named)

pub loop-line-preserved : goal.loop-line-preserved
loop-line-preserved c =
    let same = c.into_iter-line-iterator.ensures.into_iter_gives in
    let t = YieldsList-turn (YieldsList-from_slice_split _ (λ b. nat_eq b 10) c.args.value.now
    (ap split_rest same ∙ c.split-line-items.ensures.rest) (ap split_done same ∙ c.split-line-items.ensures.done)
    (ap split_callee same ∙ c.split-line-items.ensures.closure) (λ x r q k. search (rules, tests)))
    c.loop-line.yielded _ c.loop-line.yielded_by _ _ c.in-Some.line c.in-Some.is c.next.ensures.steps in
    let first = map (λ path. names_of path.items) c.args.paths.now.keys in
    let old = map (λ path. names_of path.items) c.loop-line.paths.keys in
    let lines = slice_split (λ b. nat_eq b 10) c.args.value.now in
    let none = bare_line_adds old c.in-Some.line.now (sym c.contains.ensures.value ∙ c.if-contains.false) in
    subst (λ (ls : List (List ℕ)). AddsPaths first old (IsInLines ls))
    (ap (λ n. take n lines) (sym (length_push c.loop-line.yielded c.in-Some.line)))
    (line_added first old old lines (length c.loop-line.yielded) c.in-Some.line.now t.0 t.1 c.loop-line.invariant none)

pub returns : goal.returns
returns c =
    let same = c.into_iter-line-iterator.ensures.into_iter_gives in
    let t = YieldsList-end (YieldsList-from_slice_split _ (λ b. nat_eq b 10) c.args.value.now
    (ap split_rest same ∙ c.split-line-items.ensures.rest) (ap split_done same ∙ c.split-line-items.ensures.done)
    (ap split_callee same ∙ c.split-line-items.ensures.closure) (λ x r q k. search (rules, tests)))
    c.loop-line.yielded _ c.loop-line.yielded_by _ _ c.in-None.is c.next.ensures.steps in
    let lines = slice_split (λ b. nat_eq b 10) c.args.value.now in
    subst (λ (ls : List (List ℕ)). AddsPaths (map (λ path. names_of path.items) c.args.paths.now.keys)
    (map (λ path. names_of path.items) c.loop-line.paths.keys) (IsInLines ls))
    (ap (λ n. take n lines) t.1 ∙ take_all (length lines) lines (omega arith))
    c.loop-line.invariant
