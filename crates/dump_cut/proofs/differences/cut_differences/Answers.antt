use Rattle.std.proofs.Common.{◌≡◌, ◌++◌, List, Vec, Global, ℕ, map, filter, ap, ap₂, ◌∙◌, append_assoc}
use Rattle.std.proofs.lemmas.Iterator.Consumers.{YieldsList-end, YieldsList-from_rest}
use Rattle.dump_trees.specs.Paths.{NodePath, names_of}
use Rattle.dump_cut.specs.steps.CutAlike.{covered_alone, is_covered_by_one}
use Rattle.dump_cut.specs.steps.ExcludedPaths.{paths_of}
use Rattle.dump_cut.proofs.RangeLemmas.{shown_twice}
use Rattle.dump_cut.proofs.differences.cut_differences.Goals as goal

pub returns : goal.returns
returns c =
    let keys = c.in_ok-path-items.field-0.keys in
    let paths = paths_of c.args.paths.now in
    let others = paths_of c.args.others.now in
    let alone = covered_alone c.args.index.now others paths in
    let their_own = covered_alone c.args.index.now paths others in
    let text_path : Vec ℕ Global → NodePath = λ path. names_of path.items in
    let all = YieldsList-end (YieldsList-from_rest keys c.into_iter-path-iterator.ensures.into_iter_gives.0)
    c.loop-path.yielded _ c.loop-path.yielded_by _ _ c.in-None.is c.next.ensures.steps in
    let first : map text_path c.push_alone.new.found.items ≡ alone =
    c.in_ok-push_alone.ensures ∙ ap (λ texts. map text_path texts ++ alone) c.new-found.ensures.items in
    let both : map text_path c.push_alone-2.new.found.items ≡ alone ++ their_own =
    c.in_ok-push_alone-2.ensures ∙ ap (λ (ps : List NodePath). ps ++ their_own) first in
    let named = ap (filter (is_covered_by_one paths others))
    (shown_twice text_path (λ path. path.now) c.loop-path.yielded ∙ ap (map text_path) all.0) in
    record {
      names = map text_path keys;
      are_names = c.in_ok-path-items.ensures.paths;
      are = c.loop-path.invariant ∙ ap₂ (λ (ps qs : List NodePath). ps ++ qs) both named
          ∙ append_assoc alone their_own (filter (is_covered_by_one paths others) (map text_path keys));
    }
