use Rattle.std.proofs.Common.{◌≡◌, true, ◌++◌, List, [], map, filter, sym, ap, ◌∙◌, subst}
use Rattle.std.specs.List.{list_all}
use Rattle.std.proofs.lemmas.List.{take_all}
use Rattle.dump_trees.specs.Paths.{NodePath, names_of}
use Rattle.dump_trees.specs.Siblings.{has_node_names}
use Rattle.dump_cut.specs.steps.CutAlike.{is_alone}
use Rattle.dump_cut.specs.steps.ExcludedPaths.{paths_of}
use Rattle.dump_cut.proofs.DifferenceLemmas.{bare_text, seen_paths}
use Rattle.dump_cut.proofs.differences.push_alone.Goals as goal

pub exists_ever-requires : goal.exists_ever-requires
exists_ever-requires c =
    let texts = c.deref-path-items.result.now in
    let same = seen_paths texts c.in_ok-paths.field-0.items c.args.paths.now c.deref-path-items.ensures.value c.in_ok-paths.ensures.texts in
    bare_text texts c.loop-path.path-index (record { ref_ptr = (0, 0); now = [] })
    (subst (λ (ps : List NodePath). list_all has_node_names ps ≡ true) (sym same) c.in_ok-paths.ensures.named) c.loop-path-test.true

pub returns : goal.returns
returns c =
    let texts = c.deref-path-items.result.now in
    let same = seen_paths texts c.in_ok-paths.field-0.items c.args.paths.now c.deref-path-items.ensures.value c.in_ok-paths.ensures.texts in
    c.loop-path.invariant
    ∙ ap (λ (ps : List NodePath). map (λ path. names_of path.items) c.args.found.now.items
    ++ filter (is_alone c.args.index.now (paths_of c.args.others.now)) ps)
    (ap (map (λ text. names_of text.now)) (take_all c.loop-path.path-index texts c.loop-path-test.false) ∙ same)
