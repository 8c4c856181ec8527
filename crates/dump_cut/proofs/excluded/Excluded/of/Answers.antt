use Rattle.std.proofs.Common.{[], ◌∷◌, ◌||◌, get_or, map, take, sym, ap, ◌∙◌}
use Rattle.std.proofs.lemmas.List.{take_more, map-append}
use Rattle.dump_trees.specs.CanonicalPaths.{canonical_paths}
use Rattle.dump_trees.specs.Paths.{names_of}
use Rattle.dump_trees.specs.Returns.{is_covered}
use Rattle.dump_trees.specs.Siblings.{has_node_names, is_within}
use Rattle.dump_cut.specs.steps.ExcludedPaths.{paths_of}
use Rattle.dump_cut.proofs.GrowingLemmas.{added_covers, canonical_named, prefix_more}
use Rattle.dump_cut.proofs.excluded.Excluded.of.Goals as goal

pub add-requires : goal.add-requires
add-requires c =
    ap has_node_names (ap names_of c.deref.ensures.value ∙ c.in_ok-path.ensures)
    ∙ canonical_named (get_or c.args.prefixes.now c.loop-prefix.prefix-index (record { ref_ptr = (0, 0); now = [] })).now

pub loop-prefix-preserved : goal.loop-prefix-preserved
loop-prefix-preserved c = λ path.
    let texts = map (λ prefix. prefix.now) (take c.loop-prefix.prefix-index c.args.prefixes.now) in
    added_covers (paths_of c.loop-prefix.excluded) (paths_of c.add.new.self) (names_of c.deref.result.now) c.in_ok-add.field-0
    c.in_ok-add.ensures.new c.in_ok-add.ensures.grown path
    ∙ (ap (λ b. b || is_within (names_of c.deref.result.now) path) (c.loop-prefix.invariant path)
    ∙ (ap (λ p. is_covered (canonical_paths texts) path || is_within p path) (ap names_of c.deref.ensures.value ∙ c.in_ok-path.ensures)
    ∙ (sym (prefix_more texts _ path)
    ∙ sym (ap (λ prefixes. is_covered (canonical_paths prefixes) path)
    (ap (map (λ prefix. prefix.now)) (take_more c.args.prefixes.now c.loop-prefix.prefix-index _ c.loop-prefix-test.true)
    ∙ map-append (λ prefix. prefix.now) (take c.loop-prefix.prefix-index c.args.prefixes.now) (_ ∷ []))))))
