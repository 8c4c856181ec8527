use Rattle.std.proofs.Common.{◌≡◌, [], ◌∷◌, true, arith, get_or, length, map, take, sym, ap, subst, ◌∙◌}
use Rattle.std.proofs.lemmas.List.{length-map, take_more, map-append}
use Rattle.dump_trees.specs.Returns.{is_covered}
use Rattle.dump_cut.specs.steps.FollowedPaths.{IsIdle, added_paths}
use Rattle.std.specs.Prelude.{Contains}
use Rattle.dump_trees.specs.Paths.{names_of}
use Rattle.dump_cut.specs.steps.ExcludedPaths.{paths_of}
use Rattle.dump_cut.proofs.FollowedLemmas.{contains_at, grows_step, idle_more, kept_step, not_shorter, placed_more, unadded}
use Rattle.dump_cut.proofs.followed.add_paths.Goals as goal

pub loop-path-preserved : goal.loop-path-preserved
loop-path-preserved c =
    let there = subst (λ text. Contains (map (λ path. names_of path.items) c.args.paths.now) (names_of text))
    (sym (c.deref.ensures.value ∙ ap (λ path. path.items) c.path-item.is))
    (contains_at (λ path. names_of path.items) c.args.paths.now c.loop-path.path-index _ c.loop-path-test.true) in
    record {
      placed = λ way listed are before.
          placed_more way listed (paths_of c.args.excluded.now) (map (λ path. names_of path.items) c.args.paths.now)
          c.args.place (names_of c.deref.result.now) c.loop-path.additions.items c.add_path.new.additions.items are there
          c.in_ok-add_path.ensures.one (c.loop-path.invariant.placed way listed are before);
      keeps = λ way listed are.
          kept_step way listed (paths_of c.args.excluded.now) (paths_of c.loop-path.excluded)
          (added_paths c.args.additions.now.items) (added_paths c.loop-path.additions.items)
          (paths_of c.add_path.new.excluded) (added_paths c.add_path.new.additions.items)
          (map (λ path. names_of path.items) c.args.paths.now) (names_of c.deref.result.now) c.args.place are there
          c.loop-path.invariant.grow c.in_ok-add_path.ensures.adds (c.loop-path.invariant.keeps way listed are);
      more =
          let step = not_shorter c.args.place (names_of c.deref.result.now) c.loop-path.additions.items
          c.add_path.new.additions.items c.in_ok-add_path.ensures.one in
          let before = c.loop-path.invariant.more in omega (arith, step, before);
      idle = λ same.
          let step = not_shorter c.args.place (names_of c.deref.result.now) c.loop-path.additions.items
          c.add_path.new.additions.items c.in_ok-add_path.ensures.one in
          let before = c.loop-path.invariant.more in
          let first : length c.loop-path.additions.items ≡ length c.args.additions.now.items =
          omega (arith, same, step, before) in
          let next : length c.add_path.new.additions.items ≡ length c.loop-path.additions.items =
          omega (arith, same, first) in
          subst (λ paths. IsIdle (paths_of c.args.excluded.now) paths (paths_of c.add_path.new.excluded))
          (sym (ap (map (λ path. names_of path.items))
          (take_more c.args.paths.now c.loop-path.path-index _ c.loop-path-test.true)
          ∙ map-append (λ path. names_of path.items) (take c.loop-path.path-index c.args.paths.now) (_ ∷ [])))
          (idle_more (paths_of c.args.excluded.now)
          (map (λ path. names_of path.items) (take c.loop-path.path-index c.args.paths.now)) (paths_of c.loop-path.excluded)
          (paths_of c.add_path.new.excluded) (names_of (get_or c.args.paths.now c.loop-path.path-index _).items)
          (c.loop-path.invariant.idle first)
          (subst (λ text. (paths_of c.add_path.new.excluded ≡ paths_of c.loop-path.excluded)
          × (is_covered (paths_of c.loop-path.excluded) (names_of text) ≡ true))
          (c.deref.ensures.value ∙ ap (λ path. path.items) c.path-item.is)
          (unadded (paths_of c.loop-path.excluded) (added_paths c.loop-path.additions.items) (names_of c.deref.result.now)
          (paths_of c.add_path.new.excluded) (added_paths c.add_path.new.additions.items) c.in_ok-add_path.ensures.adds
          (length-map c.add_path.new.additions.items _ ∙ (next ∙ sym (length-map c.loop-path.additions.items _))))));
      grow = λ path was.
          grows_step (paths_of c.loop-path.excluded) (added_paths c.loop-path.additions.items) (names_of c.deref.result.now)
          (paths_of c.add_path.new.excluded) (added_paths c.add_path.new.additions.items) c.in_ok-add_path.ensures.adds path
          (c.loop-path.invariant.grow path was);
    }
