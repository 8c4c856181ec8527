use Rattle.std.proofs.Common.{◌≡◌, map, true}
use Rattle.std.specs.Prelude.{Contains}
use Rattle.dump_trees.specs.Paths.{NodePath, names_of}
use Rattle.dump_cut.specs.steps.NamedLines.{is_left_by}
use Rattle.dump_cut.specs.steps.ExcludedPaths.{paths_of}
use Rattle.dump_cut.specs.steps.MoreSiblings.{AreMore}
use Rattle.dump_cut.proofs.named_siblings.add_named_siblings.Given as goal

abbrev pub invariant-loop-path : goal.invariant-loop-path
invariant-loop-path l = record {
  more : AreMore (paths_of l.included) (paths_of l.fn.siblings) (paths_of l.siblings);
  covered : ((path : NodePath) → Contains (map (λ path. names_of path.now.items) l.yielded) path
      → is_left_by (paths_of l.included) (paths_of l.siblings) path ≡ true);
}
