use Rattle.std.proofs.Common.{◌≡◌, ◌≤◌, List, length, map, take, true}
use Rattle.dump_trees.specs.Following.{Way}
use Rattle.dump_trees.specs.Paths.{NodePath, names_of}
use Rattle.dump_trees.specs.Returns.{is_covered}
use Rattle.dump_index.specs.steps.Listed.{Listed}
use Rattle.dump_cut.specs.steps.ExcludedPaths.{paths_of}
use Rattle.dump_cut.specs.steps.FollowedPaths.{added_paths, AreFollowedTo, ArePlaced, IsIdle, KeepsFollowing}
use Rattle.dump_cut.proofs.followed.add_paths.Given as goal

abbrev pub invariant-loop-path : goal.invariant-loop-path
invariant-loop-path l = record {
  placed : ((way : Way) (listed : List Listed)
      → AreFollowedTo way listed (paths_of l.fn.excluded) l.place (map (λ path. names_of path.items) l.paths)
      → ArePlaced way listed l.fn.additions.items → ArePlaced way listed l.additions.items);
  keeps : ((way : Way) (listed : List Listed)
      → AreFollowedTo way listed (paths_of l.fn.excluded) l.place (map (λ path. names_of path.items) l.paths)
      → KeepsFollowing way listed (paths_of l.fn.excluded) (added_paths l.fn.additions.items) (paths_of l.excluded)
      (added_paths l.additions.items));
  more : (length l.fn.additions.items ≤ length l.additions.items);
  idle : (length l.additions.items ≡ length l.fn.additions.items → IsIdle (paths_of l.fn.excluded)
      (map (λ path. names_of path.items) (take l.path-index l.paths)) (paths_of l.excluded));
  grow : ((path : NodePath) → is_covered (paths_of l.fn.excluded) path ≡ true → is_covered (paths_of l.excluded) path ≡ true);
}
