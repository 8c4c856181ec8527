use Rattle.std.proofs.Common.{◌≡◌, ◌<◌, ◌≤◌, [], ℕ, List, length}
use Rattle.std.specs.List.{AllZip, slice_get}
use Rattle.dump_trees.specs.steps.FollowedRests.{rests_at}
use Rattle.dump_trees.specs.steps.Looking.{Placed}
use Rattle.dump_index.specs.steps.IndexLaws.{IsListed}
use Rattle.dump_index.specs.steps.ToldKinds.{kinds_told_by}
use Rattle.dump_cut.specs.steps.ExcludedPaths.{paths_of}
use Rattle.dump_cut.specs.steps.FollowedPaths.{ArePlaced, KeepsFollowing, added_paths, place_at_turn}
use Rattle.dump_cut.specs.steps.Returned.{way_meant}
use Rattle.dump_cut.proofs.followed.follow_each.Given as goal

abbrev pub invariant-loop-turn : goal.invariant-loop-turn
invariant-loop-turn l = record {
  placed : (ArePlaced (way_meant l.way) l.index l.fn.additions.items → ArePlaced (way_meant l.way) l.index l.additions.items);
  more : (length l.fn.additions.items ≤ length l.additions.items);
  idle : (length l.additions.items ≡ length l.fn.additions.items → (paths_of l.excluded ≡ paths_of l.fn.excluded)
      × ((placed : List Placed) → AllZip IsListed l.index placed → (k : ℕ) → k < l.turn
      → rests_at (way_meant l.way) (paths_of l.excluded) (kinds_told_by l.index) placed
      (slice_get placed (place_at_turn (way_meant l.way) k l.count)) ≡ []));
  keeps : KeepsFollowing (way_meant l.way) l.index (paths_of l.fn.excluded) (added_paths l.fn.additions.items)
      (paths_of l.excluded) (added_paths l.additions.items);
}
