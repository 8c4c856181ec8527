use Rattle.dump_cut.specs.steps.FollowedCopies.{ComeByFollowing}
use Rattle.dump_cut.specs.steps.ExcludedPaths.{paths_of}
use Rattle.dump_cut.specs.steps.FollowedPaths.{ArePlaced, added_paths}
use Rattle.dump_cut.specs.steps.Returned.{way_meant}
use Rattle.dump_cut.proofs.followed.follow.Given as goal

abbrev pub invariant-loop : goal.invariant-loop
invariant-loop l = record {
  placed : ArePlaced (way_meant l.way) l.index l.additions.items;
  comes : ComeByFollowing (way_meant l.way) l.index (paths_of l.fn.excluded) (added_paths l.additions.items)
      (paths_of l.excluded);
}
