use Rattle.std.proofs.Common.{◌≡◌, ◌++◌, ◌&&◌, not, is_some, filter, map, take}
use Rattle.dump_trees.specs.Paths.{names_of}
use Rattle.dump_trees.specs.Returns.{is_covered}
use Rattle.dump_index.specs.steps.ToldKinds.{kinds_told_by}
use Rattle.dump_cut.specs.steps.ExcludedPaths.{paths_of}
use Rattle.dump_cut.proofs.returns.followed_rests.Given as goal

abbrev pub invariant-loop-rest : goal.invariant-loop-rest
invariant-loop-rest l = map (λ rest. names_of rest.now) l.rests.items
    ≡ filter (λ rest. is_some (kinds_told_by l.index l.count (names_of l.source.path.now ++ rest))
    && not (is_covered (paths_of l.excluded) (names_of l.to ++ rest)))
    (map (λ rest. names_of rest.now) (take l.rest-index l.rest-items))
