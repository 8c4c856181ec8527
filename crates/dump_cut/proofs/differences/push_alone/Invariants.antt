use Rattle.std.proofs.Common.{◌≡◌, ◌++◌, map, take, filter}
use Rattle.dump_trees.specs.Paths.{names_of}
use Rattle.dump_cut.specs.steps.CutAlike.{is_alone}
use Rattle.dump_cut.specs.steps.ExcludedPaths.{paths_of}
use Rattle.dump_cut.proofs.differences.push_alone.Given as goal

abbrev pub invariant-loop-path : goal.invariant-loop-path
invariant-loop-path l = map (λ path. names_of path.items) l.found.items
    ≡ map (λ path. names_of path.items) l.fn.found.items
    ++ filter (is_alone l.index (paths_of l.others)) (map (λ path. names_of path.now) (take l.path-index l.path-items))
