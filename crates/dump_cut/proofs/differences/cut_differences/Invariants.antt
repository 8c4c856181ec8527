use Rattle.std.proofs.Common.{◌≡◌, ◌++◌, map, filter}
use Rattle.dump_trees.specs.Paths.{names_of}
use Rattle.dump_cut.specs.steps.CutAlike.{is_covered_by_one}
use Rattle.dump_cut.specs.steps.ExcludedPaths.{paths_of}
use Rattle.dump_cut.proofs.differences.cut_differences.Given as goal

abbrev pub invariant-loop-path : goal.invariant-loop-path
invariant-loop-path l = map (λ path. names_of path.items) l.found.items
    ≡ map (λ path. names_of path.items) l.initial.found.items
    ++ filter (is_covered_by_one (paths_of l.paths) (paths_of l.others)) (map (λ path. names_of path.now.items) l.yielded)
