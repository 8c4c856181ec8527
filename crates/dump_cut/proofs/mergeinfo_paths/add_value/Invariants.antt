use Rattle.std.proofs.Common.{length, map, nat_eq, take}
use Rattle.std.specs.List.{slice_split}
use Rattle.dump_trees.specs.Paths.{names_of}
use Rattle.dump_cut.specs.steps.MergePaths.{AddsPaths, IsInLines}
use Rattle.dump_cut.proofs.mergeinfo_paths.add_value.Given as goal

abbrev pub invariant-loop-line : goal.invariant-loop-line
invariant-loop-line l = AddsPaths (map (λ path. names_of path.items) l.fn.paths.keys) (map (λ path. names_of path.items) l.paths.keys)
    (IsInLines (take (length l.yielded) (slice_split (λ c. nat_eq c 10) l.value)))
