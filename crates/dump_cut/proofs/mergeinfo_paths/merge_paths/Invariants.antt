use Rattle.std.proofs.Common.{[], ◌-◌, length, map}
use Rattle.dump_trees.specs.Paths.{names_of}
use Rattle.dump_cut.specs.steps.MergePaths.{AddsPaths}
use Rattle.dump_records.proofs.CutterLemmas.{ReadSoFar}
use Rattle.dump_cut.proofs.MergePathLemmas.{IsInRecords}
use Rattle.dump_cut.proofs.mergeinfo_paths.merge_paths.Given as goal

abbrev pub invariant-loop-item : goal.invariant-loop-item
invariant-loop-item l = (read : ReadSoFar l.dump l.cutter)
    × AddsPaths [] (map (λ path. names_of path.items) l.paths.keys) (IsInRecords read.before)

abbrev pub decreases-loop-item : goal.decreases-loop-item
decreases-loop-item l = length l.dump - l.cutter.number
