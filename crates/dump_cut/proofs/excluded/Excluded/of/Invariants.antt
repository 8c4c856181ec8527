use Rattle.std.proofs.Common.{◌≡◌, map, take}
use Rattle.dump_trees.specs.CanonicalPaths.{canonical_paths}
use Rattle.dump_trees.specs.Paths.{NodePath}
use Rattle.dump_trees.specs.Returns.{is_covered}
use Rattle.dump_cut.specs.steps.ExcludedPaths.{paths_of}
use Rattle.dump_cut.proofs.excluded.Excluded.of.Given as goal

abbrev pub invariant-loop-prefix : goal.invariant-loop-prefix
invariant-loop-prefix l = (path : NodePath) → is_covered (paths_of l.excluded) path
    ≡ is_covered (canonical_paths (map (λ prefix. prefix.now) (take l.prefix-index l.prefixes))) path
