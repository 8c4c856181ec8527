use Rattle.std.proofs.Common.{◌≡◌, map}
use Rattle.dump_trees.specs.Paths.{names_of, path_text}
use Rattle.dump_cut.proofs.excluded.Excluded.prefixes.Given as goal

abbrev pub invariant-loop-path : goal.invariant-loop-path
invariant-loop-path l = map (λ prefix. prefix.items) l.prefixes.items
    ≡ map (λ path. path_text (names_of path.now.items)) l.yielded
