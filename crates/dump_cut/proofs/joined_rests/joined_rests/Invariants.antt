use Rattle.std.proofs.Common.{◌≡◌, ◌++◌, map, take}
use Rattle.dump_trees.specs.Paths.{names_of}
use Rattle.dump_cut.proofs.joined_rests.joined_rests.Given as goal

abbrev pub invariant-loop-rest : goal.invariant-loop-rest
invariant-loop-rest l = map (λ path. names_of path.items) l.paths.items
    ≡ map (λ rest. names_of l.top ++ names_of rest.now) (take l.rest-index l.rests)
