use Rattle.std.proofs.Common.{◌≡◌, ◌++◌, map, take}
use Rattle.dump_trees.specs.Paths.{names_of}
use Rattle.dump_cut.specs.steps.Returned.{placed_rests, rest_meant}
use Rattle.dump_cut.proofs.returns.push_followed.Given as goal

abbrev pub invariant-loop-rest : goal.invariant-loop-rest
invariant-loop-rest l = map rest_meant l.found.items
    ≡ map rest_meant l.fn.found.items ++ placed_rests l.place (map (λ rest. names_of rest.now) (take l.rest-index l.rest-items))
