use Rattle.std.proofs.Common.{◌≡◌, ◌==◌, length, take, true}
use Rattle.std.specs.List.{list_all}
use Rattle.dump_cut.proofs.deletes.are_empty.Given as goal

abbrev pub invariant-loop-paths : goal.invariant-loop-paths
invariant-loop-paths l = list_all (λ paths. length paths.items == 0) (take l.paths-index l.deletes) ≡ true
