use Rattle.std.proofs.Common.{◌≡◌, map}
use Rattle.dump_cut.proofs.excluded.Excluded.paths.Given as goal

abbrev pub invariant-loop-path : goal.invariant-loop-path
invariant-loop-path l = map (λ path. path.now) l.paths.items ≡ map (λ path. path.now.items) l.yielded
