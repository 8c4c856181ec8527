use Rattle.std.proofs.Common.{◌≡◌, map}
use Rattle.dump_index.specs.steps.Touching.{rest_text}
use Rattle.dump_cut.proofs.excluded.Excluded.below.Given as goal

abbrev pub invariant-loop-path : goal.invariant-loop-path
invariant-loop-path l = map (λ rest. rest.now) l.rests.items ≡ map (λ path. path.now.items) l.yielded

abbrev pub invariant-loop-path-2 : goal.invariant-loop-path-2
invariant-loop-path-2 l = map (λ rest. rest.now) l.rests.items ≡ map (λ path. rest_text l.top path.now.items) l.yielded
