use Rattle.std.proofs.Common.{◌≡◌, All, map}
use Rattle.dump_lanes.specs.steps.PortSides.{IsDone}
use Rattle.dump_lanes.specs.steps.PortViews.{worker_port}
use Rattle.filter_tests.proofs.lanes.pooling.answer_all.Given as goal

abbrev pub invariant-loop-port : goal.invariant-loop-port
invariant-loop-port g l =
    (map (λ p. (worker_port p).pool) l.all.items ≡ map (λ p. (worker_port p).pool) l.yielded)
    × (map (λ p. (worker_port p).index) l.all.items ≡ map (λ p. (worker_port p).index) l.yielded)
    × All (λ p. IsDone (worker_port p)) l.all.items
