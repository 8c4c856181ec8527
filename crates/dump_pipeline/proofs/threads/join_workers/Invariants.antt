use Rattle.dump_pipeline.proofs.Prelude.{◌≡◌, ◌≤◌, All, map, length, vec_len, vec_capacity, worker_port, HasWorked}
use Rattle.dump_pipeline.proofs.threads.join_workers.Given as goal

abbrev pub invariant-loop-worker : goal.invariant-loop-worker
invariant-loop-worker g l =
    (map (λ p. (worker_port p).pool) l.ports.items ≡ map (λ s. (worker_port s.promise.port.value).pool) l.yielded)
    × (map (λ p. (worker_port p).index) l.ports.items ≡ map (λ s. (worker_port s.promise.port.value).index) l.yielded)
    × All (λ p. HasWorked (worker_port p)) l.ports.items
    × (vec_len l.ports ≡ length l.yielded)
    × (length l.fn.workers.items ≤ vec_capacity l.ports)
