use Rattle.dump_pipeline.proofs.Prelude.{◌≡◌, ◌≤◌, map, length, vec_len, vec_capacity, ForSome, worker_port}
use Rattle.dump_pipeline.proofs.threads.start_workers.Given as goal

abbrev pub invariant-loop-port : goal.invariant-loop-port
invariant-loop-port g l =
    ForSome l.waiting (λ p. (p ≡ l.fn.cutter)
    × (map (λ s. (worker_port s.promise.port.value).pool) l.workers.items ≡ map (λ p. (worker_port p).pool) l.yielded)
    × (map (λ s. (worker_port s.promise.port.value).index) l.workers.items ≡ map
    (λ p. (worker_port p).index) l.yielded))
    × (vec_len l.workers ≤ length l.yielded)
    × (length l.fn.ports.items ≤ vec_capacity l.workers)
