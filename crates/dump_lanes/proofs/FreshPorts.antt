-- The ports of a pool's workers before the first call.
use Rattle.dump_lanes.proofs.Prelude.{◌≡◌, ◌∙◌, List, [], All, length, map, refl, sym, ap, length-map-range_with_len, range_with_len, WorkerPort, WorkerSide, PoolState, new_worker, worker_port}
use Rattle.dump_lanes.proofs.PortsTogether.{length_of_map, as_new}

module _ {J E : Type 0} where
  -- new workers have taken nothing
  pub none_taken : (pool : PoolState) (ports : List (WorkerPort J E))
      → map (λ (p : WorkerPort J E). worker_port p) ports ≡ map (new_worker pool) (range_with_len 0 pool.workers)
      → All (λ (p : WorkerPort J E). (worker_port p).taken ≡ []) ports
  none_taken pool ports e = as_new (λ w. w.taken ≡ []) pool (λ n. refl) ports e

  -- and given nothing
  pub none_given : (pool : PoolState) (ports : List (WorkerPort J E))
      → map (λ (p : WorkerPort J E). worker_port p) ports ≡ map (new_worker pool) (range_with_len 0 pool.workers)
      → All (λ (p : WorkerPort J E). (worker_port p).given ≡ []) ports
  none_given pool ports e = as_new (λ w. w.given ≡ []) pool (λ n. refl) ports e

  -- there are as many as the pool has workers
  pub workers_count : (pool : PoolState) (ports : List (WorkerPort J E))
      → map (λ (p : WorkerPort J E). worker_port p) ports ≡ map (new_worker pool) (range_with_len 0 pool.workers)
      → length ports ≡ pool.workers
  workers_count pool ports e =
      sym (length_of_map (λ (p : WorkerPort J E). worker_port p) ports)
      ∙ (ap (λ (l : List (WorkerSide J E)). length l) e
      ∙ length-map-range_with_len (new_worker {J = J} {D = E} pool) 0 pool.workers)
