-- What the ports of a pool have put and taken.
use Rattle.std.specs.Prelude.{◌≡◌, ℕ, ◌<◌, Bool, true, false, List, [], length, All, Contains, map, flat_map}
use Rattle.atomic_table.specs.Seated.{TableId}

-- the identity of a pool: its queues; no two pools have a queue in common
pub record PoolName : Type 0 where
  pub jobs : TableId
  pub dones : TableId
  pub credits : TableId

-- a pool: its name, how many workers it has, how many items may be under way, and whether its ports were made
pub record PoolState : Type 0 where
  pub name : PoolName
  pub workers : ℕ
  pub window : ℕ
  pub opened : Bool

-- the cutter's port: its pool and the number of that pool's workers, the jobs and the end marks that it put, and how
-- many credits it drew
pub record CutterSide (J : Type 0) : Type 0 where
  pub pool : PoolName
  pub workers : ℕ
  pub put : List J
  pub marks : ℕ
  pub drawn : ℕ

-- a worker's port: its pool and its index, the jobs that it took, whether its end mark came, what it gave, and whether
-- it put its own mark
pub record WorkerSide (J D : Type 0) : Type 0 where
  pub pool : PoolName
  pub index : ℕ
  pub taken : List J
  pub ended : Bool
  pub given : List D
  pub closed : Bool

-- the sequencer's port: its pool, what it took, and whether each worker's mark came
pub record SequencerSide (D : Type 0) : Type 0 where
  pub pool : PoolName
  pub taken : List D
  pub ended : Bool

-- the writer's port: its pool, how many items may be under way, and how many credits it gave back
pub record WriterSide : Type 0 where
  pub pool : PoolName
  pub window : ℕ
  pub back : ℕ

-- the cutter's port before the first call
abbrev pub new_cutter : {J : Type 0} → PoolState → CutterSide J
new_cutter pool = record { pool = pool.name; workers = pool.workers; put = []; marks = 0; drawn = 0 }

-- a worker's port before the first call
abbrev pub new_worker : {J D : Type 0} → PoolState → ℕ → WorkerSide J D
new_worker pool index =
    record { pool = pool.name; index = index; taken = []; ended = false; given = []; closed = false }

-- the sequencer's port before the first call
abbrev pub new_sequencer : {D : Type 0} → PoolState → SequencerSide D
new_sequencer pool = record { pool = pool.name; taken = []; ended = false }

-- the writer's port before the first call
abbrev pub new_writer : PoolState → WriterSide
new_writer pool = record { pool = pool.name; window = pool.window; back = 0 }

-- a worker's port that has taken its end mark and has put its own
abbrev pub IsDone : {J D : Type 0} → WorkerSide J D → Type 0
IsDone worker = (worker.ended ≡ true) × (worker.closed ≡ true)

-- these are the ports of this pool's workers, each once, in any order
pub record AreWorkersOf {J D : Type 0} (pool : PoolName) (count : ℕ) (workers : List (WorkerSide J D)) : Type 0 where
  pub same_pool : All (λ (worker : WorkerSide J D). worker.pool ≡ pool) workers
  pub as_many : length workers ≡ count
  pub each : (n : ℕ) → n < count → Contains (map (λ (worker : WorkerSide J D). worker.index) workers) n

-- the jobs that the workers took
abbrev pub all_taken : {J D : Type 0} → List (WorkerSide J D) → List J
all_taken {J} {D} workers = flat_map (λ (worker : WorkerSide J D). worker.taken) workers

-- what the workers gave
abbrev pub all_given : {J D : Type 0} → List (WorkerSide J D) → List D
all_given {J} {D} workers = flat_map (λ (worker : WorkerSide J D). worker.given) workers
