-- What the contracts see of a plan.
use Rattle.std.specs.Prelude.{ℕ}
use Rattle.dump_pipeline.specs.declared.plan.Plan.{Plan}

-- how many workers there are
abbrev pub worker_count : Plan → ℕ
worker_count plan = plan.workers

-- how many records are in flight at most
abbrev pub window_size : Plan → ℕ
window_size plan = plan.window
