-- The numbers that a plan may have.
use Rattle.std.specs.Prelude.{ℕ, ◌≤◌}
use Rattle.dump_lanes.specs.declared.limits.TheConstants.{MOST_WORKERS, MOST_WINDOW}

-- a plan may have this many workers, and a window of this width (this project's own rule)
abbrev pub IsInRange : ℕ → ℕ → Type 0
IsInRange workers window = (1 ≤ workers) × (workers ≤ MOST_WORKERS) × (1 ≤ window) × (window ≤ MOST_WINDOW)
