-- Numbers of revisions that rise.
use Rattle.std.specs.Prelude.{ℕ, ◌+◌, ◌≤◌, ⊤, List, [], ◌∷◌}

-- the numbers rise from the first one on
abbrev pub RiseFrom : ℕ → List ℕ → Type 0
RiseFrom first [] = ⊤
RiseFrom first (n ∷ numbers) = (first ≤ n) × RiseFrom (n + 1) numbers
