-- The first change that can't be indexed.
use Rattle.std.specs.Prelude.{◌≡◌, ℕ, true, false, List, [], ◌∷◌, ◌++◌, length, Option, Some, None}
use Rattle.dump_index.specs.steps.InOrder.{are_in_order}
use Rattle.dump_index.specs.declared.change.NodeChange.{NodeChange}

-- the first change that isn't in order is at this place; without a place, all are in order
abbrev pub IsFirstOutOfOrder : List NodeChange → Option ℕ → Type 0
IsFirstOutOfOrder changes None = are_in_order 0 changes ≡ true
IsFirstOutOfOrder changes (Some place) = (before : List NodeChange) × (c : NodeChange) × (behind : List NodeChange)
    × (changes ≡ before ++ c ∷ behind) × (length before ≡ place)
    × (are_in_order 0 before ≡ true) × (are_in_order 0 (before ++ c ∷ []) ≡ false)
