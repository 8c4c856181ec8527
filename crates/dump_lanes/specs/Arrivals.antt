-- Numbered items that arrive in any order and are released in theirs.
use Rattle.std.specs.Prelude.{◌≡◌, ◌≢◌, ℕ, ◌+◌, ◌≤◌, ◌%◌, List, [], ◌∷◌, ◌++◌, sum_by}
use Rattle.std.specs.List.{range_with_len}

-- the same items stand in both lists, each as often: whatever the items weigh, both lists weigh the same
abbrev pub WeighsSame : {T : Type 0} → List T → List T → Type 0
WeighsSame {T} taken put = (weight : T → ℕ) → sum_by weight taken ≡ sum_by weight put

-- the first so many numbers
abbrev pub first_numbers : ℕ → List ℕ
first_numbers count = range_with_len 0 count

-- this number isn't among these
abbrev pub Lacks : ℕ → List ℕ → Type 0
Lacks number [] = Unit {0}
Lacks number (n ∷ ns) = (n ≢ number) × Lacks number ns

-- those with the first numbers were released and the next isn't there: what arrived are the released and some others
pub record IsWaiting (released : ℕ) (arrived : List ℕ) : Type 0 where
  pub others : List ℕ
  pub same : WeighsSame arrived (first_numbers released ++ others)
  pub lacks : Lacks released others

-- of those that arrived and weren't released, two share a slot, or one stands in the slot of the next
pub data Clash (window released : ℕ) (arrived : List ℕ) : Type 0 where
  Taken : (m n : ℕ) (rest : List ℕ) → WeighsSame arrived (first_numbers released ++ m ∷ n ∷ rest)
      → m % window ≡ n % window → Clash window released arrived
  Wrong : (m : ℕ) (rest : List ℕ) → WeighsSame arrived (first_numbers released ++ m ∷ rest)
      → m % window ≡ released % window → m ≢ released → Clash window released arrived

-- where the first so many arrived, each once, and no more than a window wasn't released, no two of them clash
abbrev pub NoneClash : Type 0
NoneClash = (window released count : ℕ) (arrived : List ℕ) → WeighsSame arrived (first_numbers count)
    → count ≤ released + window
    → Clash window released arrived → ⊥

-- and where the next to be released isn't there, all were released
abbrev pub AllReleased : Type 0
AllReleased = (released count : ℕ) (arrived : List ℕ) → WeighsSame arrived (first_numbers count)
    → IsWaiting released arrived → released ≡ count
