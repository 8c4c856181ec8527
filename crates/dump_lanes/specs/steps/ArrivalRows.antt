-- Which items are in a row of slots.
use Rattle.std.specs.Prelude.{◌≡◌, ℕ, ◌%◌, List, [], ◌∷◌, ◌++◌, length, Option, Some, None, slice_index_or}
use Rattle.dump_lanes.specs.Arrivals.{WeighsSame, first_numbers}

module _ {T : Type 0} (number : T → ℕ) where
  -- the numbers of the items in a row
  abbrev pub held : List (Option T) → List ℕ
  held [] = []
  held (None ∷ places) = held places
  held (Some item ∷ places) = number item ∷ held places

  -- the items that arrived are those that were released and those in the row, each in its number's place
  pub record Row (window released : ℕ) (arrived : List ℕ) (places : List (Option T)) : Type 0 where
    pub wide : length places ≡ window
    pub placed : (k : ℕ) (item : T) → slice_index_or places k None ≡ Some item → number item % window ≡ k
    pub same : WeighsSame arrived (first_numbers released ++ held places)
