-- The value of each number option in a line that is accepted.
use Rattle.std.specs.Prelude.{◌≡◌, ℕ, List, Some, codes}
use Rattle.clap.specs.Words.{Row, Text, IsUnsignedIn, one_of}

-- the value of the option is a number in its range
abbrev pub IsNumber : Text → ℕ → List Row → Type 0
IsNumber name most rows = (text : Text) × (one_of name rows ≡ Some text) × IsUnsignedIn 1 most text

-- a line that is accepted has a value for each number option
pub record AreFilled (rows : List Row) : Type 0 where
  pub workers : IsNumber (codes "workers") 64 rows
  pub window : IsNumber (codes "window") 4096 rows
