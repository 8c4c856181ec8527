-- Bytes that are written in place of others.
use Rattle.std.specs.Prelude.{ℕ, List, Option, Some, None}
use Rattle.std.specs.Global.{Vec}

-- the new bytes, if there are any, or else the own ones
abbrev pub made_or : Option (Vec ℕ) → List ℕ → List ℕ
made_or None own = own
made_or (Some made) own = made.items
