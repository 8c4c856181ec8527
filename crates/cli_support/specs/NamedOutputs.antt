-- What becomes of the known bytes of an output that is created by a name.
use Rattle.std.specs.Prelude.{◌≡◌, ℕ, List, Option, None, Some, ⊤}

-- the known bytes are gone, and these are in their place
abbrev pub Replaces : Option (List ℕ) → Option (List ℕ) → List ℕ → Type 0
Replaces None new text = ⊤
Replaces (Some bytes) None text = ⊥
Replaces (Some bytes) (Some known) text = known ≡ text
