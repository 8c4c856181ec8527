-- The texts that deltas make.
use Rattle.std.specs.Prelude.{ℕ, List, [], ◌∷◌, map, Option, Some, option_and_then}
use Rattle.std.specs.Borrow.{Bor}
use Rattle.svndiff.specs.Svndiff.{patch}

-- what deltas make of a text, one after the other
abbrev pub patched_by : List (List ℕ) → List ℕ → Option (List ℕ)
patched_by [] old = Some old
patched_by (delta ∷ deltas) old = option_and_then (patched_by deltas) (patch delta old)

-- what the parts of a dump make that are such deltas, and the text of which they make it
abbrev pub text_of_parts : List ℕ → List (Bor (List ℕ)) → Option (List ℕ)
text_of_parts base deltas = patched_by (map (λ (delta : Bor (List ℕ)). delta.now) deltas) base
