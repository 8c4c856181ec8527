-- The directory that contains a path, as a text.
use Rattle.std.specs.Prelude.{ℕ, ◌==◌, List, [], ◌∷◌, reverse, if◌then◌else◌}

-- what follows the first slash
abbrev pub after_slash : List ℕ → List ℕ
after_slash [] = []
after_slash (b ∷ text) = if b == 47 then text else after_slash text

-- the path before its last slash; the root, if it has none
abbrev pub parent_text : List ℕ → List ℕ
parent_text path = reverse (after_slash (reverse path))
