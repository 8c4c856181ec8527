-- Path prefixes (svndumpfilter in "Version Control with Subversion"; slashes: this project's own rule).
use Rattle.std.specs.Prelude.{ℕ, Bool, true, ◌||◌, ◌==◌, List, [], ◌∷◌, ◌++◌, reverse, nat_eq, bytes_eq, if◌then◌else◌}
use Rattle.std.specs.List.{starts_with}

-- the text without the slashes at its front
abbrev pub without_leading_slashes : List ℕ → List ℕ
without_leading_slashes [] = []
without_leading_slashes (b ∷ text) = if b == 47 then without_leading_slashes text else b ∷ text

-- the text without the slashes at its end
abbrev pub without_trailing_slashes : List ℕ → List ℕ
without_trailing_slashes text = reverse (without_leading_slashes (reverse text))

-- a prefix without the slashes at both its ends
abbrev pub bare_prefix : List ℕ → List ℕ
bare_prefix prefix = without_trailing_slashes (without_leading_slashes prefix)

-- a path without one leading slash, if it has one
abbrev pub bare_path : List ℕ → List ℕ
bare_path [] = []
bare_path (b ∷ path) = if b == 47 then path else b ∷ path

-- whether the path is the bare prefix, or begins with it and a slash; the empty prefix matches every path
abbrev pub begins_path : List ℕ → List ℕ → Bool
begins_path [] path = true
begins_path (b ∷ prefix) path = bytes_eq path (b ∷ prefix) || starts_with nat_eq path ((b ∷ prefix) ++ 47 ∷ [])

-- whether the prefix matches the path
abbrev pub matches_path : List ℕ → List ℕ → Bool
matches_path prefix path = begins_path (bare_prefix prefix) (bare_path path)
