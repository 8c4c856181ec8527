-- Prefixes without the slashes at their ends, below paths in the form of texts.
use Rattle.std.specs.Prelude.{◌≡◌, ℕ, Bool, true, ◌&&◌, ◌==◌, List, [], ◌∷◌, ◌++◌, drop, length, nat_eq, Option, Some, None, if◌then◌else◌}
use Rattle.std.specs.List.{starts_with}
use Rattle.dump_rules.specs.Settings.{Settings, keeps_path}
use Rattle.dump_trees.specs.Paths.{path_of, path_text}

-- what follows the first text and a slash in the second text, if the second text begins with these
abbrev pub behind_slash : List ℕ → List ℕ → Option (List ℕ)
behind_slash [] [] = None
behind_slash [] (c ∷ text) = if c == 47 then Some text else None
behind_slash (b ∷ front) [] = None
behind_slash (b ∷ front) (c ∷ text) = if b == c then behind_slash front text else None

-- whether the bare prefix is below the path
abbrev pub is_below : List ℕ → List ℕ → Bool
is_below path bare = starts_with nat_eq (47 ∷ bare) (path_text (path_of path) ++ 47 ∷ [])

-- the rest of the bare prefix below the path, with the slash before it
abbrev pub rest_behind : List ℕ → List ℕ → List ℕ
rest_behind path bare = drop (length (path_text (path_of path))) (47 ∷ bare)

-- the bare prefix is below the path, and this is its rest
pub record IsRestBelow (path bare rest : List ℕ) : Type 0 where
  pub below : is_below path bare ≡ true
  pub rest_is : rest_behind path bare ≡ 47 ∷ rest

-- whether the bare prefix is below one path, and the path with the same rest below the other path is kept
abbrev pub cuts_below : Settings → List ℕ → List ℕ → List ℕ → Bool
cuts_below settings path other bare =
    is_below path bare && keeps_path settings (path_text (path_of other) ++ rest_behind path bare)
