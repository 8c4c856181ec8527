-- The exact text of the line that says how many lines of mergeinfo are dropped.
use Rattle.std.specs.Prelude.{ℕ, ◌==◌, List, [], ◌∷◌, codes, decimal, if◌then◌else◌}
use Rattle.std.specs.List.{concat}

-- the words that follow the number
abbrev pub omitted_words : ℕ → List ℕ
omitted_words count =
    if count == 1 then codes " line of an excluded path\n" else codes " lines of excluded paths\n"

-- the line; empty if the number is 0
unfoldable pub omitted_line : ℕ → List ℕ
omitted_line count =
    if count == 0 then [] else concat (codes "dropped from svn:mergeinfo: " ∷ decimal count ∷ omitted_words count ∷ [])
