-- Examples of lines of mergeinfo by the cut.
use Rattle.dump_trees.proofs.Prelude.{◌≡◌, codes, refl, map, Exclude, Settings, NodePath, path_text, path_of, is_short}
use Rattle.std.proofs.Common.{ℕ, true, false, List, [], ◌∷◌}
use Rattle.dump_rules.specs.Mergeinfo.{MergeLine}
use Rattle.dump_rules.specs.Settings.{keeps_path}
use Rattle.dump_trees.specs.steps.CutLines.{has_line_in_cut}
use Rattle.dump_trees.proofs.values.ValueParts.{including_all}

-- one path is included
abbrev included : List NodePath
included = path_of (codes "a/b") ∷ []

abbrev line_of : List ℕ → MergeLine
line_of path = record { path = path; ranges = [] }

-- lines

inside : has_line_in_cut included (line_of (codes "/a/b/c")) ≡ true
inside = refl

above : has_line_in_cut included (line_of (codes "/a")) ≡ true
above = refl

outside : has_line_in_cut included (line_of (codes "/never/x")) ≡ false
outside = refl

-- a path that isn't canonical counts as the load reads it
outside_as_read : has_line_in_cut included (line_of (codes "//never/x")) ≡ false
outside_as_read = refl

-- the siblings on the ways to never/x, a/b/c and a/x
abbrev siblings : List NodePath
siblings = path_of (codes "never") ∷ path_of (codes "a/x") ∷ []

-- what stays

abbrev excluding_them : Settings
excluding_them = record (including_all (map path_text siblings)) { side = Exclude }

out_of_cut : keeps_path excluding_them (codes "/never/x") ≡ false
out_of_cut = refl

in_cut : keeps_path excluding_them (codes "/a/b/c") ≡ true
in_cut = refl

-- The canonical form is needed. If a line's path has one more slash, only the root's prefix matches it, so the line stays,
-- though the load reads a path outside of the cut.
not_short : is_short (codes "//never/x") ≡ false
not_short = refl

stays_outside : keeps_path excluding_them (codes "//never/x") ≡ true
stays_outside = refl
