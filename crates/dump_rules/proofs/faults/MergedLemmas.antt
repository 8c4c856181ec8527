-- What values of mergeinfo say together, part by part and line by line.
use Rattle.dump_rules.proofs.Prelude.{◌≡◌, ℕ, List, [], ◌∷◌, refl, sym, ap, ◌∙◌, Some, None, Option, option_and_then, Bounds, Merged, Settings, range_of, range_parts, widened_by, parts_bounds, list_bounds, line_merged, lines_merged}

-- one more part
pub bounds_first : (bounds next : Bounds) (part : List ℕ) (others all : List (List ℕ)) → all ≡ part ∷ others
    → next ≡ widened_by bounds (range_of part) → parts_bounds bounds all ≡ parts_bounds next others
bounds_first bounds next part others all is made =
    ap (parts_bounds bounds) is ∙ ap (λ (b : Bounds). parts_bounds b others) (sym made)

-- one more line
pub lines_first : (settings : Settings) (said next : Merged) (line : List ℕ) (others all : List (List ℕ))
    → all ≡ line ∷ others
    → line_merged settings said line ≡ Some next → lines_merged settings said all ≡ lines_merged settings next others
lines_first settings said next line others all is made = ap (lines_merged settings said) is ∙ rw made refl

-- a text that is no line
pub lines_bad : (settings : Settings) (said : Merged) (line : List ℕ) (others all : List (List ℕ)) → all ≡ line ∷ others
    → line_merged settings said line ≡ None → lines_merged settings said all ≡ None
lines_bad settings said line others all is none = ap (lines_merged settings said) is ∙ rw none refl

-- the last line
pub lines_last : (settings : Settings) (said : Merged) (line : List ℕ)
    → lines_merged settings said (line ∷ []) ≡ line_merged settings said line
lines_last settings said line = last (line_merged settings said line)
  where
    last : (o : Option Merged) → option_and_then (λ next. lines_merged settings next []) o ≡ o
    last None = refl
    last (Some next) = refl

-- a list's bounds are those of its parts
pub list_bounds_is : (bounds : Bounds) (list : List ℕ) → list_bounds bounds list ≡ parts_bounds bounds
    (range_parts list)
list_bounds_is bounds [] = refl
list_bounds_is bounds (b ∷ list) = refl
