-- Which changes touch a path, as determined by texts.
use Rattle.std.specs.Prelude.{ℕ, suc, Bool, drop, ◌&&◌, ◌||◌, List, [], ◌∷◌, ◌++◌, length, Option, Some, None, slice_get, bytes_eq, nat_lt, max}
use Rattle.dump_index.specs.steps.Listed.{Listed}
pub use Rattle.dump_index.specs.steps.Effects.{goes_on, stands_over, moves_there, moves_above, shapes}
use Rattle.dump_index.specs.declared.order.Effect.TheVariants.{Shaping, Props, Texts}
use Rattle.dump_index.specs.steps.Keys.{has_effect_at}

-- the same as `stands_over`, but only for the root and for tops with fewer bytes than this
abbrev pub stands_over_within : ℕ → List ℕ → List ℕ → Bool
stands_over_within bound path top = bytes_eq top [] || (goes_on top path && nat_lt (length top) bound)

-- the same as `moves_above`, but only for the root and for tops with fewer bytes than this
abbrev pub moves_within : ℕ → List Listed → List ℕ → ℕ → Bool
moves_within bound listed path place = moves_there (stands_over_within bound path) (slice_get listed place)

-- whether the change at this place touches the path
abbrev pub touches_at : List Listed → List ℕ → ℕ → Bool
touches_at listed path place =
    (has_effect_at Shaping listed path place
    || (has_effect_at Props listed path place || has_effect_at Texts listed path place))
    || moves_above listed path place

-- the later of two places
abbrev pub later : Option ℕ → Option ℕ → Option ℕ
later None other = other
later (Some place) None = Some place
later (Some place) (Some other) = Some (max place other)

-- the text that follows a top and a slash in the path; if the top is the root, the whole path
abbrev pub rest_text : List ℕ → List ℕ → List ℕ
rest_text [] path = path
rest_text (b ∷ top) path = drop (suc (length (b ∷ top))) path

-- the text of a path and a rest below it, with a slash between them if neither is empty
abbrev pub joined_text : List ℕ → List ℕ → List ℕ
joined_text top [] = top
joined_text [] (b ∷ rest) = b ∷ rest
joined_text (b ∷ top) (c ∷ rest) = (b ∷ top) ++ 47 ∷ c ∷ rest
