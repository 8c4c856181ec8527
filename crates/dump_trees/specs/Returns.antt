-- Returns: rests of a copy's path at which something comes back; all that comes back is at or below one. They are
-- determined by the excluded paths, and by what exists at the source.
use Rattle.std.specs.Prelude.{Bool, List}
use Rattle.std.specs.List.{list_any}
use Rattle.dump_trees.specs.Paths.{NodePath}
use Rattle.dump_trees.specs.Siblings.{is_within}

-- paths that cover others

-- whether one of these paths is at or above the path
abbrev pub is_covered : List NodePath → NodePath → Bool
is_covered tops path = list_any (λ top. is_within top path) tops
