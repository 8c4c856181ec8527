-- The names of a path, read byte by byte.
use Rattle.std.specs.Prelude.{ℕ, Bool, true, false, ◌&&◌, ◌==◌, List, [], ◌∷◌, if◌then◌else◌}
use Rattle.dump_nodes.specs.declared.canonical_path.Name.{Name}
use Rattle.dump_nodes.specs.declared.canonical_path.Name.TheVariants.{Empty, Dot, Other}

-- the name with one more byte
abbrev pub name_with : Name → ℕ → Name
name_with Empty byte = if byte == 46 then Dot else Other
name_with Dot byte = Other
name_with Other byte = Other

-- whether the name is neither empty nor a dot
abbrev pub is_whole : Name → Bool
is_whole Empty = false
is_whole Dot = false
is_whole Other = true

-- whether this name with the bytes before the first slash, and all names after that, are neither empty nor a dot
abbrev pub are_short_from : Name → List ℕ → Bool
are_short_from name [] = is_whole name
are_short_from name (b ∷ text) =
    if b == 47 then is_whole name && are_short_from Empty text else are_short_from (name_with name b) text
