-- Whether a load accepts a change: this is determined by what exists at its path, at its parent and at its copy's
-- source, and for a text delta also by the old text. So whether a dump loads, and which change is rejected first, can
-- be found without trees.
use Rattle.std.specs.Prelude.{Bool, true, false, [], ◌∷◌, Option, Some, None, if◌then◌else◌}
use Rattle.dump_trees.specs.Changes.{PropertyChange}

-- whether properties are set; an edit without entries sets none, and a load accepts it even if nothing exists
abbrev pub sets_props : Option PropertyChange → Bool
sets_props None = false
sets_props (Some (PropertyChange.Replaced entries)) = true
sets_props (Some (PropertyChange.Edited [])) = false
sets_props (Some (PropertyChange.Edited (entry ∷ entries))) = true
