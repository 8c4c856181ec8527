-- The paths that a cut excludes, as texts without a leading slash.
use Rattle.std.specs.Prelude.{◌≡◌, ℕ, Bool, true, false, List, map}
use Rattle.dump_rules.specs.declared.options.Empty.{Empty}
use Rattle.dump_rules.specs.declared.options.Empty.TheVariants.{DropEmptied, Pad}
use Rattle.dump_trees.specs.steps.Following.{IsGrown}
use Rattle.dump_trees.specs.Paths.{NodePath, names_of}

-- the paths that these texts spell
abbrev pub paths_of : List (List ℕ) → List NodePath
paths_of texts = map names_of texts

-- the paths have this one in addition, if it is added; otherwise they are the same
abbrev pub IsGrownIf : List NodePath → NodePath → List NodePath → Bool → Type 0
IsGrownIf old path new true = IsGrown old path new
IsGrownIf old path new false = new ≡ old

-- what becomes of revisions that lose all of their nodes, by whether these are to be dropped
abbrev pub emptied_by : Bool → Empty
emptied_by true = DropEmptied
emptied_by false = Pad
