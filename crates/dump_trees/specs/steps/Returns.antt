-- Returns: rests of a copy's path at which something comes back; all that comes back is at or below one. They are
-- determined by the excluded paths, and by what exists at the source.
use Rattle.std.specs.Prelude.{◌≡◌, ℕ, Bool, true, not, ◌&&◌, List, [], ◌∷◌, ◌++◌, filter, Option, Some, None, is_some, Contains, if◌then◌else◌, IsTrue}
use Rattle.std.specs.List.{list_all}
use Rattle.dump_rules.specs.Settings.{Settings}
use Rattle.dump_trees.specs.Paths.{NodePath, below}
use Rattle.dump_trees.specs.Trees.{Tree}
use Rattle.dump_trees.specs.steps.Trees.{HasDirectories}
use Rattle.dump_trees.specs.Changes.{Made, Change, History}
use Rattle.dump_trees.specs.Siblings.{is_within, has_node_names}
use Rattle.dump_trees.specs.steps.Siblings.{HasNames, ExcludesPaths}
use Rattle.dump_trees.specs.steps.ComingBack.{ComesBack}
use Rattle.dump_trees.specs.Returns.{is_covered}

-- whether none of these paths is at or below another one
abbrev pub lie_apart : List NodePath → Bool
lie_apart [] = true
lie_apart (path ∷ paths) =
    list_all (λ other. not (is_within path other) && not (is_within other path)) paths && lie_apart paths

-- the rest, if there is one and it isn't empty
abbrev pub named_rest : Option NodePath → List NodePath
named_rest None = []
named_rest (Some []) = []
named_rest (Some (name ∷ rest)) = (name ∷ rest) ∷ []

-- the rests of those of these paths that are strictly below the top
abbrev pub rests_below : NodePath → List NodePath → List NodePath
rests_below top [] = []
rests_below top (path ∷ paths) = named_rest (below top path) ++ rests_below top paths

-- the rests of the top at which these paths cover something: the empty rest, if they cover the top itself; otherwise
-- the rests of those below it
abbrev pub rests_covered : NodePath → List NodePath → List NodePath
rests_covered top paths = if is_covered paths top then [] ∷ [] else rests_below top paths

-- the rests at which a copy of the source to the path returns what is excluded. In the source's tree something exists
-- at this rest of the source, and this rest of the path isn't excluded
abbrev pub returns : List NodePath → Tree → NodePath → NodePath → List NodePath
returns excluded old path source =
    filter (λ rest. is_some (old (source ++ rest)) && not (is_covered excluded (path ++ rest)))
    (rests_covered source excluded)

-- the change copies the source, and these paths are excluded. The tree is that of the copy's revision, and has
-- directories and names as each tree of a repository has
pub record IsCopyOver (settings : Settings) (excluded : List NodePath) (history : History) (old : Tree) (c : Change)
    (source : NodePath) : Type 0 where
  pub number : ℕ
  pub excludes : ExcludesPaths settings excluded
  pub names : IsTrue (list_all has_node_names excluded)
  pub copies : c.made ≡ Some (Made.Copied number source)
  pub there : history number ≡ Some old
  pub directories : HasDirectories old
  pub named : HasNames old
  pub path : IsTrue (has_node_names c.path)

-- what comes back is at a return or below one, and at each return something comes back. So nothing comes back exactly
-- if there is no return
abbrev pub ReturnsTellAll : Type 0
ReturnsTellAll = (settings : Settings) (excluded : List NodePath) (history : History) (old : Tree) (c : Change)
    (source : NodePath) → IsCopyOver settings excluded history old c source
    → ((back : ComesBack settings history c) → (rest : NodePath)
    × Contains (returns excluded old c.path source) rest × IsTrue (is_within rest back.rest))
    × ((rest : NodePath) → Contains (returns excluded old c.path source) rest
    → (back : ComesBack settings history c) × (back.rest ≡ rest))
    × (returns excluded old c.path source ≡ [] → ¬ ComesBack settings history c)
    × (¬ ComesBack settings history c → returns excluded old c.path source ≡ [])
