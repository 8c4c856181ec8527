-- Lines of mergeinfo in a cut: a line is kept if its path is in the cut, whether something exists there or not.
use Rattle.std.specs.Prelude.{◌≡◌, Bool, List, Contains, IsTrue}
use Rattle.dump_rules.specs.Mergeinfo.{MergeLine}
use Rattle.dump_rules.specs.Settings.{Settings, keeps_path}
use Rattle.dump_trees.specs.Paths.{NodePath, is_short}
use Rattle.dump_trees.specs.steps.Siblings.{is_in_cut, ExcludesPaths, CoverNamed}
use Rattle.dump_trees.specs.CanonicalPaths.{canonical_path}

-- one line

-- whether the path of the line, as the load reads it, is in the cut
abbrev pub has_line_in_cut : List NodePath → MergeLine → Bool
has_line_in_cut included line = is_in_cut included (canonical_path line.path)

-- the path of the line is canonical, as svnadmin writes it, and is one of the named paths
abbrev pub IsNamedLine : List NodePath → MergeLine → Type 0
IsNamedLine named line = IsTrue (is_short line.path) × Contains named (canonical_path line.path)

-- if siblings that cover the named paths are excluded, such a line is kept exactly if it is in the cut
abbrev pub NamedLineStays : Type 0
NamedLineStays = (settings : Settings) (included named siblings : List NodePath) (line : MergeLine) →
    ExcludesPaths settings siblings → CoverNamed included named siblings → IsNamedLine named line
    → keeps_path settings line.path ≡ has_line_in_cut included line
