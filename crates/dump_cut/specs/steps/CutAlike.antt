-- Which paths of a dump one cut excludes and another one doesn't.
use Rattle.std.specs.Prelude.{◌≡◌, ℕ, Bool, not, ◌&&◌, ◌||◌, List, [], ◌++◌, filter}
use Rattle.dump_trees.specs.Paths.{NodePath}
use Rattle.dump_trees.specs.Returns.{is_covered}
use Rattle.dump_index.specs.steps.ExistsEver.{exists_ever}
use Rattle.dump_index.specs.steps.Listed.{Listed}
use Rattle.dump_cut.specs.steps.NamedLines.{AreMergePaths}

-- whether something exists at the path at some time, and the others don't cover it
abbrev pub is_alone : List Listed → (others : List NodePath) → NodePath → Bool
is_alone listed others path = not (is_covered others path) && exists_ever listed path

-- those of the paths of which this is so
abbrev pub covered_alone : List Listed → (others paths : List NodePath) → List NodePath
covered_alone listed others paths = filter (is_alone listed others) paths

-- whether these paths cover the path and the others don't, or the other way round
abbrev pub is_covered_by_one : (paths others : List NodePath) → NodePath → Bool
is_covered_by_one paths others path =
    (is_covered paths path && not (is_covered others path)) || (is_covered others path && not (is_covered paths path))

-- the paths at which two cuts of a dump with these changes differ; one excludes these paths, and one the others. They are each
-- excluded path that the other cut doesn't exclude and at which something exists at some time, and each path that mergeinfo
-- names and one cut excludes alone
pub record AreDifferences (dump : List ℕ) (listed : List Listed) (paths others differences : List NodePath) : Type 0 where
  pub names : List NodePath
  pub are_names : AreMergePaths dump names
  pub are : differences ≡ covered_alone listed others paths
      ++ (covered_alone listed paths others ++ filter (is_covered_by_one paths others) names)

-- they don't differ
abbrev pub AreCutAlike : List ℕ → List Listed → (paths others : List NodePath) → Type 0
AreCutAlike dump listed paths others = AreDifferences dump listed paths others []
