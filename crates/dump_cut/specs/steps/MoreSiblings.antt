-- Siblings that are added to others.
use Rattle.std.specs.Prelude.{ℕ, List, [], ◌∷◌, ◌++◌, IsTrue}
use Rattle.std.specs.List.{list_all}
use Rattle.dump_trees.specs.Paths.{NodePath}
use Rattle.dump_trees.specs.Returns.{is_covered}
use Rattle.dump_trees.specs.steps.Siblings.{is_sibling}
use Rattle.dump_index.specs.steps.Listed.{Listed}
use Rattle.dump_index.specs.steps.NamesEver.{CanStandOnce}

-- the new ones are siblings if the old ones are, and cover what the old ones cover
pub record AreMore (included old new : List NodePath) : Type 0 where
  pub each : IsTrue (list_all (is_sibling included) old) → IsTrue (list_all (is_sibling included) new)
  pub kept : (path : NodePath) → IsTrue (is_covered old path) → IsTrue (is_covered new path)

-- they cover each sibling in the directory whose name can exist there in some revision
abbrev pub CoversSiblingsIn : List Listed → List NodePath → NodePath → List NodePath → Type 0
CoversSiblingsIn listed included directory siblings = (name : List ℕ) → CanStandOnce listed directory name
    → IsTrue (is_sibling included (directory ++ name ∷ [])) → IsTrue (is_covered siblings (directory ++ name ∷ []))
