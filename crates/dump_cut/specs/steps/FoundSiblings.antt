-- The siblings of included paths, as they are found in an index.
use Rattle.std.specs.Prelude.{◌∷◌, [], ◌++◌, List, Contains, IsTrue, ℕ, map}
use Rattle.std.specs.List.{list_all}
use Rattle.dump_trees.specs.Changes.{Change}
use Rattle.dump_trees.specs.steps.EverSiblings.{AreEverSiblings}
use Rattle.dump_trees.specs.steps.Looking.{placed_from}
use Rattle.dump_trees.specs.Paths.{NodePath}
use Rattle.dump_trees.specs.steps.Siblings.{is_above_included, is_sibling}
use Rattle.dump_index.specs.steps.IndexLaws.{AreListed}
use Rattle.dump_index.specs.steps.Listed.{Listed, listed_of}
use Rattle.dump_index.specs.steps.NamesEver.{CanStandOnce}
use Rattle.dump_index.specs.declared.change.NodeChange.{NodeChange}

-- these are siblings, and each sibling whose name can exist in its directory at some time is one of them
pub record AreFoundSiblings (listed : List Listed) (included siblings : List NodePath) : Type 0 where
  pub each : IsTrue (list_all (is_sibling included) siblings)
  pub all : (path : NodePath) (name : List ℕ) → IsTrue (is_above_included included path)
      → CanStandOnce listed path name → IsTrue (is_sibling included (path ++ name ∷ []))
      → Contains siblings (path ++ name ∷ [])

-- then each sibling at which something exists after some of the changes is one of them
abbrev pub FoundSiblingsAreAll : Type 0
FoundSiblingsAreAll = (changes : List NodeChange) (included siblings : List NodePath) (revisions : List (List Change)) →
    AreListed changes (placed_from 1 revisions) → AreFoundSiblings (map listed_of changes) included siblings
    → AreEverSiblings included revisions siblings
