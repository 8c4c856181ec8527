-- Whether something exists at a path at some time.
use Rattle.std.specs.Prelude.{◌≡◌, ◌<◌, ℕ, zero, suc, Bool, true, ◌||◌, List, length, map, Some, is_some, IsTrue}
use Rattle.dump_trees.specs.Changes.{Change}
use Rattle.dump_trees.specs.steps.Following.{ExistsOnce}
use Rattle.dump_trees.specs.steps.Looking.{placed_from}
use Rattle.dump_trees.specs.Paths.{NodePath}
use Rattle.dump_trees.specs.Revisions.{loaded_over}
use Rattle.dump_trees.specs.Trees.{Tree, root_alone}
use Rattle.dump_index.specs.steps.InOrder.{are_in_order}
use Rattle.dump_index.specs.steps.IndexLaws.{AreListed}
use Rattle.dump_index.specs.steps.Kinds.{kind_look}
use Rattle.dump_index.specs.steps.Listed.{Listed, listed_of}
use Rattle.dump_index.specs.declared.change.NodeChange.{NodeChange}

-- whether something exists at the path after this number of changes, or after fewer of them
abbrev pub exists_within : List Listed → ℕ → NodePath → Bool
exists_within listed zero path = is_some (kind_look listed zero path)
exists_within listed (suc count) path = is_some (kind_look listed (suc count) path) || exists_within listed count path

-- whether something exists at the path at some time
abbrev pub exists_ever : List Listed → NodePath → Bool
exists_ever listed path = exists_within listed (length listed) path

-- If a dump loads, and something exists at the path after some of its changes, an index finds that something exists
-- there at some time. If the dump has a revision, the reverse is true too. A dump without revisions has no changes,
-- but an index finds the root.
abbrev pub ExistingIsFound : Type 0
ExistingIsFound = (changes : List NodeChange) (revisions : List (List Change)) (trees : List Tree) (path : NodePath) →
    IsTrue (are_in_order 0 changes) → AreListed changes (placed_from 1 revisions)
    → loaded_over root_alone revisions ≡ Some trees
    → (ExistsOnce revisions path → exists_ever (map listed_of changes) path ≡ true)
    × (0 < length revisions → exists_ever (map listed_of changes) path ≡ true → ExistsOnce revisions path)
