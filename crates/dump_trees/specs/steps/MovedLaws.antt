-- A dump that is loaded after other revisions: svnadmin load gives its revisions higher numbers, and raises the numbers
-- of its copies by as much (load-fs-vtable.c). It raises the numbers in mergeinfo too, so it sets new properties. An
-- administrator creates the given directories in such revisions.
use Rattle.std.specs.Prelude.{◌≡◌, ℕ, ◌+◌, List, [], ◌∷◌, ◌++◌, length, Some, slice_get}
use Rattle.dump_text.specs.PropertyList.{Property}
use Rattle.dump_trees.specs.Paths.{NodePath}
use Rattle.dump_trees.specs.Trees.{Tree}
use Rattle.dump_trees.specs.steps.Trees.{HasDirectories}
use Rattle.dump_trees.specs.Changes.{Change}
use Rattle.dump_trees.specs.Restriction.{NewProperty, IsNewNode}
use Rattle.dump_trees.specs.steps.Restriction.{KeepsEntries}
use Rattle.dump_trees.specs.steps.StepLaws.{IsMade}
use Rattle.dump_trees.specs.Revisions.{loaded, loaded_over}
use Rattle.dump_trees.specs.MovedLaws.{AreRevisionsBehind}

-- the same nodes exist in both trees, but for their new properties
abbrev pub AreAlike : NewProperty → Tree → Tree → Type 0
AreAlike IsNew old new = (path : NodePath) → IsNewNode IsNew (old path) (new path)

-- the trees at each number are alike
abbrev pub AllAreAlike : NewProperty → List Tree → List Tree → Type 0
AllAreAlike IsNew trees others = (number : ℕ) (tree : Tree) → slice_get trees number ≡ Some tree →
    (other : Tree) × (slice_get others number ≡ Some other) × AreAlike IsNew tree other

-- after older revisions, the last of which has the first tree, a dump makes the trees that it makes in a new repository
-- whose revision 0 has this tree, but for the new properties
abbrev pub LoadsAlike : NewProperty → Type 0
LoadsAlike IsNew = (older : List Tree) (first : Tree) (revisions moved : List (List Change)) (trees : List Tree) →
    HasDirectories first → AreAlike IsNew first first
    → AreRevisionsBehind IsNew (length older) revisions moved
    → loaded_over first revisions ≡ Some trees
    → (others : List Tree) × (loaded (older ++ first ∷ []) first moved ≡ Some (older ++ others))
    × (length others ≡ length trees) × AllAreAlike IsNew trees others

-- this holds for each way to make new properties that keeps entries
abbrev pub EachLoadsAlike : Type 0
EachLoadsAlike = (make : Property → Property) → KeepsEntries (IsMade make) → LoadsAlike (IsMade make)
