-- Dumps of which a part is taken: from the bytes of a dump through its expanded form to what is filtered of it, by
-- excluded prefixes. What is written loads into a new repository, since above kept paths nothing has to be made.
use Rattle.std.specs.Prelude.{◌≡◌, ℕ, List, Option, Some, slice_get}
use Rattle.dump_trees.specs.Trees.{Tree}

-- a relation of the dump's trees to those of what is written
abbrev pub TreeRelation : Type 1
TreeRelation = Tree → Tree → Type 0

-- the tree at the image of each number has this relation to the tree there
abbrev pub ImagesRelate : TreeRelation → (ℕ → Option ℕ) → List Tree → List Tree → Type 0
ImagesRelate Relates image_of trees others = (number : ℕ) (tree : Tree) → slice_get trees number ≡ Some tree →
    (new : ℕ) × (other : Tree) × (image_of number ≡ Some new) × (slice_get others new ≡ Some other)
    × Relates tree other
