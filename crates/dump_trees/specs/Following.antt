-- Following copies: the least set of paths that has the given ones, the paths below its members, and the paths to which
-- copies take its members. For included paths it has instead the sources from which its members are copied.
use Rattle.std.specs.Prelude.{◌≡◌, ℕ, List, ◌++◌, Some, is_some, slice_get, Contains, IsTrue}
use Rattle.dump_trees.specs.Paths.{NodePath}
use Rattle.dump_trees.specs.Trees.{Tree}
use Rattle.dump_trees.specs.Changes.{Made, Change}
use Rattle.dump_trees.specs.Returns.{is_covered}

-- copies

-- one of the changes of these revisions copies the source, as it is in this tree, to the path
pub record Copies (trees : List Tree) (revisions : List (List Change)) (path source : NodePath) (old : Tree)
    : Type 0 where
  pub changes : List Change
  pub change : Change
  pub number : ℕ
  pub among : Contains revisions changes
  pub there : Contains changes change
  pub at : change.path ≡ path
  pub copies : change.made ≡ Some (Made.Copied number source)
  pub tree : slice_get trees number ≡ Some old

-- which way copies are followed: from what is excluded to its copies, or from what is included to its sources
pub data Way : Type 0 where
  ToCopies : Way
  ToSources : Way

-- the path from which a copy of this source to this path is followed
abbrev pub from_of : Way → NodePath → NodePath → NodePath
from_of Way.ToCopies path source = source
from_of Way.ToSources path source = path

-- the path to which it is followed
abbrev pub to_of : Way → NodePath → NodePath → NodePath
to_of Way.ToCopies path source = path
to_of Way.ToSources path source = source

-- the path is one that these paths cover
abbrev pub Covers : List NodePath → NodePath → Type 0
Covers tops path = IsTrue (is_covered tops path)

-- the least closed set that has these paths. It has these paths and each path below a member. It also has each path to
-- which a copy is followed from a member, if something exists there at the source
pub data IsInClosure (way : Way) (trees : List Tree) (revisions : List (List Change)) (tops : List NodePath)
    : NodePath → Type 0 where
  Given : (top : NodePath) → Contains tops top → IsInClosure way trees revisions tops top
  Inside : (path rest : NodePath) → IsInClosure way trees revisions tops path
      → IsInClosure way trees revisions tops (path ++ rest)
  Followed : (path source rest : NodePath) (old : Tree) → Copies trees revisions path source old
      → IsTrue (is_some (old (source ++ rest))) → IsInClosure way trees revisions tops (from_of way path source ++ rest)
      → IsInClosure way trees revisions tops (to_of way path source ++ rest)
