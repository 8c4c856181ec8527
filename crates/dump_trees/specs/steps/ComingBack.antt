-- Copies by which something excluded comes back: its path at the source isn't kept, and the path that it is copied to
-- is kept.
use Rattle.std.specs.Prelude.{◌≡◌, ℕ, List, ◌++◌, Some, is_some, slice_get, IsTrue, IsFalse}
use Rattle.std.specs.List.{All}
use Rattle.dump_text.specs.PropertyList.{Property}
use Rattle.dump_rules.specs.Settings.{Settings}
use Rattle.dump_trees.specs.Paths.{NodePath, keeps}
use Rattle.dump_trees.specs.Trees.{Node, Tree}
use Rattle.dump_trees.specs.Changes.{Made, Change, History}

-- the change is a copy by which something comes back, at this rest of its path; if prefixes are excluded, the change is
-- kept too
pub record ComesBack (settings : Settings) (history : History) (c : Change) : Type 0 where
  pub number : ℕ
  pub source : NodePath
  pub old : Tree
  pub rest : NodePath
  pub copies : c.made ≡ Some (Made.Copied number source)
  pub there : history number ≡ Some old
  pub stands : IsTrue (is_some (old (source ++ rest)))
  pub kept : IsTrue (keeps settings (c.path ++ rest))
  pub left : IsFalse (keeps settings (source ++ rest))

-- nothing comes back by any of these changes
abbrev pub NoneComesBack : Settings → History → List Change → Type 0
NoneComesBack settings history changes = All (λ c. ¬ ComesBack settings history c) changes

-- nothing comes back by any change of these revisions, which copy from these trees
abbrev pub NothingComesBack : Settings → List Tree → List (List Change) → Type 0
NothingComesBack settings trees revisions =
    All (λ changes. NoneComesBack settings (slice_get trees) changes) revisions

-- the properties of a node
abbrev pub properties_of : Node → List Property
properties_of (Node.Directory props) = props
properties_of (Node.File props text) = props
