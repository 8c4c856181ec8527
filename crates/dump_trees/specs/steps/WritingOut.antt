-- Changes that write a branch out: they make it at a path at which nothing exists, and each of them is separated.
use Rattle.std.specs.Prelude.{◌≡◌, ℕ, false, List, [], ◌∷◌, ◌++◌, Some, None, IsTrue, IsFalse, ◌⊎◌}
use Rattle.dump_text.specs.PropertyList.{Property}
use Rattle.dump_rules.specs.Settings.{Settings}
use Rattle.dump_trees.specs.Paths.{NodePath, keeps}
use Rattle.dump_trees.specs.Trees.{Node, Tree}
use Rattle.dump_trees.specs.Changes.{Made, PropertyChange, TextChange, Change, History, edited_with}
use Rattle.dump_trees.specs.steps.Branches.{Branch, Branches, tree_of, HasBranch}

-- a change that copies, and sets nothing of its own
abbrev pub copy_of : ℕ → NodePath → NodePath → Change
copy_of number source path = record {
  path = path;
  deletes = false;
  made = Some (Made.Copied number source);
  props = None;
  text = None;
}

-- a change that makes a directory with the properties of these entries
abbrev pub directory_of : NodePath → List Property → Change
directory_of path entries = record {
  path = path;
  deletes = false;
  made = Some Made.NewDirectory;
  props = Some (PropertyChange.Replaced entries);
  text = None;
}

-- a change that makes a file with the properties of these entries and this text
abbrev pub file_of : NodePath → List Property → List ℕ → Change
file_of path entries text = record {
  path = path;
  deletes = false;
  made = Some Made.NewFile;
  props = Some (PropertyChange.Replaced entries);
  text = Some (TextChange.Replaced text);
}

-- a branch that may be copied from this source to this path: both are kept, and each node of the branch is kept there
-- exactly if it is kept here
abbrev pub IsCutAlike : Settings → NodePath → NodePath → Branch → Type 0
IsCutAlike settings path source branch =
    IsTrue (keeps settings path) × IsTrue (keeps settings source)
    × ((rest : NodePath) (node : Node) → tree_of branch rest ≡ Some node
    → keeps settings (path ++ rest) ≡ keeps settings (source ++ rest))

-- a branch of which no node is kept at this path
abbrev pub IsLeftOut : Settings → NodePath → Branch → Type 0
IsLeftOut settings path branch =
    (rest : NodePath) (node : Node) → tree_of branch rest ≡ Some node → IsFalse (keeps settings (path ++ rest))

-- these changes are one copy of a place at which the branch exists, and the copy is separated
pub record IsCopied (settings : Settings) (history : History) (path : NodePath) (branch : Branch)
    (changes : List Change) : Type 0 where
  pub number : ℕ
  pub source : NodePath
  pub old : Tree
  pub one : changes ≡ copy_of number source path ∷ []
  pub there : history number ≡ Some old
  pub stands : HasBranch old source branch
  pub apart : IsCutAlike settings path source branch ⊎ IsLeftOut settings path branch

abbrev mutual
  -- these changes write the branch out at the path: they copy it as a whole, or they make its root, with entries that
  -- make exactly its properties, and then write out what is in it
  pub WritesOut : Settings → History → NodePath → Branch → List Change → Type 0
  WritesOut settings history path (Branch.Directory props inside) changes =
      IsCopied settings history path (Branch.Directory props inside) changes
      ⊎ ((entries : List Property) × (rest : List Change) × (changes ≡ directory_of path entries ∷ rest)
      × (edited_with entries [] ≡ props) × WritesInside settings history path inside rest)
  WritesOut settings history path (Branch.File props text) changes =
      IsCopied settings history path (Branch.File props text) changes
      ⊎ ((entries : List Property) × (changes ≡ file_of path entries text ∷ []) × (edited_with entries [] ≡ props))

  -- these changes write the branches out in the directory at the path, one after the other
  pub WritesInside : Settings → History → NodePath → Branches → List Change → Type 0
  WritesInside settings history path Branches.NoMore changes = changes ≡ []
  WritesInside settings history path (Branches.Named name branch others) changes =
      (first : List Change) × (rest : List Change) × (changes ≡ first ++ rest)
      × WritesOut settings history (path ++ name ∷ []) branch first
      × WritesInside settings history path others rest
