-- Finite branches of a tree: what exists at a path and below it.
use Rattle.std.specs.Prelude.{◌≡◌, ℕ, Bool, true, false, not, ◌&&◌, ◌||◌, List, [], ◌∷◌, ◌++◌, Option, Some, None, bytes_eq, if◌then◌else◌}
use Rattle.dump_text.specs.PropertyList.{Property}
use Rattle.dump_trees.specs.Paths.{NodePath}
use Rattle.dump_trees.specs.Trees.{Node, Tree}

mutual
  -- a branch: a directory with its properties and what is in it, or a file with its properties and its text
  pub data Branch : Type 0 where
    Directory : (props : List Property) → (inside : Branches) → Branch
    File : (props : List Property) → (text : List ℕ) → Branch

  -- the branches in a directory, each with its name
  pub data Branches : Type 0 where
    NoMore : Branches
    Named : (name : List ℕ) → (branch : Branch) → (others : Branches) → Branches

abbrev mutual
  -- the tree whose root is this branch
  pub tree_of : Branch → NodePath → Option Node
  tree_of (Branch.Directory props inside) [] = Some (Node.Directory props)
  tree_of (Branch.Directory props inside) (name ∷ rest) = found inside name rest None
  tree_of (Branch.File props text) [] = Some (Node.File props text)
  tree_of (Branch.File props text) (name ∷ rest) = None

  -- what exists in a directory of these branches, at the path of this name and this rest; if no branch has the name,
  -- the other node
  pub found : Branches → List ℕ → NodePath → Option Node → Option Node
  found Branches.NoMore name rest other = other
  found (Branches.Named first branch others) name rest other =
      if bytes_eq first name then tree_of branch rest else found others name rest other

-- whether one of the branches has this name
abbrev pub has_name : List ℕ → Branches → Bool
has_name name Branches.NoMore = false
has_name name (Branches.Named first branch others) = bytes_eq first name || has_name name others

abbrev mutual
  -- whether the names in each directory of the branch differ
  pub is_distinct : Branch → Bool
  is_distinct (Branch.Directory props inside) = are_distinct inside
  is_distinct (Branch.File props text) = true

  -- whether the names of these branches differ, and those in each directory of them
  pub are_distinct : Branches → Bool
  are_distinct Branches.NoMore = true
  are_distinct (Branches.Named name branch others) =
      not (has_name name others) && is_distinct branch && are_distinct others

-- this branch exists at the path: it is what exists there and below
abbrev pub HasBranch : Tree → NodePath → Branch → Type 0
HasBranch tree path branch = (rest : NodePath) → tree (path ++ rest) ≡ tree_of branch rest
