-- What exists at a path of a tree in which a branch was put, and changes that write a branch out.
use Rattle.dump_trees.proofs.Prelude.{◌≡◌, cond, bytes_eq, ◌||◌, refl, ap, ◌∙◌, subst, append-nil, option_map, both_ways, bytes_eq-Decides, Property, NodePath, below, parent_of, Node, Tree, HasDirectories, is_directory_node, at_or_below, grafted, at_top, put, is_directory_at, has_directory}
use Rattle.std.proofs.Common.{ℕ, Bool, true, false, List, [], ◌∷◌, ◌++◌, Option, Some, None, option_and_then}
use Rattle.dump_trees.specs.steps.Branches.{Branch, Branches, tree_of, found, has_name}
use Rattle.dump_trees.proofs.changes.TreeLemmas.{below_rest, below_top, parent_rest}
use Rattle.dump_trees.proofs.changes.PlainLemmas.{at_twice}

-- paths

-- the rest of a path after two tops
pub below_joined : (top more path : NodePath)
    → below (top ++ more) path ≡ option_and_then (λ rest. below more rest) (below top path)
below_joined [] more path = refl
below_joined (name ∷ top) more [] = refl
below_joined (name ∷ top) more (other ∷ path) = cases (below_joined top more path) (bytes_eq name other)
  where
    cases : below (top ++ more) path ≡ option_and_then (λ rest. below more rest) (below top path) → (b : Bool)
        → cond b (below (top ++ more) path) None
        ≡ option_and_then (λ rest. below more rest) (cond b (below top path) None)
    cases further true = further
    cases further false = refl

-- a path in a directory has the directory as its parent
pub parent_child : (path : NodePath) (name : List ℕ) → parent_of (path ++ name ∷ []) ≡ Some path
parent_child [] name = refl
parent_child (first ∷ []) name = refl
parent_child (first ∷ second ∷ path) name =
    ap (λ o. option_map (λ p. first ∷ p) o) (parent_child (second ∷ path) name)

-- the parent of a path isn't at or below it
pub parent_apart : (path parent : NodePath) → parent_of path ≡ Some parent → below path parent ≡ None
parent_apart path parent is =
    let rest = parent_rest path parent is in
    ap (λ p. below p parent) rest.1
    ∙ (below_joined parent (rest.0 ∷ []) parent
    ∙ ap (option_and_then (λ more. below (rest.0 ∷ []) more)) (below_top parent))

-- a directory isn't at or below a path in it
pub child_apart : (path : NodePath) (name : List ℕ) → below (path ++ name ∷ []) path ≡ None
child_apart path name = parent_apart (path ++ name ∷ []) path (parent_child path name)

-- trees

-- nothing differs outside of the path
abbrev pub IsSameOutside : NodePath → Tree → Tree → Type 0
IsSameOutside top before after = (path : NodePath) → below top path ≡ None → after path ≡ before path

pub graft_outside : (top : NodePath) (new old : Tree) → IsSameOutside top old (grafted top new old)
graft_outside top new old path apart = ap (λ o. at_or_below o new (old path)) apart

-- of two nodes that are put at a path, the later one exists there
pub put_twice : (top : NodePath) (n m : Node) (tree : Tree) → put top n (put top m tree) ≡ put top n tree
put_twice top n m tree = λ i. λ path. at_twice (below top path) n m (tree path) i

-- outside of the path its directory is the same as before
pub same_directory : (top : NodePath) (before after : Tree) → IsSameOutside top before after
    → has_directory after top ≡ has_directory before top
same_directory top before after same = cases (parent_of top) refl
  where
    cases : (o : Option NodePath) → parent_of top ≡ o → is_directory_at after o ≡ is_directory_at before o
    cases None at = refl
    cases (Some parent) at = ap is_directory_node (same parent (parent_apart top parent at))

-- a path in a directory is in one
pub child_directory : (tree : Tree) (path : NodePath) (name : List ℕ) → is_directory_node (tree path) ≡ true
    → has_directory tree (path ++ name ∷ []) ≡ true
child_directory tree path name is = ap (λ o. is_directory_at tree o) (parent_child path name) ∙ is

-- nothing exists at the path or below it
abbrev pub IsClear : Tree → NodePath → Type 0
IsClear tree path = (rest : NodePath) → tree (path ++ rest) ≡ None

-- if nothing exists at a path, nothing exists below it
pub clear_below : (tree : Tree) → HasDirectories tree → (path : NodePath) → tree path ≡ None → IsClear tree path
clear_below tree directories path none [] = ap tree (append-nil path) ∙ none
clear_below tree directories path none (name ∷ rest) = cases (tree (path ++ name ∷ rest)) refl
  where
    cases : (o : Option Node) → tree (path ++ name ∷ rest) ≡ o → o ≡ None
    cases None at = refl
    cases (Some node) at =
        absurd (both_ways (is_directory_node (tree path)) (ap is_directory_node none) (directories path name rest node at))

-- the root of a branch exists
pub root_stands : (branch : Branch) → (node : Node) × (tree_of branch [] ≡ Some node)
root_stands (Branch.Directory props inside) = (Node.Directory props, refl)
root_stands (Branch.File props text) = (Node.File props text, refl)

-- the tree that has the branches in a directory

abbrev pub laid_at : Option NodePath → Branches → Option Node → Option Node
laid_at None branches old = old
laid_at (Some []) branches old = old
laid_at (Some (name ∷ rest)) branches old = found branches name rest old

-- the tree with these branches in a directory
abbrev pub laid : NodePath → Branches → Tree → Tree
laid path branches tree = λ p. laid_at (below path p) branches (tree p)

-- a name that no branch has
pub not_found : (branches : Branches) (name : List ℕ) (rest : NodePath) (other : Option Node)
    → has_name name branches ≡ false → found branches name rest other ≡ other
not_found Branches.NoMore name rest other none = refl
not_found (Branches.Named first branch others) name rest other none =
    cases (not_found others name rest other) (bytes_eq first name) none
  where
    cases : (has_name name others ≡ false → found others name rest other ≡ other) → (b : Bool)
        → (b || has_name name others) ≡ false
        → cond b (tree_of branch rest) (found others name rest other) ≡ other
    cases further true none = absurd (let bad : true ≡ false = none in cc)
    cases further false none = further none

-- no branches
pub laid_none : (path : NodePath) (tree : Tree) → laid path Branches.NoMore tree ≡ tree
laid_none path tree = λ i. λ p. cases (below path p) (tree p) i
  where
    cases : (o : Option NodePath) (old : Option Node) → laid_at o Branches.NoMore old ≡ old
    cases None old = refl
    cases (Some []) old = refl
    cases (Some (name ∷ rest)) old = refl

-- one branch, and the others after it
pub laid_first : (path : NodePath) (name : List ℕ) (branch : Branch) (others : Branches) (tree : Tree)
    → has_name name others ≡ false
    → laid path others (grafted (path ++ name ∷ []) (tree_of branch) tree)
    ≡ laid path (Branches.Named name branch others) tree
laid_first path name branch others tree none = λ i. λ p.
    (ap (λ o. laid_at (below path p) others (at_or_below o (tree_of branch) (tree p)))
    (below_joined path (name ∷ []) p)
    ∙ cases (below path p) (tree p)) i
  where
    cases : (o : Option NodePath) (old : Option Node)
        → laid_at o others (at_or_below (option_and_then (λ rest. below (name ∷ []) rest) o) (tree_of branch) old)
        ≡ laid_at o (Branches.Named name branch others) old
    cases None old = refl
    cases (Some []) old = refl
    cases (Some (other ∷ rest)) old = sides (bytes_eq name other) refl
      where
        sides : (b : Bool) → bytes_eq name other ≡ b
            → found others other rest (at_or_below (cond b (Some rest) None) (tree_of branch) old)
            ≡ cond b (tree_of branch rest) (found others other rest old)
        sides true same =
            not_found others other rest (tree_of branch rest)
            (subst (λ n. has_name n others ≡ false) ((bytes_eq-Decides name other).0 same) none)
        sides false apart = refl

-- a directory with its branches, if nothing existed there
pub laid_directory : (path : NodePath) (props : List Property) (inside : Branches) (tree : Tree) → IsClear tree path
    → laid path inside (put path (Node.Directory props) tree) ≡ grafted path (tree_of (Branch.Directory props inside)) tree
laid_directory path props inside tree clear = λ i. λ p. cases p (below path p) refl i
  where
    cases : (p : NodePath) (o : Option NodePath) → below path p ≡ o
        → laid_at o inside (at_top o (Node.Directory props) (tree p))
        ≡ at_or_below o (tree_of (Branch.Directory props inside)) (tree p)
    cases p None at = refl
    cases p (Some []) at = refl
    cases p (Some (name ∷ rest)) at =
        ap (λ other. found inside name rest other)
        (ap tree (below_rest path p (name ∷ rest) at) ∙ clear (name ∷ rest))

pub file_grafted : (path : NodePath) (props : List Property) (text : List ℕ) (tree : Tree) → IsClear tree path
    → put path (Node.File props text) tree ≡ grafted path (tree_of (Branch.File props text)) tree
file_grafted path props text tree clear = λ i. λ p. cases p (below path p) refl i
  where
    cases : (p : NodePath) (o : Option NodePath) → below path p ≡ o
        → at_top o (Node.File props text) (tree p) ≡ at_or_below o (tree_of (Branch.File props text)) (tree p)
    cases p None at = refl
    cases p (Some []) at = refl
    cases p (Some (name ∷ rest)) at = ap tree (below_rest path p (name ∷ rest) at) ∙ clear (name ∷ rest)
