-- Each change of a tree that is a branch makes a tree that is a branch.
use Rattle.dump_trees.proofs.Prelude.{◌≡◌, cond, refl, sym, ap, ◌∙◌, subst, append-nil, option_map, IfSome, and_parts, Property, NodePath, below, parent_of, Node, Tree, HasDirectories, at_or_below, grafted, at_top, put, empty_tree, root_alone, Made, PropertyChange, TextChange, Change, History, is_directory_at, has_directory, deleted, node_put, copied, made_in, edited_with, with_entry, new_props, new_text, with_props, with_text, props_put, props_set, text_set, step, steps}
use Rattle.std.proofs.Common.{ℕ, Bool, true, false, ◌&&◌, List, [], ◌∷◌, ◌++◌, Option, Some, None, option_and_then, is_some, is_none}
use Rattle.dump_trees.specs.steps.Branches.{Branch, Branches, tree_of, HasBranch}
use Rattle.dump_trees.specs.steps.ExpansionCases.{branch_with_props}
use Rattle.dump_trees.proofs.changes.TreeLemmas.{below_rest, parent_rest}
use Rattle.dump_trees.proofs.expansions.BranchLemmas.{clear_below}
use Rattle.dump_trees.proofs.expansions.DeletionLemmas.{parent_some}
use Rattle.dump_trees.proofs.expansions.FiniteLemmas.{IsWhole, IsWholeIf, tree_if, branch_directories, Stands, branch_stands, replaced, Holds, replaced_tree, replaced_whole}

-- the tree is that of a branch
pub record IsFinite (tree : Tree) : Type 0 where
  pub branch : Branch
  pub same : tree_of branch ≡ tree
  pub whole : IsWhole branch

-- each tree of the history is the tree of a branch
abbrev pub AllFinite : History → Type 0
AllFinite history = (number : ℕ) (tree : Tree) → history number ≡ Some tree → IsFinite tree

-- each node of it is in directories only
pub finite_directories : (tree : Tree) → IsFinite tree → HasDirectories tree
finite_directories tree f =
    subst (λ t. HasDirectories t) f.same
    (λ top name rest node at. branch_directories f.branch top name rest node at)

-- at each path at which something exists, a branch exists
pub finite_stands : (tree : Tree) → IsFinite tree → (path : NodePath) (node : Node) → tree path ≡ Some node
    → Stands tree path
finite_stands tree f path node =
    subst (λ t. t path ≡ Some node → Stands t path) f.same
    (λ at. branch_stands f.branch path node f.whole.apart f.whole.entries at)

-- a new repository
pub finite_root : IsFinite root_alone
finite_root = record {
  branch = Branch.Directory [] Branches.NoMore;
  same = λ i. λ path. cases path i;
  whole = record { apart = refl; entries = (([], refl), tt) };
}
  where
    cases : (path : NodePath) → tree_of (Branch.Directory [] Branches.NoMore) path ≡ root_alone path
    cases [] = refl
    cases (name ∷ path) = refl

-- something is put in or removed below the root
finite_replaced : (tree : Tree) → IsFinite tree → (name : List ℕ) (rest : NodePath) (new : Option Branch)
    → IsWholeIf new → Holds new tree (name ∷ rest) → IsFinite (grafted (name ∷ rest) (tree_if new) tree)
finite_replaced tree f name rest new whole =
    subst (λ t. Holds new t (name ∷ rest) → IsFinite (grafted (name ∷ rest) (tree_if new) t)) f.same
    (λ holds. let parts = replaced_whole new whole f.branch name rest f.whole.apart f.whole.entries in
    record {
      branch = replaced name rest new f.branch;
      same = λ i. λ path. replaced_tree new f.branch name rest f.whole.apart holds path i;
      whole = record { apart = parts.0; entries = parts.1 };
    })

-- what is below the root is in a directory
stands_directory : (tree : Tree) → HasDirectories tree → (name : List ℕ) (rest : NodePath) (node : Node)
    → tree (name ∷ rest) ≡ Some node → has_directory tree (name ∷ rest) ≡ true
stands_directory tree directories name rest node at = cases (parent_of (name ∷ rest)) refl (parent_some name rest)
  where
    cases : (o : Option NodePath) → parent_of (name ∷ rest) ≡ o → is_some o ≡ true → is_directory_at tree o ≡ true
    cases None is some = some
    cases (Some parent) is some =
        let last = parent_rest (name ∷ rest) parent is in
        directories parent last.0 [] node (ap tree (sym last.1) ∙ at)

-- another branch in place of what exists at a path
finite_changed : (tree : Tree) → IsFinite tree → (top : NodePath) (node : Node) → tree top ≡ Some node → (new : Branch)
    → IsWhole new → IsFinite (grafted top (tree_of new) tree)
finite_changed tree f [] node at new whole = record { branch = new; same = refl; whole = whole }
finite_changed tree f (name ∷ rest) node at new whole =
    finite_replaced tree f name rest (Some new) whole
    (λ some. stands_directory tree (finite_directories tree f) name rest node at)

-- a new branch in a directory
finite_added : (tree : Tree) → IsFinite tree → (top : NodePath) → has_directory tree top ≡ true → (new : Branch)
    → IsWhole new → IsFinite (grafted top (tree_of new) tree)
finite_added tree f [] some new whole = absurd (let bad : false ≡ true = some in cc)
finite_added tree f (name ∷ rest) some new whole =
    finite_replaced tree f name rest (Some new) whole (λ is. some)

-- a node that is put at a path, with what is below it
put_branch : (top : NodePath) (node : Node) (new : Branch) (tree : Tree) → tree_of new [] ≡ Some node
    → ((name : List ℕ) (rest : NodePath) → tree_of new (name ∷ rest) ≡ tree (top ++ name ∷ rest))
    → grafted top (tree_of new) tree ≡ put top node tree
put_branch top node new tree root same = λ i. λ path. cases path (below top path) refl i
  where
    cases : (path : NodePath) (o : Option NodePath) → below top path ≡ o
        → at_or_below o (tree_of new) (tree path) ≡ at_top o node (tree path)
    cases path None at = refl
    cases path (Some []) at = root
    cases path (Some (name ∷ rest)) at = same name rest ∙ ap tree (sym (below_rest top path (name ∷ rest) at))

-- entries after others
edited_append : (entries more props : List Property)
    → edited_with (entries ++ more) props ≡ edited_with more (edited_with entries props)
edited_append [] more props = refl
edited_append (entry ∷ entries) more props =
    edited_append entries more (with_entry entry props)

-- new properties are made by entries
new_entries : (change : PropertyChange) (old : List Property)
    → ((entries : List Property) × (edited_with entries [] ≡ old))
    → (entries : List Property) × (edited_with entries [] ≡ new_props change old)
new_entries (PropertyChange.Replaced entries) old made = (entries, refl)
new_entries (PropertyChange.Edited entries) old made =
    (made.0 ++ entries, edited_append made.0 entries [] ∙ ap (edited_with entries) made.1)

pub whole_props : (props : Option PropertyChange) (branch : Branch) → IsWhole branch
    → IsWhole (branch_with_props props branch)
whole_props None branch is = is
whole_props (Some change) (Branch.Directory props inside) is =
    record { apart = is.apart; entries = (new_entries change props is.entries.0, is.entries.1) }
whole_props (Some change) (Branch.File props text) is =
    record { apart = refl; entries = new_entries change props is.entries }

-- the stages of a change

finite_then : (f : Tree → Option Tree) (o : Option Tree) → IfSome o IsFinite
    → ((tree : Tree) → IsFinite tree → IfSome (f tree) IsFinite) → IfSome (option_and_then f o) IsFinite
finite_then f None first then = tt
finite_then f (Some tree) first then = then tree first

finite_if : (b : Bool) (tree : Tree) → (b ≡ true → IsFinite tree) → IfSome (cond b (Some tree) None) IsFinite
finite_if false tree is = tt
finite_if true tree is = is refl

finite_deleted : (deletes : Bool) (top : NodePath) (tree : Tree) → IsFinite tree
    → IfSome (deleted deletes top tree) IsFinite
finite_deleted false top tree f = f
finite_deleted true [] tree f = tt
finite_deleted true (name ∷ rest) tree f =
    finite_if (is_some (parent_of (name ∷ rest)) && is_some (tree (name ∷ rest)))
    (grafted (name ∷ rest) empty_tree tree)
    (λ both. finite_replaced tree f name rest None tt (λ some. absurd (let bad : false ≡ true = some in cc)))

none_node : (o : Option Node) → is_none o ≡ true → o ≡ None
none_node None is = refl
none_node (Some node) is = absurd (let bad : false ≡ true = is in cc)

finite_new : (node : Node) (new : Branch) → tree_of new [] ≡ Some node
    → ((name : List ℕ) (rest : NodePath) → tree_of new (name ∷ rest) ≡ None) → IsWhole new → (top : NodePath)
    (tree : Tree) → IsFinite tree → IfSome (node_put node top tree) IsFinite
finite_new node new root below_it whole top tree f =
    finite_if (is_none (tree top) && has_directory tree top) (put top node tree) (λ both.
    let parts = and_parts (is_none (tree top)) (has_directory tree top) both in
    subst (λ t. IsFinite t)
    (put_branch top node new tree root
    (λ name rest. below_it name rest
    ∙ sym (clear_below tree (finite_directories tree f) top (none_node (tree top) parts.0) (name ∷ rest))))
    (finite_added tree f top parts.1 new whole))

finite_copied : (source top : NodePath) (tree old : Tree) → IsFinite tree → IsFinite old
    → IfSome (copied source top tree old) IsFinite
finite_copied source top tree old f from =
    finite_if (is_some (old source) && has_directory tree top) (grafted top (λ rest. old (source ++ rest)) tree) (λ both.
    let parts = and_parts (is_some (old source)) (has_directory tree top) both in
    cases (old source) refl parts.0 parts.1)
  where
    cases : (o : Option Node) → old source ≡ o → is_some o ≡ true → has_directory tree top ≡ true
        → IsFinite (grafted top (λ rest. old (source ++ rest)) tree)
    cases None at some there = absurd (let bad : false ≡ true = some in cc)
    cases (Some node) at some there =
        let s = finite_stands old from source node at in
        subst (λ t. IsFinite t) (λ i. grafted top (λ rest. sym (s.has rest) i) tree)
        (finite_added tree f top there s.branch s.whole)

finite_made : (history : History) → AllFinite history → (made : Option Made) (top : NodePath) (tree : Tree)
    → IsFinite tree → IfSome (made_in history made top tree) IsFinite
finite_made history all None top tree f = f
finite_made history all (Some Made.NewDirectory) top tree f =
    finite_new (Node.Directory []) (Branch.Directory [] Branches.NoMore) refl (λ name rest. refl)
    (record { apart = refl; entries = (([], refl), tt) }) top tree f
finite_made history all (Some Made.NewFile) top tree f =
    finite_new (Node.File [] []) (Branch.File [] []) refl (λ name rest. refl)
    (record { apart = refl; entries = ([], refl) }) top tree f
finite_made history all (Some (Made.Copied number source)) top tree f = cases (history number) refl
  where
    cases : (o : Option Tree) → history number ≡ o
        → IfSome (option_and_then (λ old. copied source top tree old) o) IsFinite
    cases None at = tt
    cases (Some old) at = finite_copied source top tree old f (all number old at)

-- the root of a branch with new properties
props_root : (change : PropertyChange) (branch : Branch) (node : Node) → tree_of branch [] ≡ Some node
    → tree_of (branch_with_props (Some change) branch) [] ≡ Some (with_props change node)
props_root change (Branch.Directory props inside) node at =
    let same : Node.Directory props ≡ node = (let both : Some (Node.Directory props) ≡ Some node = at in cc) in
    ap (λ n. Some (with_props change n)) same
props_root change (Branch.File props text) node at =
    let same : Node.File props text ≡ node = (let both : Some (Node.File props text) ≡ Some node = at in cc) in
    ap (λ n. Some (with_props change n)) same

props_below : (change : PropertyChange) (branch : Branch) (name : List ℕ) (rest : NodePath)
    → tree_of (branch_with_props (Some change) branch) (name ∷ rest) ≡ tree_of branch (name ∷ rest)
props_below change (Branch.Directory props inside) name rest = refl
props_below change (Branch.File props text) name rest = refl

-- a branch exists at a path if a node does, and the node is its root
root_node : (tree : Tree) (top : NodePath) (node : Node) → tree top ≡ Some node → (branch : Branch)
    → HasBranch tree top branch → tree_of branch [] ≡ Some node
root_node tree top node at branch has = sym (has []) ∙ (ap tree (append-nil top) ∙ at)

finite_put_props : (change : PropertyChange) (top : NodePath) (tree : Tree) → IsFinite tree
    → IfSome (props_put change top tree) IsFinite
finite_put_props change top tree f = cases (tree top) refl
  where
    cases : (o : Option Node) → tree top ≡ o
        → IfSome (option_map (λ node. put top (with_props change node) tree) o) IsFinite
    cases None at = tt
    cases (Some node) at =
        let s = finite_stands tree f top node at in
        let new = branch_with_props (Some change) s.branch in
        subst (λ t. IsFinite t)
        (put_branch top (with_props change node) new tree
        (props_root change s.branch node (root_node tree top node at s.branch s.has))
        (λ name rest. props_below change s.branch name rest ∙ sym (s.has (name ∷ rest))))
        (finite_changed tree f top node at new (whole_props (Some change) s.branch s.whole))

finite_props : (props : Option PropertyChange) (top : NodePath) (tree : Tree) → IsFinite tree
    → IfSome (props_set props top tree) IsFinite
finite_props None top tree f = f
finite_props (Some (PropertyChange.Replaced entries)) top tree f =
    finite_put_props (PropertyChange.Replaced entries) top tree f
finite_props (Some (PropertyChange.Edited [])) top tree f = f
finite_props (Some (PropertyChange.Edited (entry ∷ entries))) top tree f =
    finite_put_props (PropertyChange.Edited (entry ∷ entries)) top tree f

-- a branch whose root is a file
file_whole : (branch : Branch) (props : List Property) (old text : List ℕ) → tree_of branch [] ≡ Some (Node.File props old)
    → IsWhole branch
    → IsWhole (Branch.File props text)
    × ((name : List ℕ) (rest : NodePath) → tree_of branch (name ∷ rest) ≡ None)
file_whole (Branch.Directory ps inside) props old text at is =
    absurd (let bad : Some (Node.Directory ps) ≡ Some (Node.File props old) = at in cc)
file_whole (Branch.File ps t) props old text at is =
    let same : ps ≡ props = (let both : Some (Node.File ps t) ≡ Some (Node.File props old) = at in cc) in
    (subst (λ qs. IsWhole (Branch.File qs text)) same (record { apart = refl; entries = is.entries }), λ name rest. refl)

finite_text : (text : Option TextChange) (top : NodePath) (tree : Tree) → IsFinite tree
    → IfSome (text_set text top tree) IsFinite
finite_text None top tree f = f
finite_text (Some change) top tree f = cases (tree top) refl
  where
    cases : (o : Option Node) → tree top ≡ o
        → IfSome (option_map (λ node. put top node tree) (option_and_then (λ node. with_text change node) o)) IsFinite
    cases None at = tt
    cases (Some (Node.Directory props)) at = tt
    cases (Some (Node.File props old)) at = by_text (new_text change old)
      where
        by_text : (o : Option (List ℕ))
            → IfSome (option_map (λ node. put top node tree) (option_map (λ t. Node.File props t) o)) IsFinite
        by_text None = tt
        by_text (Some t) =
            let s = finite_stands tree f top (Node.File props old) at in
            let parts = file_whole s.branch props old t (root_node tree top (Node.File props old) at s.branch s.has)
            s.whole in
            subst (λ u. IsFinite u)
            (put_branch top (Node.File props t) (Branch.File props t) tree refl
            (λ name rest. sym (parts.1 name rest) ∙ sym (s.has (name ∷ rest))))
            (finite_changed tree f top (Node.File props old) at (Branch.File props t) parts.0)

-- a change
pub finite_step : (history : History) → AllFinite history → (tree : Tree) → IsFinite tree → (c : Change)
    → IfSome (step history tree c) IsFinite
finite_step history all tree f c =
    finite_then (λ t. text_set c.text c.path t)
    (option_and_then (λ t. props_set c.props c.path t)
    (option_and_then (λ t. made_in history c.made c.path t) (deleted c.deletes c.path tree)))
    (finite_then (λ t. props_set c.props c.path t)
    (option_and_then (λ t. made_in history c.made c.path t) (deleted c.deletes c.path tree))
    (finite_then (λ t. made_in history c.made c.path t) (deleted c.deletes c.path tree)
    (finite_deleted c.deletes c.path tree f) (λ t g. finite_made history all c.made c.path t g))
    (λ t g. finite_props c.props c.path t g))
    (λ t g. finite_text c.text c.path t g)

-- the changes of a revision
pub finite_steps : (history : History) → AllFinite history → (changes : List Change) (tree : Tree) → IsFinite tree
    → IfSome (steps history tree changes) IsFinite
finite_steps history all [] tree f = f
finite_steps history all (c ∷ changes) tree f =
    finite_then (λ t. steps history t changes) (step history tree c) (finite_step history all tree f c)
    (λ t g. finite_steps history all changes t g)
