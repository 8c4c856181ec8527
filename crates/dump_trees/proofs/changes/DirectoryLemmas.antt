-- Each node but the root is in directories only; each change keeps this true.
use Rattle.dump_trees.proofs.Prelude.{◌≡◌, option_map, cond, bytes_eq, refl, sym, ap, ◌∙◌, append-nil, append_assoc, IfSome, both_ways, and_parts, bytes_eq-Decides, NodePath, below, parent_of, Node, Tree, HasDirectories, is_directory_node, at_or_below, grafted, at_top, put, empty_tree, Made, PropertyChange, TextChange, Change, History, is_directory_at, has_directory, deleted, node_put, copied, made_in, new_props, with_props, new_text, with_text, props_put, props_set, text_set, step, AllHaveDirectories}
use Rattle.std.proofs.Common.{ℕ, Bool, true, false, ◌&&◌, List, [], ◌∷◌, ◌++◌, Option, Some, None, option_and_then, is_some, is_none}
use Rattle.dump_trees.proofs.changes.TreeLemmas.{below_rest, below_found}

-- paths

-- the names of a path but the last
abbrev pub front : List ℕ → NodePath → NodePath
front name [] = []
front name (other ∷ path) = name ∷ front other path

parent_is_front : (name : List ℕ) (path : NodePath) → parent_of (name ∷ path) ≡ Some (front name path)
parent_is_front name [] = refl
parent_is_front name (other ∷ path) = ap (λ o. option_map (λ p. name ∷ p) o) (parent_is_front other path)

pub parent_behind : (top : NodePath) (name : List ℕ) (path : NodePath)
    → parent_of (top ++ name ∷ path) ≡ Some (top ++ front name path)
parent_behind [] name path = parent_is_front name path
parent_behind (first ∷ []) name path = ap (λ o. option_map (λ p. first ∷ p) o) (parent_is_front name path)
parent_behind (first ∷ second ∷ top) name path =
    ap (λ o. option_map (λ p. first ∷ p) o) (parent_behind (second ∷ top) name path)

-- a path that isn't at or below the top, but is above a path that is, is above the top
above_top : (top path more rest : NodePath) → below top path ≡ None → below top (path ++ more) ≡ Some rest
    → (name : List ℕ) × (behind : NodePath) × (top ≡ path ++ name ∷ behind)
above_top [] path more rest no_rest is = absurd (let bad : Some path ≡ None = no_rest in cc)
above_top (name ∷ top) [] more rest no_rest is = (name, top, refl)
above_top (name ∷ top) (other ∷ path) more rest no_rest is =
    cases (above_top top path more rest) (bytes_eq name other) refl no_rest is
  where
    cases : (below top path ≡ None → below top (path ++ more) ≡ Some rest
        → (last : List ℕ) × (behind : NodePath) × (top ≡ path ++ last ∷ behind))
        → (b : Bool) → bytes_eq name other ≡ b → cond b (below top path) None ≡ None
        → cond b (below top (path ++ more)) None ≡ Some rest
        → (last : List ℕ) × (behind : NodePath) × (name ∷ top ≡ other ∷ (path ++ last ∷ behind))
    cases further false apart gone found = absurd (let bad : None ≡ Some rest = found in cc)
    cases further true same gone found =
        let one : name ≡ other = (bytes_eq-Decides name other).0 same in
        let two = further gone found in
        (two.0, two.1, ap (λ p. name ∷ p) two.2 ∙ ap (λ n. n ∷ (path ++ two.0 ∷ two.1)) one)

below_further : (top rest more : NodePath) → below top ((top ++ rest) ++ more) ≡ Some (rest ++ more)
below_further top rest more =
    ap (λ p. below top p) (append_assoc top rest more) ∙ below_found top (rest ++ more)

-- trees

-- each path above the top is a directory
abbrev AboveAreDirectories : Tree → NodePath → Type 0
AboveAreDirectories tree top = (path : NodePath) (name : List ℕ) (behind : NodePath) →
    top ≡ path ++ name ∷ behind → is_directory_node (tree path) ≡ true

directory_stands : (o : Option Node) → is_directory_node o ≡ true → (node : Node) × (o ≡ Some node)
directory_stands None is = absurd (let bad : false ≡ true = is in cc)
directory_stands (Some node) is = (node, refl)

-- a node is in directories only
above_node : (tree : Tree) → HasDirectories tree → (top : NodePath) (node : Node) → tree top ≡ Some node
    → AboveAreDirectories tree top
above_node tree directories top node at path name behind is =
    directories path name behind node (ap tree (sym is) ∙ at)

-- a path in a directory is in directories only
above_directory : (tree : Tree) → HasDirectories tree → (top : NodePath) → has_directory tree top ≡ true
    → AboveAreDirectories tree top
above_directory tree directories top some path name behind is = cases name behind (parent_is name behind is)
  where
    parent_is : (name : List ℕ) (behind : NodePath) → top ≡ path ++ name ∷ behind
        → is_directory_node (tree (path ++ front name behind)) ≡ true
    parent_is name behind at =
        ap (λ o. is_directory_at tree o) (sym (ap parent_of at ∙ parent_behind path name behind)) ∙ some

    cases : (name : List ℕ) (behind : NodePath) → is_directory_node (tree (path ++ front name behind)) ≡ true
        → is_directory_node (tree path) ≡ true
    cases name [] parent = ap (λ p. is_directory_node (tree p)) (sym (append-nil path)) ∙ parent
    cases name (other ∷ behind) parent =
        let there = directory_stands (tree (path ++ name ∷ front other behind)) parent in
        directories path name (front other behind) there.0 there.1

graft_directories : (top : NodePath) (new old : Tree) → HasDirectories old → AboveAreDirectories old top → HasDirectories new
    → HasDirectories (grafted top new old)
graft_directories top new old directories above inner path name rest node =
    cases (below top path) refl (below top (path ++ name ∷ rest)) refl
  where
    cases : (o : Option NodePath) → below top path ≡ o → (q : Option NodePath) → below top (path ++ name ∷ rest) ≡ q
        → at_or_below q new (old (path ++ name ∷ rest)) ≡ Some node → is_directory_node (at_or_below o new (old path)) ≡ true
    cases None at None behind some = directories path name rest node some
    cases None at (Some more) behind some =
        let high = above_top top path (name ∷ rest) more at behind in above path high.0 high.1 high.2
    cases (Some more) at q behind some =
        let both : q ≡ Some (more ++ name ∷ rest) = sym behind
        ∙ (ap (λ p. below top (p ++ name ∷ rest)) (below_rest top path more at)
        ∙ below_further top more (name ∷ rest)) in
        inner more name rest node (ap (λ o. at_or_below o new (old (path ++ name ∷ rest))) (sym both) ∙ some)

put_directories : (top : NodePath) (n : Node) (old : Tree) → HasDirectories old → AboveAreDirectories old top
    → ((name : List ℕ) (rest : NodePath) (node : Node) → old (top ++ name ∷ rest) ≡ Some node
    → is_directory_node (Some n) ≡ true)
    → HasDirectories (put top n old)
put_directories top n old directories above under path name rest node =
    cases (below top path) refl (below top (path ++ name ∷ rest)) refl
  where
    further : (more : NodePath) → below top path ≡ Some more → (q : Option NodePath)
        → below top (path ++ name ∷ rest) ≡ q
        → q ≡ Some (more ++ name ∷ rest)
    further more at q behind = sym behind
        ∙ (ap (λ p. below top (p ++ name ∷ rest)) (below_rest top path more at) ∙ below_further top more (name ∷ rest))

    cases : (o : Option NodePath) → below top path ≡ o → (q : Option NodePath) → below top (path ++ name ∷ rest) ≡ q
        → at_top q n (old (path ++ name ∷ rest)) ≡ Some node → is_directory_node (at_top o n (old path)) ≡ true
    cases None at None behind some = directories path name rest node some
    cases None at (Some (last ∷ more)) behind some = directories path name rest node some
    cases None at (Some []) behind some =
        above path name rest (sym (below_rest top (path ++ name ∷ rest) [] behind ∙ append-nil top))
    cases (Some []) at q behind some =
        under name rest node
        (ap (λ p. old (p ++ name ∷ rest)) (sym (below_rest top path [] at ∙ append-nil top))
        ∙ (ap (λ o. at_top o n (old (path ++ name ∷ rest))) (sym (further [] at q behind)) ∙ some))
    cases (Some (last ∷ more)) at q behind some =
        directories path name rest node
        (ap (λ o. at_top o n (old (path ++ name ∷ rest))) (sym (further (last ∷ more) at q behind)) ∙ some)

-- stages

-- the tree, if there is one, has directories
abbrev pub KeepsDirectories : Option Tree → Type 0
KeepsDirectories o = IfSome o HasDirectories

keeps_then : (f : Tree → Option Tree) (o : Option Tree) → KeepsDirectories o
    → ((tree : Tree) → HasDirectories tree → KeepsDirectories (f tree)) → KeepsDirectories (option_and_then f o)
keeps_then f None first then = tt
keeps_then f (Some tree) first then = then tree first

keeps_if : (b : Bool) (tree : Tree) → (b ≡ true → HasDirectories tree) → KeepsDirectories (cond b (Some tree) None)
keeps_if false tree is = tt
keeps_if true tree is = is refl

some_stands : (o : Option Node) → is_some o ≡ true → (node : Node) × (o ≡ Some node)
some_stands None is = absurd (let bad : false ≡ true = is in cc)
some_stands (Some node) is = (node, refl)

none_stands : (o : Option Node) → is_none o ≡ true → is_directory_node o ≡ false
none_stands None is = refl
none_stands (Some node) is = absurd (let bad : false ≡ true = is in cc)

empty_directories : HasDirectories empty_tree
empty_directories path name rest node at = absurd (let bad : None ≡ Some node = at in cc)

deleted_keeps : (deletes : Bool) (top : NodePath) (tree : Tree) → HasDirectories tree
    → KeepsDirectories (deleted deletes top tree)
deleted_keeps false top tree directories = directories
deleted_keeps true top tree directories =
    keeps_if (is_some (parent_of top) && is_some (tree top)) (grafted top empty_tree tree) (λ both.
    let there = some_stands (tree top) (and_parts (is_some (parent_of top)) (is_some (tree top)) both).1 in
    graft_directories top empty_tree tree directories (above_node tree directories top there.0 there.1) empty_directories)

node_put_keeps : (n : Node) (top : NodePath) (tree : Tree) → HasDirectories tree → KeepsDirectories (node_put n top tree)
node_put_keeps n top tree directories =
    keeps_if (is_none (tree top) && has_directory tree top) (put top n tree) (λ both.
    let parts = and_parts (is_none (tree top)) (has_directory tree top) both in
    put_directories top n tree directories (above_directory tree directories top parts.1)
    (λ name rest node at. absurd (both_ways _ (none_stands (tree top) parts.0) (directories top name rest node at))))

copied_keeps : (source top : NodePath) (tree old : Tree) → HasDirectories tree → HasDirectories old
    → KeepsDirectories (copied source top tree old)
copied_keeps source top tree old directories inner =
    keeps_if (is_some (old source) && has_directory tree top) (grafted top (λ rest. old (source ++ rest)) tree) (λ both.
    graft_directories top (λ rest. old (source ++ rest)) tree directories
    (above_directory tree directories top (and_parts (is_some (old source)) (has_directory tree top) both).1)
    (λ path name rest node at.
    inner (source ++ path) name rest node (ap old (append_assoc source path (name ∷ rest)) ∙ at)))

made_keeps : (history : History) → AllHaveDirectories history → (made : Option Made) (top : NodePath) (tree : Tree)
    → HasDirectories tree → KeepsDirectories (made_in history made top tree)
made_keeps history all None top tree directories = directories
made_keeps history all (Some Made.NewDirectory) top tree directories = node_put_keeps (Node.Directory []) top tree directories
made_keeps history all (Some Made.NewFile) top tree directories = node_put_keeps (Node.File [] []) top tree directories
made_keeps history all (Some (Made.Copied number source)) top tree directories = cases (history number) refl
  where
    cases : (o : Option Tree) → history number ≡ o
        → KeepsDirectories (option_and_then (λ old. copied source top tree old) o)
    cases None at = tt
    cases (Some old) at = copied_keeps source top tree old directories (all number old at)

-- a node of the same kind in place of another
same_keeps : (top : NodePath) (n m : Node) (tree : Tree) → HasDirectories tree → tree top ≡ Some n
    → is_directory_node (Some n) ≡ is_directory_node (Some m) → HasDirectories (put top m tree)
same_keeps top n m tree directories at kind =
    put_directories top m tree directories (above_node tree directories top n at)
    (λ name rest node there. sym kind ∙ (ap is_directory_node (sym at) ∙ directories top name rest node there))

put_keeps : (change : PropertyChange) (top : NodePath) (tree : Tree) → HasDirectories tree
    → KeepsDirectories (props_put change top tree)
put_keeps change top tree directories = cases (tree top) refl
  where
    cases : (o : Option Node) → tree top ≡ o
        → KeepsDirectories (option_map (λ node. put top (with_props change node) tree) o)
    cases None at = tt
    cases (Some (Node.Directory ps)) at =
        same_keeps top (Node.Directory ps) (Node.Directory (new_props change ps)) tree directories at refl
    cases (Some (Node.File ps text)) at =
        same_keeps top (Node.File ps text) (Node.File (new_props change ps) text) tree directories at refl

props_keep : (props : Option PropertyChange) (top : NodePath) (tree : Tree) → HasDirectories tree
    → KeepsDirectories (props_set props top tree)
props_keep None top tree directories = directories
props_keep (Some (PropertyChange.Replaced entries)) top tree directories =
    put_keeps (PropertyChange.Replaced entries) top tree directories
props_keep (Some (PropertyChange.Edited [])) top tree directories = directories
props_keep (Some (PropertyChange.Edited (entry ∷ entries))) top tree directories =
    put_keeps (PropertyChange.Edited (entry ∷ entries)) top tree directories

text_keeps : (text : Option TextChange) (top : NodePath) (tree : Tree) → HasDirectories tree
    → KeepsDirectories (text_set text top tree)
text_keeps None top tree directories = directories
text_keeps (Some change) top tree directories = cases (tree top) refl
  where
    cases : (o : Option Node) → tree top ≡ o
        → KeepsDirectories (option_map (λ node. put top node tree) (option_and_then (λ node. with_text change node) o))
    cases None at = tt
    cases (Some (Node.Directory ps)) at = tt
    cases (Some (Node.File ps text)) at = by_text (new_text change text)
      where
        by_text : (o : Option (List ℕ))
            → KeepsDirectories (option_map (λ node. put top node tree) (option_map (λ t. Node.File ps t) o))
        by_text None = tt
        by_text (Some t) = same_keeps top (Node.File ps text) (Node.File ps t) tree directories at refl

-- a change keeps directories
pub step_keeps : (history : History) → AllHaveDirectories history → (tree : Tree) (c : Change) → HasDirectories tree
    → KeepsDirectories (step history tree c)
step_keeps history all tree c directories =
    keeps_then (λ t. text_set c.text c.path t)
    (option_and_then (λ t. props_set c.props c.path t)
    (option_and_then (λ t. made_in history c.made c.path t) (deleted c.deletes c.path tree)))
    (keeps_then (λ t. props_set c.props c.path t)
    (option_and_then (λ t. made_in history c.made c.path t) (deleted c.deletes c.path tree))
    (keeps_then (λ t. made_in history c.made c.path t) (deleted c.deletes c.path tree)
    (deleted_keeps c.deletes c.path tree directories)
    (λ t has. made_keeps history all c.made c.path t has))
    (λ t has. props_keep c.props c.path t has))
    (λ t has. text_keeps c.text c.path t has)
