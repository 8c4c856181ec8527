-- What one change leaves at a path.
use Rattle.dump_trees.proofs.Prelude.{◌≡◌, cond, ◌||◌, refl, sym, ap, ◌∙◌, subst, append-nil, option_map, IfSome, or_parts, NodePath, below, parent_of, Node, Tree, at_or_below, grafted, at_top, put, empty_tree, Made, PropertyChange, TextChange, Change, History, has_directory, is_copied, copied, deleted, made_in, with_props, with_text, props_put, props_set, text_set, step}
use Rattle.std.proofs.Common.{ℕ, Bool, true, false, ◌&&◌, [], ◌∷◌, ◌++◌, Option, Some, None, option_and_then, is_some, is_none}
use Rattle.dump_trees.specs.steps.Looking.{touches_rest, touches_path, Origin, left_by, origin_of, node_with_props, node_with_text, set_by}
use Rattle.dump_trees.proofs.changes.TreeLemmas.{below_rest, none_of}
use Rattle.dump_trees.proofs.quiet.LeavingLemmas.{step_leaves}

-- the origin, in trees, of what a change leaves
abbrev pub origin_in : History → Option Node → Origin → Option Node
origin_in history old Origin.Nowhere = None
origin_in history old (Origin.New node) = Some node
origin_in history old Origin.Before = old
origin_in history old (Origin.From number source) = option_and_then (λ tree. tree source) (history number)

-- what a change leaves of what existed there
abbrev kept_by : Bool → Option Node → Option Node
kept_by true old = None
kept_by false old = old

-- what a change makes at this rest of a path
abbrev made_at : History → Option Made → NodePath → Option Node → Option Node
made_at history None rest old = old
made_at history (Some Made.NewDirectory) [] old = Some (Node.Directory [])
made_at history (Some Made.NewDirectory) (name ∷ rest) old = old
made_at history (Some Made.NewFile) [] old = Some (Node.File [] [])
made_at history (Some Made.NewFile) (name ∷ rest) old = old
made_at history (Some (Made.Copied number source)) rest old =
    option_and_then (λ tree. tree (source ++ rest)) (history number)

-- what it does to the properties there
abbrev props_at : Option PropertyChange → NodePath → Option Node → Option Node
props_at props [] old = node_with_props props old
props_at props (name ∷ rest) old = old

-- what it does to the text there
abbrev text_at : Option TextChange → NodePath → Option Node → Option Node
text_at text [] old = node_with_text text old
text_at text (name ∷ rest) old = old

same_left : (history : History) (deletes : Bool) (old : Option Node)
    → kept_by deletes old ≡ origin_in history old (left_by deletes)
same_left history true old = refl
same_left history false old = refl

same_origin : (history : History) (deletes : Bool) (made : Option Made) (rest : NodePath) (old : Option Node)
    → made_at history made rest (kept_by deletes old) ≡ origin_in history old (origin_of deletes made rest)
same_origin history deletes None rest old = same_left history deletes old
same_origin history deletes (Some Made.NewDirectory) [] old = refl
same_origin history deletes (Some Made.NewDirectory) (name ∷ rest) old = same_left history deletes old
same_origin history deletes (Some Made.NewFile) [] old = refl
same_origin history deletes (Some Made.NewFile) (name ∷ rest) old = same_left history deletes old
same_origin history deletes (Some (Made.Copied number source)) rest old = refl

same_set : (c : Change) (rest : NodePath) (old : Option Node)
    → text_at c.text rest (props_at c.props rest old) ≡ set_by c rest old
same_set c [] old = refl
same_set c (name ∷ rest) old = refl

-- the tree, if there is one, has this node at the path
abbrev Has : NodePath → Option Node → Option Tree → Type 0
Has path node a = IfSome a (λ tree. tree path ≡ node)

has_then : (path : NodePath) (f : Tree → Option Tree) (a : Option Tree) (was now : Option Node) → Has path was a
    → ((tree : Tree) → tree path ≡ was → Has path now (f tree)) → Has path now (option_and_then f a)
has_then path f None was now first then = tt
has_then path f (Some tree) was now first then = then tree first

has_if : (path : NodePath) (b : Bool) (tree : Tree) (now : Option Node) → tree path ≡ now
    → Has path now (cond b (Some tree) None)
has_if path false tree now is = tt
has_if path true tree now is = is

module _ (path top rest : NodePath) (at : below top path ≡ Some rest) where
  -- what is put at the top
  put_has : (n : Node) (tree : Tree) → put top n tree path ≡ at_top (Some rest) n (tree path)
  put_has n tree = ap (λ o. at_top o n (tree path)) at

  -- what is grafted there
  graft_has : (new tree : Tree) → grafted top new tree path ≡ new rest
  graft_has new tree = ap (λ o. at_or_below o new (tree path)) at

  deleted_has : (deletes : Bool) (tree : Tree) → Has path (kept_by deletes (tree path)) (deleted deletes top tree)
  deleted_has false tree = refl
  deleted_has true tree =
      has_if path (is_some (parent_of top) && is_some (tree top)) (grafted top empty_tree tree) None
      (graft_has empty_tree tree)

  -- a new node at the top
  new_has : (n : Node) (tree : Tree) (b : Bool)
      → Has path (at_top (Some rest) n (tree path)) (cond b (Some (put top n tree)) None)
  new_has n tree b = has_if path b (put top n tree) (at_top (Some rest) n (tree path)) (put_has n tree)

same_directory_made : (history : History) (rest : NodePath) (old : Option Node)
    → at_top (Some rest) (Node.Directory []) old ≡ made_at history (Some Made.NewDirectory) rest old
same_directory_made history [] old = refl
same_directory_made history (name ∷ rest) old = refl

same_file_made : (history : History) (rest : NodePath) (old : Option Node)
    → at_top (Some rest) (Node.File [] []) old ≡ made_at history (Some Made.NewFile) rest old
same_file_made history [] old = refl
same_file_made history (name ∷ rest) old = refl

made_has : (path top rest : NodePath) → below top path ≡ Some rest → (history : History) (made : Option Made)
    (tree : Tree) → Has path (made_at history made rest (tree path)) (made_in history made top tree)
made_has path top rest at history None tree = refl
made_has path top rest at history (Some Made.NewDirectory) tree =
    subst (λ node. Has path node (made_in history (Some Made.NewDirectory) top tree))
    (same_directory_made history rest (tree path))
    (new_has path top rest at (Node.Directory []) tree (is_none (tree top) && has_directory tree top))
made_has path top rest at history (Some Made.NewFile) tree =
    subst (λ node. Has path node (made_in history (Some Made.NewFile) top tree))
    (same_file_made history rest (tree path))
    (new_has path top rest at (Node.File [] []) tree (is_none (tree top) && has_directory tree top))
made_has path top rest at history (Some (Made.Copied number source)) tree = cases (history number)
  where
    cases : (a : Option Tree) → Has path (option_and_then (λ old. old (source ++ rest)) a)
        (option_and_then (λ old. copied source top tree old) a)
    cases None = tt
    cases (Some old) =
        has_if path (is_some (old source) && has_directory tree top) (grafted top (λ more. old (source ++ more)) tree)
        (old (source ++ rest)) (graft_has path top rest at (λ more. old (source ++ more)) tree)

-- what exists at the top exists at the path, if the path is the top
top_node : (path top : NodePath) (tree : Tree) → below top path ≡ Some [] → tree top ≡ tree path
top_node path top tree at = ap tree (sym (below_rest top path [] at ∙ append-nil top))

puts_has : (path top rest : NodePath) → below top path ≡ Some rest → (change : PropertyChange) (tree : Tree)
    → Has path (props_at (Some change) rest (tree path)) (props_put change top tree)
puts_has path top [] at change tree =
    subst (λ old. Has path (option_map (with_props change) old) (props_put change top tree)) (top_node path top tree at)
    (cases (tree top))
  where
    cases : (o : Option Node)
        → Has path (option_map (with_props change) o) (option_map (λ node. put top (with_props change node) tree) o)
    cases None = tt
    cases (Some node) = put_has path top [] at (with_props change node) tree
puts_has path top (name ∷ rest) at change tree = cases (tree top)
  where
    cases : (o : Option Node) → Has path (tree path) (option_map (λ node. put top (with_props change node) tree) o)
    cases None = tt
    cases (Some node) = put_has path top (name ∷ rest) at (with_props change node) tree

pub no_edit : (o : Option Node) → o ≡ option_map (with_props (PropertyChange.Edited [])) o
no_edit None = refl
no_edit (Some (Node.Directory props)) = refl
no_edit (Some (Node.File props text)) = refl

no_edit_at : (rest : NodePath) (o : Option Node) → o ≡ props_at (Some (PropertyChange.Edited [])) rest o
no_edit_at [] o = no_edit o
no_edit_at (name ∷ rest) o = refl

no_props_at : (rest : NodePath) (o : Option Node) → o ≡ props_at None rest o
no_props_at [] o = refl
no_props_at (name ∷ rest) o = refl

props_has : (path top rest : NodePath) → below top path ≡ Some rest → (props : Option PropertyChange) (tree : Tree)
    → Has path (props_at props rest (tree path)) (props_set props top tree)
props_has path top rest at None tree = no_props_at rest (tree path)
props_has path top rest at (Some (PropertyChange.Replaced entries)) tree =
    puts_has path top rest at (PropertyChange.Replaced entries) tree
props_has path top rest at (Some (PropertyChange.Edited [])) tree = no_edit_at rest (tree path)
props_has path top rest at (Some (PropertyChange.Edited (entry ∷ entries))) tree =
    puts_has path top rest at (PropertyChange.Edited (entry ∷ entries)) tree

no_text_at : (rest : NodePath) (o : Option Node) → o ≡ text_at None rest o
no_text_at [] o = refl
no_text_at (name ∷ rest) o = refl

text_has : (path top rest : NodePath) → below top path ≡ Some rest → (text : Option TextChange) (tree : Tree)
    → Has path (text_at text rest (tree path)) (text_set text top tree)
text_has path top rest at None tree = no_text_at rest (tree path)
text_has path top [] at (Some change) tree =
    subst (λ old. Has path (option_and_then (with_text change) old) (text_set (Some change) top tree))
    (top_node path top tree at)
    (cases (option_and_then (with_text change) (tree top)))
  where
    cases : (o : Option Node) → Has path o (option_map (λ node. put top node tree) o)
    cases None = tt
    cases (Some node) = put_has path top [] at node tree
text_has path top (name ∷ rest) at (Some change) tree = cases (option_and_then (with_text change) (tree top))
  where
    cases : (o : Option Node) → Has path (tree path) (option_map (λ node. put top node tree) o)
    cases None = tt
    cases (Some node) = put_has path top (name ∷ rest) at node tree

-- what a change leaves at its path and below it
pub step_has : (history : History) (before after : Tree) (c : Change) (path rest : NodePath)
    → below c.path path ≡ Some rest → step history before c ≡ Some after
    → set_by c rest (origin_in history (before path) (origin_of c.deletes c.made rest)) ≡ after path
step_has history before after c path rest at is =
    sym (same_set c rest (origin_in history (before path) (origin_of c.deletes c.made rest)))
    ∙ (ap (λ o. text_at c.text rest (props_at c.props rest o))
    (sym (same_origin history c.deletes c.made rest (before path)))
    ∙ sym (subst (λ a. Has path (text_at c.text rest three) a) is
    (has_then path (λ t. text_set c.text c.path t)
    (option_and_then (λ t. props_set c.props c.path t)
    (option_and_then (λ t. made_in history c.made c.path t) (deleted c.deletes c.path before))) three
    (text_at c.text rest three)
    (has_then path (λ t. props_set c.props c.path t)
    (option_and_then (λ t. made_in history c.made c.path t) (deleted c.deletes c.path before)) two three
    (has_then path (λ t. made_in history c.made c.path t) (deleted c.deletes c.path before) one two
    (deleted_has path c.path rest at c.deletes before)
    (λ t was. subst (λ o. Has path (made_at history c.made rest o) (made_in history c.made c.path t)) was
    (made_has path c.path rest at history c.made t)))
    (λ t was. subst (λ o. Has path (props_at c.props rest o) (props_set c.props c.path t)) was
    (props_has path c.path rest at c.props t)))
    (λ t was. subst (λ o. Has path (text_at c.text rest o) (text_set c.text c.path t)) was
    (text_has path c.path rest at c.text t)))))
  where
    one : Option Node
    one = kept_by c.deletes (before path)

    two : Option Node
    two = made_at history c.made rest one

    three : Option Node
    three = props_at c.props rest two

-- a change that does nothing at all

nothing_done : (history : History) (before after : Tree) (c : Change) → c.deletes ≡ false → is_some c.made ≡ false
    → is_some c.props ≡ false → is_some c.text ≡ false → step history before c ≡ Some after → after ≡ before
nothing_done history before after c deletes made props text at =
    let same : Some before ≡ Some after
    = sym (λ i. option_and_then (λ t. text_set (none_of c.text text i) c.path t)
    (option_and_then (λ t. props_set (none_of c.props props i) c.path t)
    (option_and_then (λ t. made_in history (none_of c.made made i) c.path t) (deleted (deletes i) c.path before)))) ∙ at
    in
    (let both : after ≡ before = cc in both)

-- a path that a change doesn't touch stays as it is
pub step_untouched : (history : History) (before after : Tree) (c : Change) (path : NodePath)
    → touches_path path c ≡ false → step history before c ≡ Some after → after path ≡ before path
step_untouched history before after c path none at = cases (below c.path path) refl none
  where
    cases : (o : Option NodePath) → below c.path path ≡ o → touches_rest o c ≡ false → after path ≡ before path
    cases None found is = step_leaves history before after c path None found tt (λ d. refl) (λ d. refl) at
    cases (Some []) found is =
        let text = or_parts (c.deletes || is_some c.made || is_some c.props) (is_some c.text) is in
        let props = or_parts (c.deletes || is_some c.made) (is_some c.props) text.0 in
        let made = or_parts c.deletes (is_some c.made) props.0 in
        ap (λ (t : Tree). t path) (nothing_done history before after c made.0 made.1 props.1 text.1 at)
    cases (Some (name ∷ rest)) found is =
        let parts = or_parts c.deletes (is_copied c.made) is in
        step_leaves history before after c path (Some (name ∷ rest)) found tt
        (λ d. absurd (let bad : true ≡ false = sym d ∙ parts.0 in cc))
        (λ d. absurd (let bad : true ≡ false = sym d ∙ parts.1 in cc)) at

-- if a copy is made, its source exists in a revision
pub copy_has_tree : (history : History) (before after : Tree) (c : Change) (number : ℕ) (source : NodePath)
    → c.made ≡ Some (Made.Copied number source) → step history before c ≡ Some after
    → (old : Tree) × (history number ≡ Some old)
copy_has_tree history before after c number source made at =
    cases (history number) refl (deleted c.deletes c.path before)
    (sym (ap (λ m. option_and_then (λ t. text_set c.text c.path t)
    (option_and_then (λ t. props_set c.props c.path t)
    (option_and_then (λ t. made_in history m c.path t) (deleted c.deletes c.path before)))) made) ∙ at)
  where
    cases : (o : Option Tree) → history number ≡ o → (a : Option Tree)
        → option_and_then (λ t. text_set c.text c.path t)
        (option_and_then (λ t. props_set c.props c.path t)
        (option_and_then (λ t. option_and_then (λ old. copied source c.path t old) (history number)) a))
        ≡ Some after
        → (old : Tree) × (history number ≡ Some old)
    cases (Some old) there a is = (old, there)
    cases None there None is = absurd (let bad : None ≡ Some after = is in cc)
    cases None there (Some t) is =
        absurd (let bad : None ≡ Some after
        = sym (ap (λ o. option_and_then (λ u. text_set c.text c.path u)
        (option_and_then (λ u. props_set c.props c.path u)
        (option_and_then (λ old. copied source c.path t old) o))) there) ∙ is in cc)
