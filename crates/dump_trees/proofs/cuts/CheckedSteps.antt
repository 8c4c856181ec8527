-- A load takes a change exactly if the kinds at single paths allow it.
use Rattle.dump_trees.proofs.Prelude.{◌≡◌, not, ◌||◌, cond, refl, sym, ap, ap₂, ◌∙◌, append-nil, option_map, IfSome, Property, NodePath, parent_of, Node, Tree, is_directory_node, grafted, at_or_below, put, empty_tree, Made, PropertyChange, TextChange, Change, History, is_directory_at, has_directory, deleted, copied, made_in, with_props, with_text, props_put, props_set, text_set, step, is_root}
use Rattle.std.proofs.Common.{ℕ, Bool, true, false, ◌&&◌, List, [], ◌∷◌, ◌++◌, Option, Some, None, option_and_then, is_some, is_none}
use Rattle.std.proofs.lemmas.Option.{same_Some}
use Rattle.dump_trees.specs.steps.Looking.{left_by, origin_of, node_with_props}
use Rattle.dump_trees.specs.LoadCheck.{sets_props}
use Rattle.dump_trees.specs.steps.LoadCheck.{Kind, kind_of_node, kind_at, is_directory, is_file, Kinds, deletion_allowed, kind_left, making_allowed, kind_made, source_kind, kinds_before, node_from, node_set, delta_applies, StepIsAllowed}
use Rattle.dump_trees.proofs.changes.TreeLemmas.{below_top}
use Rattle.dump_trees.proofs.expansions.BranchLemmas.{parent_apart}
use Rattle.dump_trees.proofs.changes.PlainLemmas.{put_at}
use Rattle.dump_trees.proofs.expansions.StandingLemmas.{no_edit}

-- kinds of nodes

pub kind_some : (o : Option Node) → is_some (option_map kind_of_node o) ≡ is_some o
kind_some None = refl
kind_some (Some node) = refl

kind_none : (o : Option Node) → is_none (option_map kind_of_node o) ≡ is_none o
kind_none None = refl
kind_none (Some node) = refl

kind_directory : (o : Option Node) → is_directory (option_map kind_of_node o) ≡ is_directory_node o
kind_directory None = refl
kind_directory (Some (Node.Directory props)) = refl
kind_directory (Some (Node.File props text)) = refl

pub parent_directory : (tree : Tree) (parent : Option NodePath)
    → is_directory (option_and_then (λ p. kind_at tree p) parent) ≡ is_directory_at tree parent
parent_directory tree None = refl
parent_directory tree (Some parent) = kind_directory (tree parent)

-- the tree that is made, if one is

some_if : (b : Bool) (tree : Tree) → is_some (cond b (Some tree) None) ≡ b
some_if true tree = refl
some_if false tree = refl

holds_if : (P : Tree → Type 0) (b : Bool) (tree : Tree) → P tree → IfSome (cond b (Some tree) None) P
holds_if P true tree is = is
holds_if P false tree is = tt

-- this node is at the top of the tree, and this says whether its parent is a directory
abbrev IsThere : NodePath → Option Node → Bool → Tree → Type 0
IsThere top node parent tree = (tree top ≡ node) × (has_directory tree top ≡ parent)

some_then : (f : Tree → Option Tree) (o : Option Tree) (a b : Bool) → is_some o ≡ a
    → IfSome o (λ t. is_some (f t) ≡ b) → is_some (option_and_then f o) ≡ (a && b)
some_then f None a b is then = ap (λ x. x && b) is
some_then f (Some t) a b is then = then ∙ ap (λ x. x && b) is

holds_then : (P Q : Tree → Type 0) (f : Tree → Option Tree) (o : Option Tree) → IfSome o P
    → ((t : Tree) → P t → IfSome (f t) Q) → IfSome (option_and_then f o) Q
holds_then P Q f None is then = tt
holds_then P Q f (Some t) is then = then t is

holds_weaker : (P Q : Tree → Type 0) (o : Option Tree) → IfSome o P → ((t : Tree) → P t → Q t) → IfSome o Q
holds_weaker P Q None is then = tt
holds_weaker P Q (Some t) is then = then t is

-- deletion

abbrev pub left_of : Bool → Option Node → Option Node
left_of false old = old
left_of true old = None

root_parent : (top : NodePath) → is_some (parent_of top) ≡ not (is_root top)
root_parent [] = refl
root_parent (name ∷ []) = refl
root_parent (name ∷ other ∷ path) =
    mapped (parent_of (other ∷ path)) ∙ root_parent (other ∷ path)
  where
    mapped : (o : Option NodePath) → is_some (option_map (λ parent. name ∷ parent) o) ≡ is_some o
    mapped None = refl
    mapped (Some parent) = refl

deleted_some : (deletes : Bool) (top : NodePath) (tree : Tree)
    → is_some (deleted deletes top tree) ≡ deletion_allowed deletes top (kind_at tree top)
deleted_some false top tree = refl
deleted_some true top tree =
    some_if (is_some (parent_of top) && is_some (tree top)) (grafted top empty_tree tree)
    ∙ ap₂ (λ a b. a && b) (root_parent top) (sym (kind_some (tree top)))

deleted_there : (deletes : Bool) (top : NodePath) (tree : Tree)
    → IfSome (deleted deletes top tree) (IsThere top (left_of deletes (tree top)) (has_directory tree top))
deleted_there false top tree = (refl, refl)
deleted_there true top tree =
    holds_if (IsThere top None (has_directory tree top)) (is_some (parent_of top) && is_some (tree top))
    (grafted top empty_tree tree)
    (ap (λ o. at_or_below o empty_tree (tree top)) (below_top top), cases (parent_of top) refl)
  where
    cases : (o : Option NodePath) → parent_of top ≡ o → is_directory_at (grafted top empty_tree tree) o ≡ is_directory_at tree o
    cases None is = refl
    cases (Some parent) is =
        ap (λ o. is_directory_node (at_or_below o empty_tree (tree parent))) (parent_apart top parent is)

-- what is made

abbrev pub made_node : History → Option Made → Option Node → Option Node
made_node history None left = left
made_node history (Some Made.NewDirectory) left = Some (Node.Directory [])
made_node history (Some Made.NewFile) left = Some (Node.File [] [])
made_node history (Some (Made.Copied number source)) left =
    option_and_then (λ tree. tree (source ++ [])) (history number)

-- whether it may be made, by the nodes
abbrev may_make : History → Option Made → Option Node → Bool → Bool
may_make history None left parent = true
may_make history (Some Made.NewDirectory) left parent = is_none left && parent
may_make history (Some Made.NewFile) left parent = is_none left && parent
may_make history (Some (Made.Copied number source)) left parent =
    is_some (option_and_then (λ tree. tree (source ++ [])) (history number)) && parent

made_some : (history : History) (made : Option Made) (top : NodePath) (left : Option Node) (parent : Bool) (tree : Tree)
    → IsThere top left parent tree
    → is_some (made_in history made top tree) ≡ may_make history made left parent
made_some history None top left parent tree there = refl
made_some history (Some Made.NewDirectory) top left parent tree there =
    some_if (is_none (tree top) && has_directory tree top) (put top (Node.Directory []) tree)
    ∙ ap₂ (λ o b. is_none o && b) there.0 there.1
made_some history (Some Made.NewFile) top left parent tree there =
    some_if (is_none (tree top) && has_directory tree top) (put top (Node.File [] []) tree)
    ∙ ap₂ (λ o b. is_none o && b) there.0 there.1
made_some history (Some (Made.Copied number source)) top left parent tree there = cases (history number)
  where
    cases : (o : Option Tree) → is_some (option_and_then (λ old. copied source top tree old) o)
        ≡ (is_some (option_and_then (λ old. old (source ++ [])) o) && parent)
    cases None = refl
    cases (Some old) =
        some_if (is_some (old source) && has_directory tree top) (grafted top (λ rest. old (source ++ rest)) tree)
        ∙ ap₂ (λ p b. is_some (old p) && b) (sym (append-nil source)) there.1

made_there : (history : History) (made : Option Made) (top : NodePath) (left : Option Node) (parent : Bool) (tree : Tree)
    → IsThere top left parent tree
    → IfSome (made_in history made top tree) (λ t. t top ≡ made_node history made left)
made_there history None top left parent tree there = there.0
made_there history (Some Made.NewDirectory) top left parent tree there =
    holds_if (λ t. t top ≡ Some (Node.Directory [])) (is_none (tree top) && has_directory tree top)
    (put top (Node.Directory []) tree) (put_at top (Node.Directory []) tree)
made_there history (Some Made.NewFile) top left parent tree there =
    holds_if (λ t. t top ≡ Some (Node.File [] [])) (is_none (tree top) && has_directory tree top)
    (put top (Node.File [] []) tree) (put_at top (Node.File [] []) tree)
made_there history (Some (Made.Copied number source)) top left parent tree there = cases (history number)
  where
    cases : (o : Option Tree) → IfSome (option_and_then (λ old. copied source top tree old) o)
        (λ t. t top ≡ option_and_then (λ old. old (source ++ [])) o)
    cases None = tt
    cases (Some old) =
        holds_if (λ t. t top ≡ old (source ++ [])) (is_some (old source) && has_directory tree top)
        (grafted top (λ rest. old (source ++ rest)) tree)
        (ap (λ o. at_or_below o (λ rest. old (source ++ rest)) (tree top)) (below_top top))

-- properties and texts

puts_some : (change : PropertyChange) (top : NodePath) (tree : Tree) (o : Option Node)
    → is_some (option_map (λ node. put top (with_props change node) tree) o) ≡ is_some o
puts_some change top tree None = refl
puts_some change top tree (Some node) = refl

puts_there : (change : PropertyChange) (top : NodePath) (tree : Tree) (o : Option Node)
    → IfSome (option_map (λ node. put top (with_props change node) tree) o) (λ t. t top ≡ option_map (with_props change) o)
puts_there change top tree None = tt
puts_there change top tree (Some node) = put_at top (with_props change node) tree

set_some : (props : Option PropertyChange) (top : NodePath) (old : Option Node) (tree : Tree) → tree top ≡ old
    → is_some (props_set props top tree) ≡ (not (sets_props props) || is_some old)
set_some None top old tree at = refl
set_some (Some (PropertyChange.Replaced entries)) top old tree at =
    puts_some (PropertyChange.Replaced entries) top tree (tree top) ∙ ap is_some at
set_some (Some (PropertyChange.Edited [])) top old tree at = refl
set_some (Some (PropertyChange.Edited (entry ∷ entries))) top old tree at =
    puts_some (PropertyChange.Edited (entry ∷ entries)) top tree (tree top) ∙ ap is_some at

set_there : (props : Option PropertyChange) (top : NodePath) (old : Option Node) (tree : Tree) → tree top ≡ old
    → IfSome (props_set props top tree) (λ t. t top ≡ node_with_props props old)
set_there None top old tree at = at
set_there (Some (PropertyChange.Replaced entries)) top old tree at =
    holds_weaker (λ t. t top ≡ option_map (with_props (PropertyChange.Replaced entries)) (tree top))
    (λ t. t top ≡ option_map (with_props (PropertyChange.Replaced entries)) old)
    (props_put (PropertyChange.Replaced entries) top tree)
    (puts_there (PropertyChange.Replaced entries) top tree (tree top))
    (λ t is. is ∙ ap (option_map (with_props (PropertyChange.Replaced entries))) at)
set_there (Some (PropertyChange.Edited [])) top old tree at = at ∙ no_edit old
set_there (Some (PropertyChange.Edited (entry ∷ entries))) top old tree at =
    holds_weaker (λ t. t top ≡ option_map (with_props (PropertyChange.Edited (entry ∷ entries))) (tree top))
    (λ t. t top ≡ option_map (with_props (PropertyChange.Edited (entry ∷ entries))) old)
    (props_put (PropertyChange.Edited (entry ∷ entries)) top tree)
    (puts_there (PropertyChange.Edited (entry ∷ entries)) top tree (tree top))
    (λ t is. is ∙ ap (option_map (with_props (PropertyChange.Edited (entry ∷ entries)))) at)

text_some : (text : Option TextChange) (top : NodePath) (old : Option Node) (tree : Tree) → tree top ≡ old
    → is_some (text_set text top tree)
    ≡ ((not (is_some text) || is_file (option_map kind_of_node old)) && delta_applies text old)
text_some None top old tree at = refl
text_some (Some change) top old tree at =
    ap (λ o. is_some (option_map (λ n. put top n tree) (option_and_then (λ n. with_text change n) o))) at
    ∙ cases change old
  where
    new_some : (props : List Property) (o : Option (List ℕ))
        → is_some (option_map (λ n. put top n tree) (option_map (λ text. Node.File props text) o)) ≡ is_some o
    new_some props None = refl
    new_some props (Some text) = refl

    cases : (change : TextChange) (o : Option Node)
        → is_some (option_map (λ n. put top n tree) (option_and_then (λ n. with_text change n) o))
        ≡ (is_file (option_map kind_of_node o) && delta_applies (Some change) o)
    cases change None = refl
    cases change (Some (Node.Directory props)) = refl
    cases (TextChange.Replaced text) (Some (Node.File props old)) = refl
    cases (TextChange.Patched patch) (Some (Node.File props old)) = new_some props (patch old)

-- the kinds of what is made

pub kind_of_left : (deletes : Bool) (old : Option Node)
    → option_map kind_of_node (left_of deletes old) ≡ kind_left deletes (option_map kind_of_node old)
kind_of_left false old = refl
kind_of_left true old = refl

source_is : (source : NodePath) (o : Option Tree)
    → option_map kind_of_node (option_and_then (λ tree. tree (source ++ [])) o) ≡ option_and_then (λ old. kind_at old source) o
source_is source None = refl
source_is source (Some old) = ap (λ p. option_map kind_of_node (old p)) (append-nil source)

pub kind_of_made : (history : History) (made : Option Made) (left : Option Node)
    → option_map kind_of_node (made_node history made left)
    ≡ kind_made made (option_map kind_of_node left) (source_kind history made)
kind_of_made history None left = refl
kind_of_made history (Some Made.NewDirectory) left = refl
kind_of_made history (Some Made.NewFile) left = refl
kind_of_made history (Some (Made.Copied number source)) left = source_is source (history number)

pub kind_with_props : (props : Option PropertyChange) (o : Option Node)
    → option_map kind_of_node (node_with_props props o) ≡ option_map kind_of_node o
kind_with_props None o = refl
kind_with_props (Some change) None = refl
kind_with_props (Some change) (Some (Node.Directory props)) = refl
kind_with_props (Some change) (Some (Node.File props text)) = refl

delta_with_props : (text : Option TextChange) (props : Option PropertyChange) (o : Option Node)
    → delta_applies text (node_with_props props o) ≡ delta_applies text o
delta_with_props text None o = refl
delta_with_props None (Some change) o = refl
delta_with_props (Some (TextChange.Replaced text)) (Some change) o = refl
delta_with_props (Some (TextChange.Patched patch)) (Some change) None = refl
delta_with_props (Some (TextChange.Patched patch)) (Some change) (Some (Node.Directory props)) = refl
delta_with_props (Some (TextChange.Patched patch)) (Some change) (Some (Node.File props text)) = refl

-- what is made over what is left
same_left : (history : History) (deletes : Bool) (old : Option Node)
    → left_of deletes old ≡ node_from history old (left_by deletes)
same_left history true old = refl
same_left history false old = refl

pub same_made : (history : History) (deletes : Bool) (made : Option Made) (old : Option Node)
    → made_node history made (left_of deletes old) ≡ node_from history old (origin_of deletes made [])
same_made history deletes None old = same_left history deletes old
same_made history deletes (Some Made.NewDirectory) old = refl
same_made history deletes (Some Made.NewFile) old = refl
same_made history deletes (Some (Made.Copied number source)) old = refl

may_is_allowed : (history : History) (made : Option Made) (left : Option Node) (kinds : Kinds) (parent : Bool)
    → is_directory kinds.parent ≡ parent → kinds.source ≡ source_kind history made
    → may_make history made left parent ≡ making_allowed made (option_map kind_of_node left) kinds
may_is_allowed history None left kinds parent above source = refl
may_is_allowed history (Some Made.NewDirectory) left kinds parent above source =
    ap₂ (λ a b. a && b) (sym (kind_none left)) (sym above)
may_is_allowed history (Some Made.NewFile) left kinds parent above source =
    ap₂ (λ a b. a && b) (sym (kind_none left)) (sym above)
may_is_allowed history (Some (Made.Copied number from)) left kinds parent above source =
    ap₂ (λ a b. a && b)
    (sym (kind_some (option_and_then (λ tree. tree (from ++ [])) (history number)))
    ∙ ap is_some (source_is from (history number) ∙ sym source))
    (sym above)

and_assoc : (a b c : Bool) → (a && (b && c)) ≡ ((a && b) && c)
and_assoc true b c = refl
and_assoc false b c = refl

-- what exists at the path of a change when its text is set
abbrev pub made_over : History → Tree → Change → Option Node
made_over history tree c = made_node history c.made (left_of c.deletes (tree c.path))

over_made : (history : History) (tree : Tree) (c : Change)
    → IfSome (option_and_then (λ t. made_in history c.made c.path t) (deleted c.deletes c.path tree))
    (λ t. t c.path ≡ made_over history tree c)
over_made history tree c =
    holds_then (IsThere c.path (left_of c.deletes (tree c.path)) (has_directory tree c.path))
    (λ t. t c.path ≡ made_over history tree c) (λ t. made_in history c.made c.path t) (deleted c.deletes c.path tree)
    (deleted_there c.deletes c.path tree)
    (λ t there. made_there history c.made c.path (left_of c.deletes (tree c.path)) (has_directory tree c.path) t there)

before_text : (history : History) (tree : Tree) (c : Change)
    → IfSome (option_and_then (λ t. props_set c.props c.path t)
    (option_and_then (λ t. made_in history c.made c.path t) (deleted c.deletes c.path tree)))
    (λ t. t c.path ≡ node_with_props c.props (made_over history tree c))
before_text history tree c =
    holds_then (λ t. t c.path ≡ made_over history tree c)
    (λ t. t c.path ≡ node_with_props c.props (made_over history tree c)) (λ t. props_set c.props c.path t)
    (option_and_then (λ t. made_in history c.made c.path t) (deleted c.deletes c.path tree)) (over_made history tree c)
    (λ t at. set_there c.props c.path (made_over history tree c) t at)

-- one change
pub step_is_allowed : StepIsAllowed
step_is_allowed history tree c =
    some_then (λ t. text_set c.text c.path t) three ((deletes && makes) && sets)
    ((not (is_some c.text) || is_file (option_map kind_of_node node_set_there)) && delta_applies c.text node_set_there)
    (some_then (λ t. props_set c.props c.path t) two (deletes && makes) sets
    (some_then (λ t. made_in history c.made c.path t) one deletes makes (deleted_some c.deletes c.path tree)
    (holds_weaker (IsThere c.path left (has_directory tree c.path))
    (λ t. is_some (made_in history c.made c.path t) ≡ makes) one (deleted_there c.deletes c.path tree)
    (λ t there. made_some history c.made c.path left (has_directory tree c.path) t there)))
    (holds_weaker (λ t. t c.path ≡ made) (λ t. is_some (props_set c.props c.path t) ≡ sets) two (over_made history tree c)
    (λ t at. set_some c.props c.path made t at)))
    (holds_weaker (λ t. t c.path ≡ node_set_there)
    (λ t. is_some (text_set c.text c.path t)
    ≡ ((not (is_some c.text) || is_file (option_map kind_of_node node_set_there)) && delta_applies c.text node_set_there))
    three (before_text history tree c) (λ t at. text_some c.text c.path node_set_there t at))
    ∙ (ap₂ (λ k d. ((deletes && makes) && sets) && ((not (is_some c.text) || is_file k) && d))
    (kind_with_props c.props made ∙ made_kind)
    (delta_with_props c.text c.props made ∙ ap (delta_applies c.text) (same_made history c.deletes c.made (tree c.path)))
    ∙ (and_assoc ((deletes && makes) && sets) (not (is_some c.text) || is_file kind) (delta_applies c.text (node_set history tree c))
    ∙ ap₂ (λ m s. (((deletes && m) && (not (sets_props c.props) || s)) && (not (is_some c.text) || is_file kind))
    && delta_applies c.text (node_set history tree c)) makes_is
    (sym (kind_some made) ∙ ap is_some made_kind)))
  where
    kinds : Kinds
    kinds = kinds_before history tree c

    left : Option Node
    left = left_of c.deletes (tree c.path)

    made : Option Node
    made = made_node history c.made left

    node_set_there : Option Node
    node_set_there = node_with_props c.props made

    kind : Option Kind
    kind = kind_made c.made (kind_left c.deletes kinds.here) kinds.source

    deletes : Bool
    deletes = deletion_allowed c.deletes c.path kinds.here

    makes : Bool
    makes = may_make history c.made left (has_directory tree c.path)

    sets : Bool
    sets = not (sets_props c.props) || is_some made

    one : Option Tree
    one = deleted c.deletes c.path tree

    two : Option Tree
    two = option_and_then (λ t. made_in history c.made c.path t) one

    three : Option Tree
    three = option_and_then (λ t. props_set c.props c.path t) two

    made_kind : option_map kind_of_node made ≡ kind
    made_kind = kind_of_made history c.made left
        ∙ ap (λ k. kind_made c.made k kinds.source) (kind_of_left c.deletes (tree c.path))

    makes_is : makes ≡ making_allowed c.made (kind_left c.deletes kinds.here) kinds
    makes_is = may_is_allowed history c.made left kinds (has_directory tree c.path)
        (parent_directory tree (parent_of c.path)) refl
        ∙ ap (λ k. making_allowed c.made k kinds) (kind_of_left c.deletes (tree c.path))

-- if something is made, or something exists that isn't deleted, the change leaves something

text_leaves : (text : Option TextChange) (top : NodePath) (tree after : Tree) → is_some (tree top) ≡ true
    → text_set text top tree ≡ Some after → is_some (after top) ≡ true
text_leaves None top tree after some is = ap (λ (t : Tree). is_some (t top)) (same_Some after tree (sym is)) ∙ some
text_leaves (Some change) top tree after some is = cases (option_and_then (λ n. with_text change n) (tree top)) is
  where
    cases : (o : Option Node) → option_map (λ n. put top n tree) o ≡ Some after → is_some (after top) ≡ true
    cases None bad = absurd (let worse : None ≡ Some after = bad in cc)
    cases (Some n) found =
        ap (λ (t : Tree). is_some (t top)) (same_Some after (put top n tree) (sym found)) ∙ ap is_some (put_at top n tree)

some_with_props : (props : Option PropertyChange) (o : Option Node) → is_some (node_with_props props o) ≡ is_some o
some_with_props None o = refl
some_with_props (Some change) None = refl
some_with_props (Some change) (Some node) = refl

pub change_leaves : (history : History) (tree after : Tree) (c : Change) → is_some (made_over history tree c) ≡ true
    → step history tree c ≡ Some after → is_some (after c.path) ≡ true
change_leaves history tree after c some is =
    cases (option_and_then (λ t. props_set c.props c.path t)
    (option_and_then (λ t. made_in history c.made c.path t) (deleted c.deletes c.path tree))) (before_text history tree c) is
  where
    cases : (o : Option Tree) → IfSome o (λ t. t c.path ≡ node_with_props c.props (made_over history tree c))
        → option_and_then (λ t. text_set c.text c.path t) o ≡ Some after → is_some (after c.path) ≡ true
    cases None there bad = absurd (let worse : None ≡ Some after = bad in cc)
    cases (Some t) there found =
        text_leaves c.text c.path t after
        (ap is_some there ∙ (some_with_props c.props (made_over history tree c) ∙ some)) found
