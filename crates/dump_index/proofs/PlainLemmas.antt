-- If a history loads, it loads without what its changes set too, and its trees have nodes of the same kinds.
use Rattle.std.proofs.Common.{◌≡◌, ℕ, zero, suc, ◌+◌, ◌<◌, ◌≤◌, Bool, true, false, ◌&&◌, ◌||◌, cond, List, [], ◌∷◌, ◌++◌, map, Option, Some, None, is_some, option_map, option_and_then, bytes_eq, refl, sym, ap, ap₂, subst, ◌∙◌}
use Rattle.std.specs.Prelude.{slice_get, is_none}
use Rattle.std.specs.List.{AllZip}
use Rattle.std.proofs.lemmas.List.{map-append}
use Rattle.std.proofs.lemmas.Slice.Eq.{bytes_eq-Decides}
use Rattle.dump_text.specs.PropertyList.{Property}
use Rattle.dump_trees.specs.Paths.{NodePath, below, parent_of}
use Rattle.dump_trees.specs.Trees.{Node, Tree, is_directory_node, at_or_below, grafted, at_top, put, empty_tree, root_alone}
use Rattle.dump_trees.specs.Changes.{Made, Change, PropertyChange, TextChange, History, is_directory_at, has_directory, deleted, node_put, copied, made_in, with_props, new_text, with_text, props_put, props_set, text_set, step, steps}
use Rattle.dump_trees.specs.Revisions.{loaded, loaded_over}
use Rattle.dump_trees.specs.steps.Looking.{Placed, placed_from, end_of, look}
use Rattle.dump_trees.specs.steps.Listing.{names_look}
use Rattle.dump_trees.proofs.expansions.LookLemmas.{look_finds_each}
use Rattle.dump_trees.proofs.expansions.NameLemmas.{names_are_looked}
use Rattle.dump_index.specs.steps.Listed.{Listed, listed_of, placed_of, all_placed, plain_props, plain_text}
use Rattle.dump_index.specs.steps.Kinds.{node_kind}
use Rattle.dump_index.specs.steps.InOrder.{are_in_order}
use Rattle.dump_index.specs.steps.Children.{is_child_named}
use Rattle.dump_index.specs.declared.change.NodeChange.{NodeChange}
use Rattle.dump_index.specs.steps.IndexLaws.{HasProps, HasText, IsListed, AreListed, KindsAreOfTrees, ChildrenAreOfTrees}
use Rattle.dump_index.specs.declared.change.NodeKind.{NodeKind}
use Rattle.dump_index.specs.declared.change.NodeKind.TheVariants.{Directory as ADirectory, File as AFile}
use Rattle.dump_index.specs.declared.change.Setting.{Setting}
use Rattle.dump_index.specs.declared.change.Setting.TheVariants.{Keeps, Replaces, Edits, EditsNothing}
use Rattle.dump_index.proofs.LawLemmas.{end_same}
use Rattle.std.proofs.lemmas.Option.{cond_some}
use Rattle.std.proofs.Math.Bool.{and-false}

-- ---- changes without what they set

abbrev plain_props_of : Option PropertyChange → Option PropertyChange
plain_props_of None = None
plain_props_of (Some (PropertyChange.Replaced entries)) = Some (PropertyChange.Replaced [])
plain_props_of (Some (PropertyChange.Edited entries)) = Some (PropertyChange.Edited [])

abbrev plain_text_of : Option TextChange → Option TextChange
plain_text_of None = None
plain_text_of (Some change) = Some (TextChange.Replaced [])

abbrev plain : Change → Change
plain c = record {
  path = c.path;
  deletes = c.deletes;
  made = c.made;
  props = plain_props_of c.props;
  text = plain_text_of c.text;
}

abbrev plain_placed : Placed → Placed
plain_placed p = record { revision = p.revision; change = plain p.change }

-- ---- trees of the same kinds

abbrev kind_at : Tree → NodePath → Option NodeKind
kind_at tree path = option_map node_kind (tree path)

abbrev AreSame : Tree → Tree → Type 0
AreSame one two = (path : NodePath) → kind_at one path ≡ kind_at two path

abbrev SameAfter : Option Tree → Tree → Type 0
SameAfter after tree = (two : Tree) × (after ≡ Some two) × AreSame tree two

abbrev directory_kind : Option NodeKind → Bool
directory_kind None = false
directory_kind (Some ADirectory) = true
directory_kind (Some AFile) = false

directory_is : (o : Option Node) → is_directory_node o ≡ directory_kind (option_map node_kind o)
directory_is None = refl
directory_is (Some (Node.Directory props)) = refl
directory_is (Some (Node.File props text)) = refl

some_is : (o : Option Node) → is_some o ≡ is_some (option_map node_kind o)
some_is None = refl
some_is (Some node) = refl

none_is : (o : Option Node) → is_none o ≡ is_none (option_map node_kind o)
none_is None = refl
none_is (Some node) = refl

same_some : (one two : Tree) → AreSame one two → (path : NodePath) → is_some (one path) ≡ is_some (two path)
same_some one two same path = some_is (one path) ∙ ap (λ k. is_some k) (same path) ∙ sym (some_is (two path))

same_none : (one two : Tree) → AreSame one two → (path : NodePath) → is_none (one path) ≡ is_none (two path)
same_none one two same path = none_is (one path) ∙ ap (λ k. is_none k) (same path) ∙ sym (none_is (two path))

same_directory : (one two : Tree) → AreSame one two → (path : NodePath) → has_directory one path ≡ has_directory two path
same_directory one two same path = cases (parent_of path)
  where
    cases : (o : Option NodePath) → is_directory_at one o ≡ is_directory_at two o
    cases None = refl
    cases (Some parent) = directory_is (one parent) ∙ ap directory_kind (same parent) ∙ sym (directory_is (two parent))

same_graft : (top : NodePath) (one two new other : Tree) → AreSame one two → AreSame new other
    → AreSame (grafted top new one) (grafted top other two)
same_graft top one two new other same news path = cases (below top path)
  where
    cases : (o : Option NodePath)
        → option_map node_kind (at_or_below o new (one path)) ≡ option_map node_kind (at_or_below o other (two path))
    cases None = same path
    cases (Some rest) = news rest

same_put : (top : NodePath) (one two : Tree) (node : Node) → AreSame one two → AreSame (put top node one) (put top node two)
same_put top one two node same path = cases (below top path)
  where
    cases : (o : Option NodePath)
        → option_map node_kind (at_top o node (one path)) ≡ option_map node_kind (at_top o node (two path))
    cases None = same path
    cases (Some []) = refl
    cases (Some (name ∷ rest)) = same path

at_path : (top path : NodePath) → below top path ≡ Some [] → path ≡ top
at_path [] path is = ap (λ o. Rattle.std.proofs.Common.unwrap_or o path) is
at_path (name ∷ top) [] is = absurd (let bad : None ≡ Some [] = is in cc)
at_path (name ∷ top) (other ∷ path) is = cases (at_path top path) (bytes_eq name other) refl is
  where
    cases : (below top path ≡ Some [] → path ≡ top) → (b : Bool) → bytes_eq name other ≡ b
        → cond b (below top path) None ≡ Some [] → other ∷ path ≡ name ∷ top
    cases further true same is =
        ap₂ (λ n (p : NodePath). n ∷ p) (sym ((bytes_eq-Decides name other).0 same)) (further is)
    cases further false same is = absurd (let bad : None ≡ Some [] = is in cc)

-- a node that is replaced by another one of the same kind
put_kept : (top : NodePath) (tree : Tree) (node : Node) → Some (node_kind node) ≡ kind_at tree top → AreSame (put top node tree) tree
put_kept top tree node kind path = cases (below top path) refl
  where
    cases : (o : Option NodePath) → below top path ≡ o → option_map node_kind (at_top o node (tree path)) ≡ kind_at tree path
    cases None is = refl
    cases (Some []) is = kind ∙ ap (kind_at tree) (sym (at_path top path is))
    cases (Some (name ∷ rest)) is = refl

-- ---- one change

deleted_same : (deletes : Bool) (top : NodePath) (one two after : Tree) → AreSame one two → deleted deletes top one ≡ Some after
    → SameAfter (deleted deletes top two) after
deleted_same false top one two after same is =
    (two, refl, subst (λ (t : Tree). AreSame t two) (ap (λ o. Rattle.std.proofs.Common.unwrap_or o one) is) same)
deleted_same true top one two after same is =
    let parts = cond_some (is_some (parent_of top) && is_some (one top)) (grafted top empty_tree one) after is in (
      grafted top empty_tree two,
      ap (λ b. cond b (Some (grafted top empty_tree two)) None)
          (ap (λ b. is_some (parent_of top) && b) (sym (same_some one two same top)) ∙ parts.0),
      subst (λ (t : Tree). AreSame t (grafted top empty_tree two)) parts.1
          (same_graft top one two empty_tree empty_tree same (λ rest. refl)),
    )

put_same : (node : Node) (top : NodePath) (one two after : Tree) → AreSame one two → node_put node top one ≡ Some after
    → SameAfter (node_put node top two) after
put_same node top one two after same is =
    let parts = cond_some (is_none (one top) && has_directory one top) (put top node one) after is in (
      put top node two,
      ap (λ b. cond b (Some (put top node two)) None)
          (ap₂ (λ a b. a && b) (sym (same_none one two same top)) (sym (same_directory one two same top)) ∙ parts.0),
      subst (λ (t : Tree). AreSame t (put top node two)) parts.1 (same_put top one two node same),
    )

abbrev SameHistory : History → History → Type 0
SameHistory one two = (number : ℕ) (tree : Tree) → one number ≡ Some tree → SameAfter (two number) tree

copied_same : (source top : NodePath) (one two old other after : Tree) → AreSame one two → AreSame old other
    → copied source top one old ≡ Some after → SameAfter (copied source top two other) after
copied_same source top one two old other after same olds is =
    let parts = cond_some (is_some (old source) && has_directory one top) (grafted top (λ rest. old (source ++ rest)) one) after is in (
      grafted top (λ rest. other (source ++ rest)) two,
      ap (λ b. cond b (Some (grafted top (λ rest. other (source ++ rest)) two)) None)
          (ap₂ (λ a b. a && b) (sym (same_some old other olds source)) (sym (same_directory one two same top)) ∙ parts.0),
      subst (λ (t : Tree). AreSame t (grafted top (λ rest. other (source ++ rest)) two)) parts.1
          (same_graft top one two (λ rest. old (source ++ rest)) (λ rest. other (source ++ rest)) same
          (λ rest. olds (source ++ rest))),
    )

made_same : (history others : History) → SameHistory history others → (made : Option Made) (top : NodePath)
    (one two after : Tree) → AreSame one two → made_in history made top one ≡ Some after
    → SameAfter (made_in others made top two) after
made_same history others histories None top one two after same is =
    (two, refl, subst (λ (t : Tree). AreSame t two) (ap (λ o. Rattle.std.proofs.Common.unwrap_or o one) is) same)
made_same history others histories (Some Made.NewDirectory) top one two after same is =
    put_same (Node.Directory []) top one two after same is
made_same history others histories (Some Made.NewFile) top one two after same is =
    put_same (Node.File [] []) top one two after same is
made_same history others histories (Some (Made.Copied number source)) top one two after same is =
    cases (history number) refl is
  where
    cases : (o : Option Tree) → history number ≡ o → option_and_then (λ old. copied source top one old) o ≡ Some after
        → SameAfter (made_in others (Some (Made.Copied number source)) top two) after
    cases None at is = absurd (let bad : None ≡ Some after = is in cc)
    cases (Some old) at is =
        let other = histories number old at in
        let left = copied_same source top one two old other.0 after same other.2 is in
        (left.0, ap (option_and_then (λ t. copied source top two t)) other.1 ∙ left.1, left.2)

kind_with : (change : PropertyChange) (node : Node) → node_kind (with_props change node) ≡ node_kind node
kind_with change (Node.Directory props) = refl
kind_with change (Node.File props text) = refl

-- properties that are set in one tree, and in another one or not
props_one : (change : PropertyChange) (top : NodePath) (one after : Tree) → props_put change top one ≡ Some after
    → AreSame after one × (is_some (one top) ≡ true)
props_one change top one after is = cases (one top) refl is
  where
    cases : (o : Option Node) → one top ≡ o → option_map (λ node. put top (with_props change node) one) o ≡ Some after
        → AreSame after one × (is_some o ≡ true)
    cases None at is = absurd (let bad : None ≡ Some after = is in cc)
    cases (Some node) at is = (
      subst (λ (t : Tree). AreSame t one)
          (ap (λ o. Rattle.std.proofs.Common.unwrap_or o (put top (with_props change node) one)) is)
          (put_kept top one (with_props change node)
          (ap (λ k. Some k) (kind_with change node) ∙ sym (ap (option_map node_kind) at))),
      refl,
    )

props_two : (change : PropertyChange) (top : NodePath) (two : Tree) → is_some (two top) ≡ true
    → (after : Tree) × (props_put change top two ≡ Some after) × AreSame after two
props_two change top two some = cases (two top) refl some
  where
    cases : (o : Option Node) → two top ≡ o → is_some o ≡ true
        → (after : Tree) × (option_map (λ node. put top (with_props change node) two) o ≡ Some after) × AreSame after two
    cases None at some = absurd (let bad : false ≡ true = some in cc)
    cases (Some node) at some = (
      put top (with_props change node) two,
      refl,
      put_kept top two (with_props change node)
          (ap (λ k. Some k) (kind_with change node) ∙ sym (ap (option_map node_kind) at)),
    )

props_same : (o : Option PropertyChange) (top : NodePath) (one two after : Tree) → AreSame one two
    → props_set o top one ≡ Some after → SameAfter (props_set (plain_props_of o) top two) after
props_same None top one two after same is =
    (two, refl, subst (λ (t : Tree). AreSame t two) (ap (λ o. Rattle.std.proofs.Common.unwrap_or o one) is) same)
props_same (Some (PropertyChange.Replaced entries)) top one two after same is =
    let first = props_one (PropertyChange.Replaced entries) top one after is in
    let second = props_two (PropertyChange.Replaced []) top two (sym (same_some one two same top) ∙ first.1) in
    (second.0, second.1, λ path. first.0 path ∙ same path ∙ sym (second.2 path))
props_same (Some (PropertyChange.Edited [])) top one two after same is =
    (two, refl, subst (λ (t : Tree). AreSame t two) (ap (λ o. Rattle.std.proofs.Common.unwrap_or o one) is) same)
props_same (Some (PropertyChange.Edited (entry ∷ entries))) top one two after same is =
    let first = props_one (PropertyChange.Edited (entry ∷ entries)) top one after is in
    (two, refl, λ path. first.0 path ∙ same path)

text_one : (change : TextChange) (top : NodePath) (one after : Tree) → text_set (Some change) top one ≡ Some after
    → AreSame after one × (kind_at one top ≡ Some AFile)
text_one change top one after is = cases (one top) refl is
  where
    set : (props : List Property) (old : List ℕ) → one top ≡ Some (Node.File props old) → (o : Option (List ℕ))
        → option_map (λ node. put top node one) (option_map (λ text. Node.File props text) o) ≡ Some after
        → AreSame after one
    set props old at None is = absurd (let bad : None ≡ Some after = is in cc)
    set props old at (Some new) is =
        subst (λ (t : Tree). AreSame t one) (ap (λ o. Rattle.std.proofs.Common.unwrap_or o (put top (Node.File props new) one)) is)
        (put_kept top one (Node.File props new) (sym (ap (option_map node_kind) at)))

    cases : (o : Option Node) → one top ≡ o
        → option_map (λ node. put top node one) (option_and_then (λ node. with_text change node) o) ≡ Some after
        → AreSame after one × (option_map node_kind o ≡ Some AFile)
    cases None at is = absurd (let bad : None ≡ Some after = is in cc)
    cases (Some (Node.Directory props)) at is = absurd (let bad : None ≡ Some after = is in cc)
    cases (Some (Node.File props old)) at is = (set props old at (new_text change old) is, refl)

text_two : (top : NodePath) (two : Tree) → kind_at two top ≡ Some AFile
    → (after : Tree) × (text_set (Some (TextChange.Replaced [])) top two ≡ Some after) × AreSame after two
text_two top two kind = cases (two top) refl kind
  where
    cases : (o : Option Node) → two top ≡ o → option_map node_kind o ≡ Some AFile
        → (after : Tree)
        × (option_map (λ node. put top node two) (option_and_then (λ node. with_text (TextChange.Replaced []) node) o) ≡ Some after)
        × AreSame after two
    cases None at kind = absurd (let bad : None ≡ Some AFile = kind in cc)
    cases (Some (Node.Directory props)) at kind = absurd (let bad : Some ADirectory ≡ Some AFile = kind in cc)
    cases (Some (Node.File props old)) at kind =
        (put top (Node.File props []) two, refl, put_kept top two (Node.File props []) (sym (ap (option_map node_kind) at)))

text_same : (o : Option TextChange) (top : NodePath) (one two after : Tree) → AreSame one two
    → text_set o top one ≡ Some after → SameAfter (text_set (plain_text_of o) top two) after
text_same None top one two after same is =
    (two, refl, subst (λ (t : Tree). AreSame t two) (ap (λ o. Rattle.std.proofs.Common.unwrap_or o one) is) same)
text_same (Some change) top one two after same is =
    let first = text_one change top one after is in
    let second = text_two top two (sym (same top) ∙ first.1) in
    (second.0, second.1, λ path. first.0 path ∙ same path ∙ sym (second.2 path))

-- one step after the other
then_same : (f g : Tree → Option Tree) → ((one two after : Tree) → AreSame one two → f one ≡ Some after → SameAfter (g two) after)
    → (o p : Option Tree) → ((tree : Tree) → o ≡ Some tree → SameAfter p tree)
    → (after : Tree) → option_and_then f o ≡ Some after → SameAfter (option_and_then g p) after
then_same f g each None p first after is = absurd (let bad : None ≡ Some after = is in cc)
then_same f g each (Some one) p first after is =
    let two = first one refl in
    let left = each one two.0 after two.2 is in
    (left.0, ap (option_and_then g) two.1 ∙ left.1, left.2)

step_same : (history others : History) → SameHistory history others → (c : Change) (one two after : Tree) → AreSame one two
    → step history one c ≡ Some after → SameAfter (step others two (plain c)) after
step_same history others histories c one two after same is =
    then_same (λ t. text_set c.text c.path t) (λ t. text_set (plain_text_of c.text) c.path t)
    (λ a b x s e. text_same c.text c.path a b x s e) _ _
    (λ t3 is3. then_same (λ t. props_set c.props c.path t) (λ t. props_set (plain_props_of c.props) c.path t)
    (λ a b x s e. props_same c.props c.path a b x s e) _ _
    (λ t2 is2. then_same (λ t. made_in history c.made c.path t) (λ t. made_in others c.made c.path t)
    (λ a b x s e. made_same history others histories c.made c.path a b x s e) _ _
    (λ t1 is1. deleted_same c.deletes c.path one two t1 same is1) t2 is2) t3 is3) after is

steps_same : (history others : History) → SameHistory history others → (changes : List Change) (one two after : Tree)
    → AreSame one two → steps history one changes ≡ Some after → SameAfter (steps others two (map plain changes)) after
steps_same history others histories [] one two after same is =
    (two, refl, subst (λ (t : Tree). AreSame t two) (ap (λ o. Rattle.std.proofs.Common.unwrap_or o one) is) same)
steps_same history others histories (c ∷ changes) one two after same is =
    then_same (λ t. steps history t changes) (λ t. steps others t (map plain changes))
    (λ a b x s e. steps_same history others histories changes a b x s e) (step history one c) (step others two (plain c))
    (λ tree is1. step_same history others histories c one two tree same is1) after is

-- ---- histories

zip_push : (trees others : List Tree) (one two : Tree) → AllZip AreSame trees others → AreSame one two
    → AllZip AreSame (trees ++ one ∷ []) (others ++ two ∷ [])
zip_push [] [] one two all same = (same, tt)
zip_push [] (t ∷ others) one two all same = absurd all
zip_push (t ∷ trees) [] one two all same = absurd all
zip_push (t ∷ trees) (u ∷ others) one two all same = (all.0, zip_push trees others one two all.1 same)

zip_get : (trees others : List Tree) → AllZip AreSame trees others → SameHistory (slice_get trees) (slice_get others)
zip_get [] [] all number tree at = absurd (let bad : None ≡ Some tree = at in cc)
zip_get [] (u ∷ others) all number tree at = absurd all
zip_get (t ∷ trees) [] all number tree at = absurd all
zip_get (t ∷ trees) (u ∷ others) all zero tree at =
    (u, refl, subst (λ (x : Tree). AreSame x u) (ap (λ o. Rattle.std.proofs.Common.unwrap_or o t) at) all.0)
zip_get (t ∷ trees) (u ∷ others) all (suc number) tree at = zip_get trees others all.1 number tree at

loaded_same : (revisions : List (List Change)) (trees others : List Tree) (one two : Tree) (result : List Tree)
    → AllZip AreSame trees others → AreSame one two → loaded trees one revisions ≡ Some result
    → (plainly : List Tree) × (loaded others two (map (map plain) revisions) ≡ Some plainly) × AllZip AreSame result plainly
loaded_same [] trees others one two result all same is =
    (others, refl, subst (λ (ts : List Tree). AllZip AreSame ts others) (ap (λ o. Rattle.std.proofs.Common.unwrap_or o trees) is) all)
loaded_same (changes ∷ revisions) trees others one two result all same is =
    cases (λ tree other both is. loaded_same revisions (trees ++ tree ∷ []) (others ++ other ∷ []) tree other result
    (zip_push trees others tree other all both) both is) (steps (slice_get trees) one changes) refl is
  where
    cases : ((tree other : Tree) → AreSame tree other → loaded (trees ++ tree ∷ []) tree revisions ≡ Some result
        → (plainly : List Tree) × (loaded (others ++ other ∷ []) other (map (map plain) revisions) ≡ Some plainly)
        × AllZip AreSame result plainly)
        → (o : Option Tree) → steps (slice_get trees) one changes ≡ o
        → option_and_then (λ tree. loaded (trees ++ tree ∷ []) tree revisions) o ≡ Some result
        → (plainly : List Tree)
        × (option_and_then (λ tree. loaded (others ++ tree ∷ []) tree (map (map plain) revisions))
        (steps (slice_get others) two (map plain changes)) ≡ Some plainly) × AllZip AreSame result plainly
    cases further None at is = absurd (let bad : None ≡ Some result = is in cc)
    cases further (Some tree) at is =
        let after = steps_same (slice_get trees) (slice_get others) (zip_get trees others all) changes one two tree same at in
        let left = further tree after.0 after.2 is in (
          left.0,
          ap (option_and_then (λ (t : Tree). loaded (others ++ t ∷ []) t (map (map plain) revisions))) after.1 ∙ left.1,
          left.2,
        )

-- ---- what an index says about them

props_plain : (s : Setting) (o : Option PropertyChange) → HasProps s o → plain_props s ≡ plain_props_of o
props_plain Keeps None has = refl
props_plain Keeps (Some change) has = absurd has
props_plain Replaces None has = absurd has
props_plain Replaces (Some (PropertyChange.Replaced entries)) has = refl
props_plain Replaces (Some (PropertyChange.Edited entries)) has = absurd has
props_plain Edits None has = absurd has
props_plain Edits (Some (PropertyChange.Replaced entries)) has = absurd has
props_plain Edits (Some (PropertyChange.Edited entries)) has = refl
props_plain EditsNothing None has = absurd has
props_plain EditsNothing (Some (PropertyChange.Replaced entries)) has = absurd has
props_plain EditsNothing (Some (PropertyChange.Edited entries)) has = refl

text_plain : (s : Setting) (o : Option TextChange) → HasText s o → plain_text s ≡ plain_text_of o
text_plain Keeps None has = refl
text_plain Keeps (Some change) has = absurd has
text_plain Replaces None has = absurd has
text_plain Replaces (Some change) has = refl
text_plain Edits None has = absurd has
text_plain Edits (Some change) has = refl
text_plain EditsNothing o has = absurd has

placed_plain : (l : Listed) (p : Placed) → IsListed l p → placed_of l ≡ plain_placed p
placed_plain l p is = λ i. record {
  revision = sym is.revision i;
  change = record {
    path = sym is.path i;
    deletes = sym is.deletes i;
    made = sym is.made i;
    props = props_plain l.props p.change.props is.props i;
    text = text_plain l.text p.change.text is.text i;
  };
}

all_plain : (listed : List Listed) (placed : List Placed) → AllZip IsListed listed placed
    → all_placed listed ≡ map plain_placed placed
all_plain [] [] all = refl
all_plain [] (p ∷ placed) all = absurd all
all_plain (l ∷ listed) [] all = absurd all
all_plain (l ∷ listed) (p ∷ placed) all =
    ap₂ (λ (q : Placed) (qs : List Placed). q ∷ qs) (placed_plain l p all.0) (all_plain listed placed all.1)

from_plain : (number : ℕ) (revisions : List (List Change))
    → map plain_placed (placed_from number revisions) ≡ placed_from number (map (map plain) revisions)
from_plain number [] = refl
from_plain number (changes ∷ revisions) =
    map-append plain_placed (map (λ (c : Change). record { revision = number; change = c }) changes) (placed_from (suc number) revisions)
    ∙ ap₂ (λ (x : List Placed) (y : List Placed). x ++ y) (one changes) (from_plain (suc number) revisions)
  where
    one : (changes : List Change)
        → map plain_placed (map (λ (c : Change). record { revision = number; change = c }) changes)
        ≡ map (λ (c : Change). record { revision = number; change = c }) (map plain changes)
    one [] = refl
    one (c ∷ changes) = ap (λ (ps : List Placed). record { revision = number; change = plain c } ∷ ps) (one changes)

pub kinds_of_trees : KindsAreOfTrees
kinds_of_trees changes revisions trees number tree path ordered all loads at =
    let listed = map listed_of changes in
    let plainly = loaded_same revisions (root_alone ∷ []) (root_alone ∷ []) root_alone root_alone trees
    ((λ p. refl), tt) (λ p. refl) loads in
    let same : all_placed listed ≡ placed_from 1 (map (map plain) revisions)
    = all_plain listed (placed_from 1 revisions) all ∙ from_plain 1 revisions in
    let other = zip_get trees plainly.0 plainly.2 number tree at in
    ap₂ (λ n (ps : List Placed). option_map node_kind (look root_alone ps n path))
    (end_same listed (placed_from 1 revisions) all number ∙ ap (λ (ps : List Placed). end_of ps number) same) same
    ∙ ap (option_map node_kind) (look_finds_each root_alone (map (map plain) revisions) plainly.0 number other.0 path plainly.1 other.1)
    ∙ sym (other.2 path)

-- a name that exists in a tree is a name that can exist there
pub names_of_trees : (changes : List NodeChange) (revisions : List (List Change)) (trees : List Tree) (number : ℕ) (tree : Tree)
    (path : NodePath) (name : List ℕ) → are_in_order 0 changes ≡ true → AreListed changes (placed_from 1 revisions)
    → loaded_over root_alone revisions ≡ Some trees → slice_get trees number ≡ Some tree
    → is_some (tree (path ++ name ∷ [])) ≡ true
    → is_child_named (names_look (all_placed (map listed_of changes)) (end_of (placed_from 1 revisions) number) path) name ≡ true
names_of_trees changes revisions trees number tree path name ordered all loads at some =
    let listed = map listed_of changes in
    let plainly = loaded_same revisions (root_alone ∷ []) (root_alone ∷ []) root_alone root_alone trees
    ((λ p. refl), tt) (λ p. refl) loads in
    let same : all_placed listed ≡ placed_from 1 (map (map plain) revisions)
    = all_plain listed (placed_from 1 revisions) all ∙ from_plain 1 revisions in
    let other = zip_get trees plainly.0 plainly.2 number tree at in
    ap₂ (λ n (ps : List Placed). is_child_named (names_look ps n path) name)
    (end_same listed (placed_from 1 revisions) all number ∙ ap (λ (ps : List Placed). end_of ps number) same) same
    ∙ names_are_looked (map (map plain) revisions) plainly.0 number other.0 path name plainly.1 other.1
    (sym (same_some tree other.0 other.2 (path ++ name ∷ [])) ∙ some)

pub children_of_trees : ChildrenAreOfTrees
children_of_trees changes revisions trees number tree path names name ordered all loads at children =
    children.all name
    ∙ ap (λ b. is_child_named (names_look (all_placed (map listed_of changes)) (end_of (placed_from 1 revisions) number) path) name && b)
    (ap (λ k. is_some k) (kinds_of_trees changes revisions trees number tree (path ++ name ∷ []) ordered all loads at)
    ∙ sym (some_is (tree (path ++ name ∷ []))))
    ∙ cases (is_some (tree (path ++ name ∷ []))) refl
  where
    cases : (b : Bool) → is_some (tree (path ++ name ∷ [])) ≡ b
        → (is_child_named (names_look (all_placed (map listed_of changes)) (end_of (placed_from 1 revisions) number) path) name && b) ≡ b
    cases true some =
        ap (λ c. c && true) (names_of_trees changes revisions trees number tree path name ordered all loads at some)
    cases false none = and-false _
