-- What an index finds exists in the repository.
use Rattle.std.proofs.Common.{◌≡◌, ℕ, zero, suc, ◌+◌, ◌≤◌, Bool, true, false, ◌||◌, cond, List, [], ◌∷◌, map, Option, Some, None, is_some, option_map, nat_le, refl, sym, ap, ap₂, ◌∙◌, arith}
use Rattle.std.specs.Prelude.{slice_get}
use Rattle.std.specs.List.{AllZip}
use Rattle.std.proofs.lemmas.List.Sums.{sum_by-cons}
use Rattle.dump_text.specs.PropertyList.{Property}
use Rattle.dump_trees.specs.Paths.{NodePath, names_of, below}
use Rattle.dump_trees.specs.Trees.{Node, root_alone}
use Rattle.dump_trees.specs.Changes.{Made, PropertyChange, TextChange, is_copied, new_text}
use Rattle.dump_trees.specs.steps.Looking.{Placed, end_of, touches_rest, touches_path, holds_there, latest, Origin, origin_of, node_with_props, node_with_text, set_by, looked_up, left_at, left_there, look_behind, look}
use Rattle.dump_trees.proofs.expansions.BackLemmas.{LooksBack, look_back}
use Rattle.dump_trees.proofs.expansions.LookLemmas.{origin_source}
use Rattle.dump_index.specs.steps.Listed.{Listed, listed_of, placed_of, all_placed, plain_props, plain_text}
use Rattle.dump_index.specs.steps.Kinds.{node_kind, kind_look}
use Rattle.dump_index.specs.steps.IndexLaws.{HasProps, HasText, IsListed, KindsAreFound}
use Rattle.dump_index.specs.declared.change.NodeKind.TheVariants.{Directory as ADirectory, File as AFile}
use Rattle.dump_index.specs.declared.change.Setting.{Setting}
use Rattle.dump_index.specs.declared.change.Setting.TheVariants.{Keeps, Replaces, Edits, EditsNothing}
use Rattle.dump_index.proofs.KeyLemmas.{get-map}
use Rattle.dump_index.proofs.OrderLemmas.{all_look_back}

-- one more change

pub look_one_more : (placed : List Placed) → LooksBack placed → (path : NodePath) (n : ℕ)
    → look root_alone placed (suc n) path
    ≡ cond (holds_there (touches_path path) (slice_get placed n))
    (left_there (look root_alone placed) placed n path (slice_get placed n)) (look root_alone placed n path)
look_one_more placed back path n =
    look_back placed back root_alone (suc n) path ∙ cases (holds_there (touches_path path) (slice_get placed n))
  where
    cases : (b : Bool) → look_behind (look root_alone placed) root_alone placed path
        (cond b (Some n) (latest (touches_path path) placed n))
        ≡ cond b (left_there (look root_alone placed) placed n path (slice_get placed n)) (look root_alone placed n path)
    cases true = refl
    cases false = sym (look_back placed back root_alone n path)

-- lists that say the same

pub end_same : (listed : List Listed) (placed : List Placed) → AllZip IsListed listed placed → (number : ℕ)
    → end_of placed number ≡ end_of (all_placed listed) number
end_same [] [] all number = refl
end_same [] (p ∷ placed) all number = absurd all
end_same (l ∷ listed) [] all number = absurd all
end_same (l ∷ listed) (p ∷ placed) all number =
    sum_by-cons (λ (q : Placed). cond (nat_le q.revision number) 1 0) p placed
    ∙ ap₂ (λ r n. cond (nat_le r number) 1 0 + n) all.0.revision (end_same listed placed all.1 number)
    ∙ sym (sum_by-cons (λ (q : Placed). cond (nat_le q.revision number) 1 0) (placed_of l) (all_placed listed))

-- the change at a place in both lists
pub data Both (listed : List Listed) (placed : List Placed) (n : ℕ) : Type 0 where
  Neither : slice_get listed n ≡ None → slice_get placed n ≡ None → Both listed placed n
  One : (l : Listed) (p : Placed) → slice_get listed n ≡ Some l → slice_get placed n ≡ Some p → IsListed l p
      → Both listed placed n

pub both_at : (listed : List Listed) (placed : List Placed) → AllZip IsListed listed placed → (n : ℕ)
    → Both listed placed n
both_at [] [] all n = Neither refl refl
both_at [] (p ∷ placed) all n = absurd all
both_at (l ∷ listed) [] all n = absurd all
both_at (l ∷ listed) (p ∷ placed) all zero = One l p refl refl all.0
both_at (l ∷ listed) (p ∷ placed) all (suc n) = behind (both_at listed placed all.1 n)
  where
    behind : Both listed placed n → Both (l ∷ listed) (p ∷ placed) (suc n)
    behind (Neither one two) = Neither one two
    behind (One m q one two is) = One m q one two is

pub back_same : (listed : List Listed) (placed : List Placed) → AllZip IsListed listed placed
    → LooksBack (all_placed listed) → LooksBack placed
back_same listed placed all back place p at number source made = cases (both_at listed placed all place)
  where
    cases : Both listed placed place → end_of placed number ≤ place
    cases (Neither one two) = absurd (let bad : None ≡ Some p = sym two ∙ at in cc)
    cases (One l q one two is) =
        let same : q ≡ p = (let both : Some q ≡ Some p = sym two ∙ at in cc) in
        let its : l.made ≡ Some (Made.Copied number source)
        = sym is.made ∙ ap (λ (r : Placed). r.change.made) same ∙ made in
        let end = back place (placed_of l) (get-map placed_of listed place ∙ ap (option_map placed_of) one) number source its in
        let ends = end_same listed placed all number in
        omega arith

-- whether the change sets something

some_props : (s : Setting) (o : Option PropertyChange) → HasProps s o → is_some o ≡ is_some (plain_props s)
some_props Keeps None has = refl
some_props Keeps (Some change) has = absurd has
some_props Replaces None has = absurd has
some_props Replaces (Some change) has = refl
some_props Edits None has = absurd has
some_props Edits (Some change) has = refl
some_props EditsNothing None has = absurd has
some_props EditsNothing (Some change) has = refl

some_text : (s : Setting) (o : Option TextChange) → HasText s o → is_some o ≡ is_some (plain_text s)
some_text Keeps None has = refl
some_text Keeps (Some change) has = absurd has
some_text Replaces None has = absurd has
some_text Replaces (Some change) has = refl
some_text Edits None has = absurd has
some_text Edits (Some change) has = refl
some_text EditsNothing o has = absurd has

pub touch_listed : (l : Listed) (p : Placed) → IsListed l p → (path : NodePath)
    → touches_path path p.change ≡ touches_path path (placed_of l).change
touch_listed l p is path =
    ap (λ (top : NodePath). touches_rest (below top path) p.change) is.path ∙ cases (below (names_of l.path) path)
  where
    cases : (rest : Option NodePath) → touches_rest rest p.change ≡ touches_rest rest (placed_of l).change
    cases None = refl
    cases (Some []) =
        ap₂ (λ a b. a || b)
        (ap₂ (λ a b. a || b) (ap₂ (λ d m. d || is_some m) is.deletes is.made) (some_props l.props p.change.props is.props))
        (some_text l.text p.change.text is.text)
    cases (Some (name ∷ rest)) = ap₂ (λ d m. d || is_copied m) is.deletes is.made

-- setting properties doesn't change the kind

kind_props_kept : (o : Option PropertyChange) (node : Option Node)
    → option_map node_kind (node_with_props o node) ≡ option_map node_kind node
kind_props_kept None some = refl
kind_props_kept (Some change) None = refl
kind_props_kept (Some change) (Some (Node.Directory props)) = refl
kind_props_kept (Some change) (Some (Node.File props text)) = refl

-- if a text is set, it is set on a file, which remains a file
file_left : (change : TextChange) (props : List Property) (text : List ℕ) (node : Node)
    → option_map (λ new. Node.File props new) (new_text change text) ≡ Some node → node_kind node ≡ AFile
file_left change props text node is = cases (new_text change text) is
  where
    cases : (o : Option (List ℕ)) → option_map (λ new. Node.File props new) o ≡ Some node → node_kind node ≡ AFile
    cases None is = absurd (let bad : None ≡ Some node = is in cc)
    cases (Some new) is =
        let same : Node.File props new ≡ node = (let both : Some (Node.File props new) ≡ Some node = is in cc) in
        sym (ap node_kind same)

file_stays : (change : TextChange) (one two : Option Node) (node : Node) → node_with_text (Some change) one ≡ Some node
    → (option_map node_kind one ≡ option_map node_kind two)
    → option_map node_kind (node_with_text (Some (TextChange.Replaced [])) two) ≡ Some (node_kind node)
file_stays change None two node is same = absurd (let bad : None ≡ Some node = is in cc)
file_stays change (Some (Node.Directory props)) two node is same = absurd (let bad : None ≡ Some node = is in cc)
file_stays change (Some (Node.File props text)) None node is same = absurd (let bad : Some AFile ≡ None = same in cc)
file_stays change (Some (Node.File props text)) (Some (Node.Directory others)) node is same =
    absurd (let bad : Some AFile ≡ Some ADirectory = same in cc)
file_stays change (Some (Node.File props text)) (Some (Node.File others old)) node is same =
    sym (ap (λ k. Some k) (file_left change props text node is))

kind_text_kept : (s : Setting) (o : Option TextChange) → HasText s o → (one two : Option Node) (node : Node)
    → node_with_text o one ≡ Some node → (option_map node_kind one ≡ option_map node_kind two)
    → option_map node_kind (node_with_text (plain_text s) two) ≡ Some (node_kind node)
kind_text_kept Keeps None has one two node is same = sym same ∙ ap (option_map node_kind) is
kind_text_kept Keeps (Some change) has one two node is same = absurd has
kind_text_kept Replaces None has one two node is same = absurd has
kind_text_kept Replaces (Some change) has one two node is same = file_stays change one two node is same
kind_text_kept Edits None has one two node is same = absurd has
kind_text_kept Edits (Some change) has one two node is same = file_stays change one two node is same
kind_text_kept EditsNothing o has one two node is same = absurd has

-- nothing is set if nothing exists
pub none_set : (text : Option TextChange) (props : Option PropertyChange)
    → node_with_text text (node_with_props props None) ≡ None
none_set None None = refl
none_set None (Some change) = refl
none_set (Some text) None = refl
none_set (Some text) (Some change) = refl

set_kept : (l : Listed) (p : Placed) → IsListed l p → (rest : NodePath) (one two : Option Node) (node : Node)
    → ((other : Node) → one ≡ Some other → option_map node_kind two ≡ Some (node_kind other))
    → set_by p.change rest one ≡ Some node
    → option_map node_kind (set_by (placed_of l).change rest two) ≡ Some (node_kind node)
set_kept l p is [] None two node further set =
    absurd (let bad : None ≡ Some node = sym (none_set p.change.text p.change.props) ∙ set in cc)
set_kept l p is [] (Some other) two node further set =
    kind_text_kept l.text p.change.text is.text (node_with_props p.change.props (Some other))
    (node_with_props (plain_props l.props) two) node set
    (kind_props_kept p.change.props (Some other) ∙ sym (further other refl) ∙ sym (kind_props_kept (plain_props l.props) two))
set_kept l p is (name ∷ names) one two node further set = further node set

-- the kinds

module _ (listed : List Listed) (placed : List Placed) (all : AllZip IsListed listed placed) (back : LooksBack placed)
    (plain : LooksBack (all_placed listed)) where
  abbrev FoundUpTo : ℕ → Type 0
  FoundUpTo bound = (count : ℕ) (path : NodePath) (node : Node) → count ≤ bound
      → look root_alone placed count path ≡ Some node → kind_look listed count path ≡ Some (node_kind node)

  module _ (n : ℕ) (further : FoundUpTo n) (path : NodePath) where
    -- what has another origin
    origin_found : (l : Listed) (p : Placed) → slice_get placed n ≡ Some p → IsListed l p → (rest : NodePath) (node : Node)
        → looked_up (look root_alone placed) placed n path (origin_of p.change.deletes p.change.made rest) ≡ Some node
        → option_map node_kind (looked_up (look root_alone (all_placed listed)) (all_placed listed) n path
        (origin_of l.deletes l.made rest)) ≡ Some (node_kind node)
    origin_found l p at is rest node found =
        ap₂ (λ d m. option_map node_kind (looked_up (look root_alone (all_placed listed)) (all_placed listed) n path
        (origin_of d m rest))) (sym is.deletes) (sym is.made)
        ∙ cases (origin_of p.change.deletes p.change.made rest) refl found
      where
        cases : (o : Origin) → origin_of p.change.deletes p.change.made rest ≡ o
            → looked_up (look root_alone placed) placed n path o ≡ Some node
            → option_map node_kind (looked_up (look root_alone (all_placed listed)) (all_placed listed) n path o)
            ≡ Some (node_kind node)
        cases Origin.Nowhere o_is found = absurd (let bad : None ≡ Some node = found in cc)
        cases (Origin.New other) o_is found = ap (option_map node_kind) found
        cases Origin.Before o_is found = further n path node (omega arith) found
        cases (Origin.From number source) o_is found =
            let made = origin_source p.change.deletes p.change.made rest number source o_is in
            let end = back n p at number made.0 made.1 in
            ap (λ e. kind_look listed e source) (sym (end_same listed placed all number))
            ∙ further (end_of placed number) source node end found

    left_found : (l : Listed) (p : Placed) → slice_get placed n ≡ Some p → IsListed l p → (rest : Option NodePath)
        (node : Node) → left_at (look root_alone placed) placed n path p.change rest ≡ Some node
        → option_map node_kind (left_at (look root_alone (all_placed listed)) (all_placed listed) n path
        (placed_of l).change rest) ≡ Some (node_kind node)
    left_found l p at is None node found = further n path node (omega arith) found
    left_found l p at is (Some rest) node found =
        set_kept l p is rest
        (looked_up (look root_alone placed) placed n path (origin_of p.change.deletes p.change.made rest))
        (looked_up (look root_alone (all_placed listed)) (all_placed listed) n path (origin_of l.deletes l.made rest)) node
        (λ other came. origin_found l p at is rest other came) found

    next_found : (node : Node) → look root_alone placed (suc n) path ≡ Some node
        → kind_look listed (suc n) path ≡ Some (node_kind node)
    next_found node found =
        ap (option_map node_kind) (look_one_more (all_placed listed) plain path n
        ∙ ap (λ o. cond (holds_there (touches_path path) o)
        (left_there (look root_alone (all_placed listed)) (all_placed listed) n path o)
        (look root_alone (all_placed listed) n path)) (get-map placed_of listed n))
        ∙ cases (both_at listed placed all n) (sym (look_one_more placed back path n) ∙ found)
      where
        either : (l : Listed) (p : Placed) → slice_get placed n ≡ Some p → IsListed l p → (t : Bool)
            → cond t (left_at (look root_alone placed) placed n path p.change (below p.change.path path))
            (look root_alone placed n path) ≡ Some node
            → option_map node_kind (cond t (left_at (look root_alone (all_placed listed)) (all_placed listed) n path
            (placed_of l).change (below (names_of l.path) path)) (look root_alone (all_placed listed) n path))
            ≡ Some (node_kind node)
        either l p at is true found =
            left_found l p at is (below (names_of l.path) path) node
            (ap (λ (top : NodePath). left_at (look root_alone placed) placed n path p.change (below top path)) (sym is.path)
            ∙ found)
        either l p at is false found = further n path node (omega arith) found

        cases : Both listed placed n
            → cond (holds_there (touches_path path) (slice_get placed n))
            (left_there (look root_alone placed) placed n path (slice_get placed n)) (look root_alone placed n path) ≡ Some node
            → option_map node_kind (cond (holds_there (touches_path path) (option_map placed_of (slice_get listed n)))
            (left_there (look root_alone (all_placed listed)) (all_placed listed) n path (option_map placed_of (slice_get listed n)))
            (look root_alone (all_placed listed) n path)) ≡ Some (node_kind node)
        cases (Neither one two) found =
            ap (λ o. option_map node_kind (cond (holds_there (touches_path path) (option_map placed_of o))
            (left_there (look root_alone (all_placed listed)) (all_placed listed) n path (option_map placed_of o))
            (look root_alone (all_placed listed) n path))) one
            ∙ further n path node (omega arith)
            (sym (ap (λ o. cond (holds_there (touches_path path) o) (left_there (look root_alone placed) placed n path o)
            (look root_alone placed n path)) two) ∙ found)
        cases (One l p one two is) found =
            ap (λ o. option_map node_kind (cond (holds_there (touches_path path) (option_map placed_of o))
            (left_there (look root_alone (all_placed listed)) (all_placed listed) n path (option_map placed_of o))
            (look root_alone (all_placed listed) n path))) one
            ∙ either l p two is (touches_path path (placed_of l).change)
            (sym (ap (λ b. cond b (left_at (look root_alone placed) placed n path p.change (below p.change.path path))
            (look root_alone placed n path)) (touch_listed l p is path))
            ∙ sym (ap (λ o. cond (holds_there (touches_path path) o) (left_there (look root_alone placed) placed n path o)
            (look root_alone placed n path)) two) ∙ found)

  found_up_to : (bound : ℕ) → FoundUpTo bound
  found_up_to bound zero path node low found = ap (option_map node_kind) found
  found_up_to zero (suc n) path node low found = absurd (omega arith)
  found_up_to (suc bound) (suc n) path node low found =
      next_found n (λ count other some less is. found_up_to bound count other some (omega arith) is) path node found

pub kinds_found : KindsAreFound
kinds_found changes placed count path node ordered all is =
    let plain = all_look_back changes ordered in
    found_up_to (map listed_of changes) placed all (back_same (map listed_of changes) placed all plain) plain count count path
    node (omega arith) is
