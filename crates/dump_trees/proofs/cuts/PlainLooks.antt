-- Looking back over changes finds what exists even if their properties and texts aren't known.
use Rattle.dump_trees.proofs.Prelude.{◌≡◌, not, ◌||◌, zero, suc, ◌+◌, ◌≤◌, cond, nat_le, refl, sym, ap, ap₂, ◌∙◌, subst, arith, append-nil, option_map, slice_get, AllZip, NodePath, below, Node, Tree, TextChange, History, is_copied}
use Rattle.std.proofs.Common.{ℕ, Bool, true, false, List, [], ◌∷◌, length, Option, Some, None, option_and_then, is_some}
use Rattle.std.proofs.lemmas.Option.{same_Some}
use Rattle.dump_trees.specs.steps.Looking.{Placed, placed_from, end_of, touches_rest, touches_path, holds_there, latest, Origin, origin_of, node_with_props, node_with_text, set_by, looked_up, left_at, left_there, look_behind, look_within}
use Rattle.dump_trees.specs.steps.LoadCheck.{Kind, kind_of_node, kind_at, node_from, patches_text, HasSameKinds, PlainLooksTellKinds}
use Rattle.dump_trees.proofs.changes.TreeLemmas.{below_rest}
use Rattle.dump_trees.proofs.expansions.StandingLemmas.{origin_in, step_has, step_untouched, copy_has_tree}
use Rattle.dump_trees.proofs.expansions.LookLemmas.{count_whole, count_cons, origin_source, StepsAt, Runs, Begun, runs_before, loaded_begun}
use Rattle.dump_trees.proofs.cuts.CheckedSteps.{same_made, kind_with_props, change_leaves}

-- both lists

zip_get : (xs ys : List Placed) → AllZip HasSameKinds xs ys → (n : ℕ) (x : Placed) → slice_get xs n ≡ Some x
    → (y : Placed) × (slice_get ys n ≡ Some y) × HasSameKinds x y
zip_get [] [] zip n x at = absurd (let bad : None ≡ Some x = at in cc)
zip_get [] (y ∷ ys) zip n x at = absurd zip
zip_get (z ∷ xs) [] zip n x at = absurd zip
zip_get (z ∷ xs) (y ∷ ys) zip zero x at =
    (y, refl, subst (λ w. HasSameKinds w y) (same_Some z x at) zip.0)
zip_get (z ∷ xs) (y ∷ ys) zip (suc n) x at = zip_get xs ys zip.1 n x at

same_ends : (xs ys : List Placed) (number : ℕ) → AllZip HasSameKinds xs ys → end_of ys number ≡ end_of xs number
same_ends [] [] number zip = refl
same_ends [] (y ∷ ys) number zip = absurd zip
same_ends (x ∷ xs) [] number zip = absurd zip
same_ends (x ∷ xs) (y ∷ ys) number zip =
    count_cons (λ (p : Placed). nat_le p.revision number) y ys
    ∙ (ap₂ (λ r n. cond (nat_le r number) 1 0 + n) zip.0.revision (same_ends xs ys number zip.1)
    ∙ sym (count_cons (λ (p : Placed). nat_le p.revision number) x xs))

-- they touch the same paths
same_touch : (p q : Placed) → HasSameKinds p q → (o : Option NodePath)
    → touches_rest o q.change ≡ touches_rest o p.change
same_touch p q same None = refl
same_touch p q same (Some []) =
    ap (λ b. b || is_some q.change.made || is_some q.change.props || is_some q.change.text) same.deletes
    ∙ (ap (λ m. p.change.deletes || is_some m || is_some q.change.props || is_some q.change.text) same.made
    ∙ (ap (λ b. p.change.deletes || is_some p.change.made || b || is_some q.change.text) same.props
    ∙ ap (λ b. p.change.deletes || is_some p.change.made || is_some p.change.props || b) same.text))
same_touch p q same (Some (name ∷ rest)) = ap₂ (λ b m. b || is_copied m) same.deletes same.made

same_touches : (p q : Placed) → HasSameKinds p q → (path : NodePath)
    → touches_path path q.change ≡ touches_path path p.change
same_touches p q same path =
    ap (λ top. touches_rest (below top path) q.change) same.path ∙ same_touch p q same (below p.change.path path)

-- what remains is of the same kind

text_kind : (text plain : Option TextChange) → is_some plain ≡ is_some text → not (patches_text plain) ≡ true
    → (old other : Option Node) → option_map kind_of_node other ≡ option_map kind_of_node old
    → (is_some old ≡ true → is_some (node_with_text text old) ≡ true)
    → option_map kind_of_node (node_with_text plain other) ≡ option_map kind_of_node (node_with_text text old)
text_kind None None both whole old other same leaves = same
text_kind None (Some p) both whole old other same leaves = absurd (let bad : true ≡ false = both in cc)
text_kind (Some t) None both whole old other same leaves = absurd (let bad : false ≡ true = both in cc)
text_kind (Some t) (Some (TextChange.Patched patch)) both whole old other same leaves =
    absurd (let bad : false ≡ true = whole in cc)
text_kind (Some t) (Some (TextChange.Replaced text)) both whole None None same leaves = refl
text_kind (Some t) (Some (TextChange.Replaced text)) both whole None (Some n) same leaves =
    absurd (let bad : Some (kind_of_node n) ≡ None = same in cc)
text_kind (Some t) (Some (TextChange.Replaced text)) both whole (Some n) None same leaves =
    absurd (let bad : None ≡ Some (kind_of_node n) = same in cc)
text_kind (Some t) (Some (TextChange.Replaced text)) both whole (Some (Node.Directory props)) (Some m) same leaves =
    absurd (let bad : false ≡ true = leaves refl in cc)
text_kind (Some t) (Some (TextChange.Replaced text)) both whole (Some (Node.File props old)) (Some (Node.Directory others)) same
    leaves =
    absurd (let bad : Some Kind.Directory ≡ Some Kind.File = same in cc)
text_kind (Some t) (Some (TextChange.Replaced text)) both whole (Some (Node.File props old)) (Some (Node.File others more))
    same leaves =
    cases (node_with_text (Some t) (Some (Node.File props old))) refl (leaves refl)
  where
    file_only : (o : Option (List ℕ)) → (n : Node) → option_map (λ x. Node.File props x) o ≡ Some n
        → kind_of_node n ≡ Kind.File
    file_only None n is = absurd (let bad : None ≡ Some n = is in cc)
    file_only (Some x) n is = ap kind_of_node (sym (same_Some (Node.File props x) n is))

    cases : (o : Option Node) → node_with_text (Some t) (Some (Node.File props old)) ≡ o → is_some o ≡ true
        → Some Kind.File ≡ option_map kind_of_node o
    cases None at bad = absurd (let worse : false ≡ true = bad in cc)
    cases (Some n) at good = ap Some (sym (by_change t at))
      where
        by_change : (change : TextChange) → node_with_text (Some change) (Some (Node.File props old)) ≡ Some n
            → kind_of_node n ≡ Kind.File
        by_change (TextChange.Replaced x) is = file_only (Some x) n is
        by_change (TextChange.Patched patch) is = file_only (patch old) n is

some_of_kind : (a b : Option Node) → option_map kind_of_node a ≡ option_map kind_of_node b → is_some a ≡ is_some b
some_of_kind None None same = refl
some_of_kind None (Some n) same = absurd (let bad : None ≡ Some (kind_of_node n) = same in cc)
some_of_kind (Some n) None same = absurd (let bad : Some (kind_of_node n) ≡ None = same in cc)
some_of_kind (Some n) (Some m) same = refl

set_kind : (p q : Placed) → HasSameKinds p q → (rest : NodePath) (old other : Option Node)
    → option_map kind_of_node other ≡ option_map kind_of_node old
    → (rest ≡ [] → is_some old ≡ true → is_some (set_by p.change rest old) ≡ true)
    → option_map kind_of_node (set_by q.change rest other) ≡ option_map kind_of_node (set_by p.change rest old)
set_kind p q same (name ∷ rest) old other kinds leaves = kinds
set_kind p q same [] old other kinds leaves =
    text_kind p.change.text q.change.text same.text same.whole (node_with_props p.change.props old)
    (node_with_props q.change.props other)
    (kind_with_props q.change.props other ∙ (kinds ∙ sym (kind_with_props p.change.props old)))
    (λ some. leaves refl
    (some_of_kind old (node_with_props p.change.props old) (sym (kind_with_props p.change.props old)) ∙ some))

from_is_in : (history : History) (old : Option Node) (origin : Origin)
    → node_from history old origin ≡ origin_in history old origin
from_is_in history old Origin.Nowhere = refl
from_is_in history old (Origin.New n) = refl
from_is_in history old Origin.Before = refl
from_is_in history old (Origin.From number source) = refl

module _ (first : Tree) (placed plain : List Placed) (zip : AllZip HasSameKinds placed plain) (bound : ℕ)
    (trees : List Tree) (runs : Runs first placed bound trees) where
  -- what is found is of the kind that exists, if no more than this many changes are followed
  abbrev Tells : ℕ → Type 0
  Tells more = (count : ℕ) → count ≤ more → (tree : Tree) → slice_get trees count ≡ Some tree → (path : NodePath)
      → option_map kind_of_node (look_within more first plain count path) ≡ kind_at tree path

  first_is : (count : ℕ) → count ≡ 0 → (tree : Tree) → slice_get trees count ≡ Some tree → (path : NodePath)
      → option_map kind_of_node (first path) ≡ kind_at tree path
  first_is count none tree at path =
      let same : first ≡ tree = same_Some first tree (sym runs.start ∙ (ap (slice_get trees) (sym none) ∙ at)) in
      ap (λ (t : Tree). option_map kind_of_node (t path)) same

  module _ (more : ℕ) (tells : Tells more) (path : NodePath) where
    looked_there : (place : ℕ) → place ≤ more → (after : Tree) (s : StepsAt placed bound trees place after)
        → (origin : Origin)
        → ((number : ℕ) (source : NodePath) → origin ≡ Origin.From number source
        → (old : Tree) × (s.history number ≡ Some old))
        → option_map kind_of_node (looked_up (look_within more first plain) plain place path origin)
        ≡ option_map kind_of_node (origin_in s.history (s.before path) origin)
    looked_there place low after s Origin.Nowhere from = refl
    looked_there place low after s (Origin.New n) from = refl
    looked_there place low after s Origin.Before from = tells place low s.before s.was path
    looked_there place low after s (Origin.From number source) from =
        let old = from number source refl in
        let early = s.earlier number old.0 old.1 in
        ap (λ n. option_map kind_of_node (look_within more first plain n source)) (same_ends placed plain number zip)
        ∙ (tells (end_of placed number) (omega arith) old.0 (s.found number old.0 old.1) source
        ∙ sym (ap (λ o. option_map kind_of_node (option_and_then (λ (tree : Tree). tree source) o)) old.1))

    touched : (place : ℕ) → place ≤ more → (after : Tree) (s : StepsAt placed bound trees place after) (q : Placed)
        → HasSameKinds s.at q → (o : Option NodePath) → below s.at.change.path path ≡ o
        → touches_rest o s.at.change ≡ true
        → option_map kind_of_node (left_at (look_within more first plain) plain place path q.change o) ≡ kind_at after path
    touched place low after s q same None found is = absurd (let bad : false ≡ true = is in cc)
    touched place low after s q same (Some rest) found is =
        ap₂ (λ d m. option_map kind_of_node (set_by q.change rest
        (looked_up (look_within more first plain) plain place path (origin_of d m rest)))) same.deletes same.made
        ∙ (set_kind s.at q same rest
        (origin_in s.history (s.before path) (origin_of s.at.change.deletes s.at.change.made rest))
        (looked_up (look_within more first plain) plain place path (origin_of s.at.change.deletes s.at.change.made rest))
        (looked_there place low after s (origin_of s.at.change.deletes s.at.change.made rest)
        (λ number source comes.
        let made = origin_source s.at.change.deletes s.at.change.made rest number source comes in
        copy_has_tree s.history s.before after s.at.change number made.0 made.1 s.leads))
        (λ none some. leaves rest none found some)
        ∙ ap (option_map kind_of_node) (step_has s.history s.before after s.at.change path rest found s.leads))
      where
        leaves : (rest : NodePath) → rest ≡ [] → below s.at.change.path path ≡ Some rest
            → is_some (origin_in s.history (s.before path) (origin_of s.at.change.deletes s.at.change.made rest)) ≡ true
            → is_some (set_by s.at.change rest
            (origin_in s.history (s.before path) (origin_of s.at.change.deletes s.at.change.made rest))) ≡ true
        leaves (name ∷ rest) none found some = some
        leaves [] none found some =
            let here : path ≡ s.at.change.path = below_rest s.at.change.path path [] found ∙ append-nil s.at.change.path in
            ap is_some (step_has s.history s.before after s.at.change path [] found s.leads)
            ∙ (ap (λ p. is_some (after p)) here
            ∙ change_leaves s.history s.before after s.at.change
            (ap is_some (same_made s.history s.at.change.deletes s.at.change.made (s.before s.at.change.path)
            ∙ (from_is_in s.history (s.before s.at.change.path) (origin_of s.at.change.deletes s.at.change.made [])
            ∙ ap (λ p. origin_in s.history (s.before p) (origin_of s.at.change.deletes s.at.change.made [])) (sym here)))
            ∙ some) s.leads)

    behind_tells : (count : ℕ) → count ≤ suc more → (tree : Tree) → slice_get trees count ≡ Some tree
        → option_map kind_of_node
        (look_behind (look_within more first plain) first plain path (latest (touches_path path) plain count))
        ≡ kind_at tree path
    behind_tells zero low tree at = first_is 0 refl tree at path
    behind_tells (suc count) low tree at =
        cases (runs.each count tree at) (λ t was. behind_tells count (omega arith) t was)
      where
        sides : (s : StepsAt placed bound trees count tree) (q : Placed) → slice_get plain count ≡ Some q
            → HasSameKinds s.at q
            → ((t : Tree) → slice_get trees count ≡ Some t
            → option_map kind_of_node
            (look_behind (look_within more first plain) first plain path (latest (touches_path path) plain count))
            ≡ kind_at t path)
            → (b : Bool) → touches_path path s.at.change ≡ b
            → option_map kind_of_node (look_behind (look_within more first plain) first plain path
            (cond b (Some count) (latest (touches_path path) plain count))) ≡ kind_at tree path
        sides s q there same further false none =
            further s.before s.was
            ∙ ap (option_map kind_of_node) (sym (step_untouched s.history s.before tree s.at.change path none s.leads))
        sides s q there same further true is =
            ap (λ o. option_map kind_of_node (left_there (look_within more first plain) plain count path o)) there
            ∙ (ap (λ top. option_map kind_of_node
            (left_at (look_within more first plain) plain count path q.change (below top path))) same.path
            ∙ touched count (omega arith) tree s q same (below s.at.change.path path) refl is)

        cases : (s : StepsAt placed bound trees count tree)
            → ((t : Tree) → slice_get trees count ≡ Some t
            → option_map kind_of_node
            (look_behind (look_within more first plain) first plain path (latest (touches_path path) plain count))
            ≡ kind_at t path)
            → option_map kind_of_node (look_behind (look_within more first plain) first plain path
            (cond (holds_there (touches_path path) (slice_get plain count)) (Some count)
            (latest (touches_path path) plain count))) ≡ kind_at tree path
        cases s further =
            let (q, there, same) = zip_get placed plain zip count s.at s.there in
            ap (λ o. option_map kind_of_node (look_behind (look_within more first plain) first plain path
            (cond (holds_there (touches_path path) o) (Some count) (latest (touches_path path) plain count)))) there
            ∙ (ap (λ b. option_map kind_of_node (look_behind (look_within more first plain) first plain path
            (cond b (Some count) (latest (touches_path path) plain count)))) (same_touches s.at q same path)
            ∙ sides s q there same further (touches_path path s.at.change) refl)

  tells_runs : (more : ℕ) → Tells more
  tells_runs zero count low tree at path = first_is count (omega arith) tree at path
  tells_runs (suc more) count low tree at path = behind_tells more (tells_runs more) path count low tree at

pub plain_looks_tell_kinds : PlainLooksTellKinds
plain_looks_tell_kinds first placed plain zip front behind trees tree path same late is there =
    tells_runs first placed plain zip (length front) all.1
    (subst (λ ps. Runs first ps (length front) all.1) (sym same)
    (runs_before first (placed_from 1 front) behind (length front) all.1 all.2.runs late))
    (length (placed_from 1 front)) (length (placed_from 1 front)) (omega arith) tree
    (ap (slice_get all.1)
    (sym (count_whole (λ (p : Placed). nat_le p.revision (length front)) (placed_from 1 front) all.2.low))
    ∙ all.2.ends (length front) tree there) path
  where
    all : (last : Tree) × (more : List Tree)
        × Begun first trees last (length front) (placed_from 1 front) more
    all = loaded_begun first front trees is
