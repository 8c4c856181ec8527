-- The directory that a path is in, by the names of the path.
use Rattle.std.proofs.Common.{◌≡◌, ℕ, Bool, true, false, not, cond, List, [], ◌∷◌, ◌++◌, reverse, nat_eq, Some, refl, sym, ap, ◌∙◌}
use Rattle.std.proofs.lemmas.Bool.{and_parts, and_from, not-true}
use Rattle.std.proofs.lemmas.List.{reverse-append, reverse-reverse}
use Rattle.dump_trees.specs.Paths.{names_of, parent_of}
use Rattle.dump_trees.specs.Restriction.{is_root}
use Rattle.dump_trees.specs.Siblings.{has_node_names}
use Rattle.dump_trees.proofs.expansions.BranchLemmas.{parent_child}
use Rattle.dump_trees.proofs.paths.CanonicalLemmas.{split_joined, split_name}
use Rattle.dump_trees.proofs.paths.PathNames.{split}
use Rattle.dump_trees.proofs.paths.PrefixPaths.{has_no_slash}
use Rattle.dump_trees.proofs.paths.SiblingLemmas.{front_names, rest_names}
use Rattle.dump_index.specs.steps.InOrder.{ends_in_slash}
use Rattle.dump_cut.specs.steps.ParentTexts.{after_slash, parent_text}

-- a text has no slash, or it is the part before its last slash, the slash, and a name
data Parted (text : List ℕ) : Type 0 where
  Whole : has_no_slash text ≡ true → Parted text
  Joined : (front name : List ℕ) → text ≡ front ++ 47 ∷ name → has_no_slash name ≡ true → Parted text

parted : (text : List ℕ) → Parted text
parted [] = Whole refl
parted (b ∷ text) = cases (parted text) (nat_eq b 47) refl
  where
    eq47 : nat_eq b 47 ≡ true → b ≡ 47
    eq47 is = Rattle.std.proofs.Common.eqb-true b 47 is

    cases : Parted text → (t : Bool) → nat_eq b 47 ≡ t → Parted (b ∷ text)
    cases (Joined front name is none) t same = Joined (b ∷ front) name (ap (λ rest. b ∷ rest) is) none
    cases (Whole none) true same = Joined [] text (ap (λ c. c ∷ text) (eq47 same)) none
    cases (Whole none) false same = Whole (and_from (not (nat_eq b 47)) (has_no_slash text) (ap not same) none)

-- the reversed text has no slash either
reversed : (text : List ℕ) → has_no_slash text ≡ true → has_no_slash (reverse text) ≡ true
reversed [] none = refl
reversed (b ∷ text) none =
    let parts = and_parts (not (nat_eq b 47)) (has_no_slash text) none in
    ap has_no_slash (reverse-append (b ∷ []) text)
    ∙ joined (reverse text) (reversed text parts.1) parts.0
  where
    joined : (others : List ℕ) → has_no_slash others ≡ true → not (nat_eq b 47) ≡ true
        → has_no_slash (others ++ b ∷ []) ≡ true
    joined [] clear own = and_from (not (nat_eq b 47)) true own refl
    joined (c ∷ others) clear own =
        let parts = and_parts (not (nat_eq c 47)) (has_no_slash others) clear in
        and_from (not (nat_eq c 47)) (has_no_slash (others ++ b ∷ [])) parts.0 (joined others parts.1 own)

none_after : (text : List ℕ) → has_no_slash text ≡ true → after_slash text ≡ []
none_after [] none = refl
none_after (b ∷ text) none =
    let parts = and_parts (not (nat_eq b 47)) (has_no_slash text) none in
    ap (λ t. cond t text (after_slash text)) (not-true (nat_eq b 47) parts.0) ∙ none_after text parts.1

found_after : (name rest : List ℕ) → has_no_slash name ≡ true → after_slash (name ++ 47 ∷ rest) ≡ rest
found_after [] rest none = refl
found_after (b ∷ name) rest none =
    let parts = and_parts (not (nat_eq b 47)) (has_no_slash name) none in
    ap (λ t. cond t (name ++ 47 ∷ rest) (after_slash (name ++ 47 ∷ rest))) (not-true (nat_eq b 47) parts.0)
    ∙ found_after name rest parts.1

parent_none : (text : List ℕ) → has_no_slash text ≡ true → parent_text text ≡ []
parent_none text none = ap reverse (none_after (reverse text) (reversed text none))

parent_found : (front name : List ℕ) → has_no_slash name ≡ true → parent_text (front ++ 47 ∷ name) ≡ front
parent_found front name none =
    ap (λ r. reverse (after_slash r)) (reverse-append front (47 ∷ name)
    ∙ ap (λ r. r ++ reverse front) (reverse-append (47 ∷ []) name)
    ∙ Rattle.std.proofs.Common.append_assoc (reverse name) (47 ∷ []) (reverse front))
    ∙ ap reverse (found_after (reverse name) (reverse front) (reversed name none))
    ∙ reverse-reverse front

-- a text with names of nodes doesn't end in a slash

ends_behind : (front : List ℕ) (c : ℕ) (rest : List ℕ) → ends_in_slash (front ++ c ∷ rest) ≡ ends_in_slash (c ∷ rest)
ends_behind [] c rest = refl
ends_behind (b ∷ []) c rest = refl
ends_behind (b ∷ d ∷ front) c rest = ends_behind (d ∷ front) c rest

no_end : (text : List ℕ) → has_no_slash text ≡ true → ends_in_slash text ≡ false
no_end [] none = refl
no_end (b ∷ []) none = not-true (nat_eq b 47) (and_parts (not (nat_eq b 47)) true none).0
no_end (b ∷ c ∷ text) none = no_end (c ∷ text) (and_parts (not (nat_eq b 47)) (has_no_slash (c ∷ text)) none).1

joined_split : (front name : List ℕ) → names_of (front ++ 47 ∷ name) ≡ split front ++ split name
joined_split [] name = split_joined [] name
joined_split (b ∷ front) name = split_joined (b ∷ front) name

pub ends_named : (text : List ℕ) → has_node_names (names_of text) ≡ true → ends_in_slash text ≡ false
ends_named text named = cases (parted text)
  where
    behind : (front name : List ℕ) → text ≡ front ++ 47 ∷ name → has_no_slash name ≡ true → ends_in_slash text ≡ false
    behind front [] is none =
        absurd (let bad : false ≡ true = rest_names (split front) ([] ∷ [])
        (sym (ap has_node_names (ap names_of is ∙ joined_split front [])) ∙ named) in cc)
    behind front (c ∷ name) is none =
        ap ends_in_slash is ∙ ends_behind front 47 (c ∷ name) ∙ no_end (c ∷ name) none

    cases : Parted text → ends_in_slash text ≡ false
    cases (Whole none) = no_end text none
    cases (Joined front name is none) = behind front name is none

-- the parent

pub parent_named : (path : List ℕ) → has_node_names (names_of path) ≡ true → is_root (names_of path) ≡ false
    → (parent_of (names_of path) ≡ Some (names_of (parent_text path))) × (has_node_names (names_of (parent_text path)) ≡ true)
parent_named path named below = cases (parted path)
  where
    whole : (text : List ℕ) → path ≡ text → has_no_slash text ≡ true
        → (parent_of (names_of path) ≡ Some (names_of (parent_text path))) × (has_node_names (names_of (parent_text path)) ≡ true)
    whole [] is none = absurd (let bad : true ≡ false = sym (ap (λ t. is_root (names_of t)) is) ∙ below in cc)
    whole (b ∷ text) is none =
        let top : parent_text path ≡ [] = ap parent_text is ∙ parent_none (b ∷ text) none in (
          ap (λ t. parent_of (names_of t)) is ∙ ap parent_of (split_name (b ∷ text) none)
              ∙ sym (ap (λ t. Some (names_of t)) top),
          ap (λ t. has_node_names (names_of t)) top,
        )

    joined : (front name : List ℕ) → path ≡ front ++ 47 ∷ name → has_no_slash name ≡ true
        → (parent_of (names_of path) ≡ Some (names_of (parent_text path))) × (has_node_names (names_of (parent_text path)) ≡ true)
    joined [] name is none =
        absurd (let bad : false ≡ true = front_names ([] ∷ []) (split name)
        (sym (ap has_node_names (ap names_of is ∙ joined_split [] name)) ∙ named) in cc)
    joined (b ∷ front) name is none =
        let top : parent_text path ≡ b ∷ front = ap parent_text is ∙ parent_found (b ∷ front) name none in
        let names : names_of path ≡ names_of (b ∷ front) ++ name ∷ [] =
        ap names_of is ∙ joined_split (b ∷ front) name ∙ ap (λ ns. split (b ∷ front) ++ ns) (split_name name none) in (
          ap parent_of names ∙ parent_child (names_of (b ∷ front)) name ∙ sym (ap (λ t. Some (names_of t)) top),
          ap (λ t. has_node_names (names_of t)) top
              ∙ front_names (names_of (b ∷ front)) (name ∷ []) (sym (ap has_node_names names) ∙ named),
        )

    cases : Parted path
        → (parent_of (names_of path) ≡ Some (names_of (parent_text path))) × (has_node_names (names_of (parent_text path)) ≡ true)
    cases (Whole none) = whole path refl none
    cases (Joined front name is none) = joined front name is none
