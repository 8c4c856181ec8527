-- What the siblings exclude of a tree.
use Rattle.dump_trees.proofs.Prelude.{◌≡◌, not, ◌||◌, ◌⊎◌, bytes_eq, refl, sym, ap, ap₂, ◌∙◌, inl, inr, subst, append-nil, append_assoc, map, both_ways, list_any, list_all, list_all-append, slice_get, nat_lt, bare_path, names_of, and_parts, and_from, or_cases, or_left, or_right, not-true, not_from_false, matches_path, Settings, side_keeps, NodePath, path_text, path_of, is_name, keeps, below, parent_of, Tree, HasDirectories, is_directory_node}
use Rattle.std.proofs.Common.{ℕ, Bool, true, false, ◌&&◌, List, [], ◌∷◌, ◌++◌, length, Option, Some, None, is_some}
use Rattle.std.proofs.lemmas.List.Folds.{list_any_at}
use Rattle.dump_trees.specs.Siblings.{is_within, is_node_name, has_node_names}
use Rattle.dump_trees.specs.steps.Siblings.{has_name_behind, is_above_included, is_in_cut, is_parent_above, is_sibling, AreSiblings, ExcludesPaths, SiblingsLeaveCut, NamedPathsLeaveCut, ShortPathsHaveNames}
use Rattle.dump_trees.proofs.changes.TreeLemmas.{below_rest, below_found}
use Rattle.dump_trees.proofs.changes.DirectoryLemmas.{parent_behind}
use Rattle.dump_trees.proofs.paths.PrefixPaths.{has_no_slash, split_names, matches_names, text_names}

-- names

-- names of nodes have no slash
no_slashes : (path : NodePath) → has_node_names path ≡ true → list_all has_no_slash path ≡ true
no_slashes [] are = refl
no_slashes (name ∷ path) are =
    let parts = and_parts (is_node_name name) (has_node_names path) are in
    let its = and_parts (is_name name) (not (bytes_eq name (46 ∷ []))) parts.0 in
    and_from _ _ (and_parts _ (has_no_slash name) its.0).1 (no_slashes path parts.1)

-- they are names
pub are_names : (path : NodePath) → has_node_names path ≡ true → list_all is_name path ≡ true
are_names [] are = refl
are_names (name ∷ path) are =
    let parts = and_parts (is_node_name name) (has_node_names path) are in
    and_from _ _ (and_parts (is_name name) (not (bytes_eq name (46 ∷ []))) parts.0).0 (are_names path parts.1)

-- the names of a path above one, and those of the rest
pub front_names : (top rest : NodePath) → has_node_names (top ++ rest) ≡ true → has_node_names top ≡ true
front_names top rest are = (and_parts _ _ (sym (list_all-append is_node_name top rest) ∙ are)).0

pub rest_names : (top rest : NodePath) → has_node_names (top ++ rest) ≡ true → has_node_names rest ≡ true
rest_names top rest are = (and_parts (has_node_names top) _ (sym (list_all-append is_node_name top rest) ∙ are)).1

pub both_names : (top rest : NodePath) → has_node_names top ≡ true → has_node_names rest ≡ true
    → has_node_names (top ++ rest) ≡ true
both_names top rest tops rests = list_all-append is_node_name top rest ∙ and_from _ _ tops rests

-- paths that are below one another

-- what is at or below a top is the top and a rest
pub within_rest : (top path : NodePath) → is_within top path ≡ true → (rest : NodePath) × (path ≡ top ++ rest)
within_rest top path is = cases (below top path) refl is
  where
    cases : (o : Option NodePath) → below top path ≡ o → is_some o ≡ true → (rest : NodePath) × (path ≡ top ++ rest)
    cases None at some = absurd (let bad : false ≡ true = some in cc)
    cases (Some rest) at some = (rest, below_rest top path rest at)

pub within_found : (top rest : NodePath) → is_within top (top ++ rest) ≡ true
within_found top rest = ap is_some (below_found top rest)

-- a path that is above another path goes on to it by a name
pub higher_rest : (path other : NodePath) → has_name_behind (below path other) ≡ true
    → (name : List ℕ) × (rest : NodePath) × (other ≡ path ++ name ∷ rest)
higher_rest path other is = cases (below path other) refl is
  where
    cases : (o : Option NodePath) → below path other ≡ o → has_name_behind o ≡ true
        → (name : List ℕ) × (rest : NodePath) × (other ≡ path ++ name ∷ rest)
    cases None at some = absurd (let bad : false ≡ true = some in cc)
    cases (Some []) at some = absurd (let bad : false ≡ true = some in cc)
    cases (Some (name ∷ rest)) at some = (name, rest, below_rest path other (name ∷ rest) at)

pub higher_found : (path : NodePath) (name : List ℕ) (rest : NodePath)
    → has_name_behind (below path (path ++ name ∷ rest)) ≡ true
higher_found path name rest = ap has_name_behind (below_found path (name ∷ rest))

-- of two paths above a third one, one is at or below the other
pub one_in_other : (first second first_rest second_rest : NodePath) → first ++ first_rest ≡ second ++ second_rest
    → ((rest : NodePath) × (first ≡ second ++ rest))
    ⊎ ((name : List ℕ) × (rest : NodePath) × (second ≡ first ++ name ∷ rest))
one_in_other first [] first_rest second_rest same = inl (first, refl)
one_in_other [] (name ∷ second) first_rest second_rest same = inr (name, second, refl)
one_in_other (other ∷ first) (name ∷ second) first_rest second_rest same =
    let heads : other ≡ name =
    (let both : other ∷ (first ++ first_rest) ≡ name ∷ (second ++ second_rest) = same in cc) in
    let tails : first ++ first_rest ≡ second ++ second_rest =
    (let both : other ∷ (first ++ first_rest) ≡ name ∷ (second ++ second_rest) = same in cc) in
    elim (one_in_other first second first_rest second_rest tails) [
      | inl (rest, is) ↦ inl (rest, ap₂ (λ n p. n ∷ p) heads is)
      | inr (next, rest, is) ↦ inr (next, rest, ap₂ (λ n p. n ∷ p) (sym heads) is)
    ]

-- the cut

-- if an element passes a test, some element passes each weaker test
pub any_more : {A : Type 0} (f g : A → Bool) → ((x : A) → f x ≡ true → g x ≡ true) → (xs : List A)
    → list_any f xs ≡ true → list_any g xs ≡ true
any_more f g more [] some = some
any_more f g more (top ∷ tops) some =
    elim (or_cases (f top) (list_any f tops) some) [
      | inl here ↦ or_left _ _ (more top here)
      | inr there ↦ or_right (g top) _ (any_more f g more tops there)
    ]

any_either : (f g h : NodePath → Bool) → ((top : NodePath) → f top ≡ true → (g top ≡ true) ⊎ (h top ≡ true))
    → (tops : List NodePath) → list_any f tops ≡ true → (list_any g tops ≡ true) ⊎ (list_any h tops ≡ true)
any_either f g h either [] some = inl some
any_either f g h either (top ∷ tops) some =
    elim (or_cases (f top) (list_any f tops) some) [
      | inl here ↦ elim (either top here) [
        | inl one ↦ inl (or_left _ _ one)
        | inr two ↦ inr (or_left _ _ two)
      ]
      | inr there ↦ elim (any_either f g h either tops there) [
        | inl one ↦ inl (or_right (g top) _ one)
        | inr two ↦ inr (or_right (h top) _ two)
      ]
    ]

-- a path above which a path in the cut is is in the cut
pub cut_above : (included : List NodePath) (top rest : NodePath) → is_in_cut included (top ++ rest) ≡ true
    → is_in_cut included top ≡ true
cut_above included [] rest is = or_right (list_any (λ other. is_within other []) included) _ refl
cut_above included (first ∷ top) rest is =
    let inside = list_any (λ other. is_within other (first ∷ top)) included in
    elim (or_cases (list_any (λ other. is_within other (first ∷ top ++ rest)) included)
    (is_above_included included (first ∷ top ++ rest)) is) [
      | inl within ↦
          elim (any_either (λ other. is_within other (first ∷ top ++ rest))
          (λ other. is_within other (first ∷ top)) (λ other. has_name_behind (below (first ∷ top) other))
          either included within) [
            | inl below_it ↦ or_left _ _ below_it
            | inr above_it ↦ or_right inside _ above_it
          ]
      | inr above ↦ or_right inside _ (any_more (λ other. has_name_behind (below (first ∷ top ++ rest) other))
          (λ other. has_name_behind (below (first ∷ top) other)) further included above)
    ]
  where
    further : (other : NodePath) → has_name_behind (below (first ∷ top ++ rest) other) ≡ true
        → has_name_behind (below (first ∷ top) other) ≡ true
    further other is =
        let (name, more, same) = higher_rest (first ∷ top ++ rest) other is in
        step rest name more (same ∙ append_assoc (first ∷ top) rest (name ∷ more))
      where
        step : (rest : NodePath) (name : List ℕ) (more : NodePath) → other ≡ (first ∷ top) ++ (rest ++ name ∷ more)
            → has_name_behind (below (first ∷ top) other) ≡ true
        step [] name more same =
            subst (λ p. has_name_behind (below (first ∷ top) p) ≡ true) (sym same)
            (higher_found (first ∷ top) name more)
        step (next ∷ rest) name more same =
            subst (λ p. has_name_behind (below (first ∷ top) p) ≡ true) (sym same)
            (higher_found (first ∷ top) next (rest ++ name ∷ more))

    either : (other : NodePath) → is_within other (first ∷ top ++ rest) ≡ true
        → (is_within other (first ∷ top) ≡ true) ⊎ (has_name_behind (below (first ∷ top) other) ≡ true)
    either other is =
        let (behind, same) = within_rest other (first ∷ top ++ rest) is in
        elim (one_in_other (first ∷ top) other rest behind same) [
          | inl (more, at) ↦ inl (subst (λ p. is_within other p ≡ true) (sym at) (within_found other more))
          | inr (name, more, at) ↦
              inr (subst (λ p. has_name_behind (below (first ∷ top) p) ≡ true) (sym at)
              (higher_found (first ∷ top) name more))
        ]

-- on the way to a path that isn't in the cut there is a first path that isn't
pub record Leaves (included : List NodePath) (path : NodePath) : Type 0 where
  pub top : NodePath
  pub name : List ℕ
  pub rest : NodePath
  pub at : path ≡ top ++ name ∷ rest
  pub inside : is_in_cut included top ≡ true
  pub outside : is_in_cut included (top ++ name ∷ []) ≡ false

leaves_from : (included : List NodePath) (front rest : NodePath) → is_in_cut included front ≡ true
    → is_in_cut included (front ++ rest) ≡ false → Leaves included (front ++ rest)
leaves_from included front [] is not_is =
    absurd (both_ways _ not_is (subst (λ p. is_in_cut included p ≡ true) (sym (append-nil front)) is))
leaves_from included front (name ∷ rest) is not_is =
    cases (leaves_from included (front ++ name ∷ []) rest) (is_in_cut included (front ++ name ∷ [])) refl
  where
    same : (front ++ name ∷ []) ++ rest ≡ front ++ name ∷ rest
    same = append_assoc front (name ∷ []) rest

    cases : (is_in_cut included (front ++ name ∷ []) ≡ true
        → is_in_cut included ((front ++ name ∷ []) ++ rest) ≡ false
        → Leaves included ((front ++ name ∷ []) ++ rest))
        → (b : Bool) → is_in_cut included (front ++ name ∷ []) ≡ b → Leaves included (front ++ name ∷ rest)
    cases further true inside =
        subst (λ p. Leaves included p) same
        (further inside (subst (λ p. is_in_cut included p ≡ false) (sym same) not_is))
    cases further false outside = record {
      top = front;
      name = name;
      rest = rest;
      at = refl;
      inside = is;
      outside = outside;
    }

pub root_inside : (included : List NodePath) → is_in_cut included [] ≡ true
root_inside included = or_right (list_any (λ other. is_within other []) included) _ refl

leaves_cut : (included : List NodePath) (path : NodePath) → is_in_cut included path ≡ false → Leaves included path
leaves_cut included path out = leaves_from included [] path (root_inside included) out

-- a path in the cut, below which a path isn't in it, is above an included path
pub above_there : (included : List NodePath) (top : NodePath) (name : List ℕ) → is_in_cut included top ≡ true
    → is_in_cut included (top ++ name ∷ []) ≡ false → is_above_included included top ≡ true
above_there included top name inside outside =
    elim (or_cases (list_any (λ other. is_within other top) included) (is_above_included included top) inside) [
      | inr above ↦ above
      | inl within ↦
          absurd (both_ways _ outside (or_left (list_any (λ other. is_within other (top ++ name ∷ [])) included)
          (is_above_included included (top ++ name ∷ []))
          (any_more (λ other. is_within other top) (λ other. is_within other (top ++ name ∷ [])) further included
          within)))
    ]
  where
    further : (other : NodePath) → is_within other top ≡ true → is_within other (top ++ name ∷ []) ≡ true
    further other is =
        let (rest, same) = within_rest other top is in
        subst (λ p. is_within other p ≡ true)
        (sym (ap (λ p. p ++ name ∷ []) same ∙ append_assoc other rest (name ∷ [])))
        (within_found other (rest ++ name ∷ []))

-- the first path out of the cut is a sibling
pub is_sibling_there : (included : List NodePath) (path : NodePath) → has_node_names path ≡ true
    → (l : Leaves included path) → is_sibling included (l.top ++ l.name ∷ []) ≡ true
is_sibling_there included path are l =
    and_from _ _
    (and_from _ _
    (front_names (l.top ++ l.name ∷ []) l.rest
    (subst (λ p. has_node_names p ≡ true) (l.at ∙ sym (append_assoc l.top (l.name ∷ []) l.rest)) are))
    (ap (is_parent_above included) (parent_behind l.top l.name [])
    ∙ subst (λ p. is_above_included included p ≡ true) (sym (append-nil l.top))
    (above_there included l.top l.name l.inside l.outside)))
    (not_from_false _ l.outside)

-- something exists at the path, if something exists below it
stands_there : (tree : Tree) → HasDirectories tree → (top : NodePath) (name : List ℕ) (rest : NodePath)
    → is_some (tree (top ++ name ∷ rest)) ≡ true → is_some (tree (top ++ name ∷ [])) ≡ true
stands_there tree directories top name [] some = some
stands_there tree directories top name (next ∷ rest) some = cases (tree (top ++ name ∷ next ∷ rest)) refl some
  where
    directory_some : (o : Option _) → is_directory_node o ≡ true → is_some o ≡ true
    directory_some None is = is
    directory_some (Some node) is = refl

    cases : (o : Option _) → tree (top ++ name ∷ next ∷ rest) ≡ o → is_some o ≡ true
        → is_some (tree (top ++ name ∷ [])) ≡ true
    cases None at some = absurd (let bad : false ≡ true = some in cc)
    cases (Some node) at some =
        directory_some (tree (top ++ name ∷ []))
        (directories (top ++ name ∷ []) next rest node (ap tree (append_assoc top (name ∷ []) (next ∷ rest)) ∙ at))

-- what the siblings match

-- the paths match by their texts
texts_match : (paths : List NodePath) (path : NodePath) → list_all has_node_names paths ≡ true
    → has_node_names path ≡ true
    → list_any (λ prefix. matches_path prefix (path_text path)) (map path_text paths)
    ≡ list_any (λ top. is_within top path) paths
texts_match [] path tops are = refl
texts_match (top ∷ paths) path tops are =
    let parts = and_parts (has_node_names top) (list_all has_node_names paths) tops in
    ap₂ (λ a b. a || b)
    (matches_names (path_text top) path (no_slashes path are)
    ∙ ap (λ p. is_within p path) (text_names top (are_names top parts.0)))
    (texts_match paths path parts.1 are)

pub sibling_names : (included siblings : List NodePath) → list_all (is_sibling included) siblings ≡ true
    → list_all has_node_names siblings ≡ true
sibling_names included [] are = refl
sibling_names included (path ∷ siblings) are =
    let parts = and_parts (is_sibling included path) (list_all (is_sibling included) siblings) are in
    let two = and_parts (has_node_names path && is_parent_above included (parent_of path))
    (not (is_in_cut included path)) parts.0 in
    and_from _ _ (and_parts (has_node_names path) (is_parent_above included (parent_of path)) two.0).0
    (sibling_names included siblings parts.1)

-- below a sibling nothing is in the cut
sibling_out : (included siblings : List NodePath) (path : NodePath) → list_all (is_sibling included) siblings ≡ true
    → list_any (λ top. is_within top path) siblings ≡ true → is_in_cut included path ≡ false
sibling_out included [] path are some = absurd (let bad : false ≡ true = some in cc)
sibling_out included (top ∷ siblings) path are some =
    let parts = and_parts (is_sibling included top) (list_all (is_sibling included) siblings) are in
    let two = and_parts (has_node_names top && is_parent_above included (parent_of top))
    (not (is_in_cut included top)) parts.0 in
    elim (or_cases (is_within top path) (list_any (λ other. is_within other path) siblings) some) [
      | inr there ↦ sibling_out included siblings path parts.1 there
      | inl here ↦ cases (is_in_cut included path) refl (not-true _ two.1) here
    ]
  where
    cases : (b : Bool) → is_in_cut included path ≡ b → is_in_cut included top ≡ false → is_within top path ≡ true
        → is_in_cut included path ≡ false
    cases false is out here = is
    cases true is out here =
        let (rest, same) = within_rest top path here in
        absurd (both_ways _ out (cut_above included top rest
        (subst (λ p. is_in_cut included p ≡ true) same is)))

-- the path is excluded if it isn't in the cut
siblings_match : (included siblings : List NodePath) (trees : List Tree) (number : ℕ) (tree : Tree) (path : NodePath)
    → AreSiblings included trees siblings → slice_get trees number ≡ Some tree → HasDirectories tree
    → has_node_names path ≡ true → is_some (tree path) ≡ true
    → list_any (λ top. is_within top path) siblings ≡ not (is_in_cut included path)
siblings_match included siblings trees number tree path all at directories are some =
    cases (list_any (λ top. is_within top path) siblings) (is_in_cut included path) refl refl
  where
    found : is_in_cut included path ≡ false → list_any (λ top. is_within top path) siblings ≡ true
    found out =
        let l = leaves_cut included path out in
        let there = stands_there tree directories l.top l.name l.rest (subst (λ p. is_some (tree p) ≡ true) l.at some) in
        let (place, low, is) = all.all number tree (l.top ++ l.name ∷ []) at there
        (is_sibling_there included path are l) in
        list_any_at (λ top. is_within top path) siblings place (l.top ++ l.name ∷ []) low
        (subst (λ p. is_within p path ≡ true) (sym is)
        (subst (λ p. is_within (l.top ++ l.name ∷ []) p ≡ true)
        (append_assoc l.top (l.name ∷ []) l.rest ∙ sym l.at) (within_found (l.top ++ l.name ∷ []) l.rest)))

    cases : (a b : Bool) → list_any (λ top. is_within top path) siblings ≡ a → is_in_cut included path ≡ b
        → a ≡ not b
    cases true true is cut = absurd (both_ways _ (sibling_out included siblings path all.each is) cut)
    cases true false is cut = refl
    cases false true is cut = refl
    cases false false is cut = absurd (both_ways _ is (found cut))

-- a path is kept if no excluded path is at or above it
pub excluded_match : (settings : Settings) (paths : List NodePath) (path : NodePath) → ExcludesPaths settings paths
    → list_all has_node_names paths ≡ true → has_node_names path ≡ true
    → keeps settings path ≡ not (list_any (λ top. is_within top path) paths)
excluded_match settings paths path excludes names are =
    ap₂ (λ side prefixes. side_keeps side (list_any (λ prefix. matches_path prefix (path_text path)) prefixes))
    excludes.side excludes.prefixes
    ∙ ap not (texts_match paths path names are)

-- if the siblings are excluded, what exists is kept exactly if it is in the cut
pub siblings_leave_cut : SiblingsLeaveCut
siblings_leave_cut settings included siblings trees number tree path excludes all at directories names some =
    excluded_match settings siblings path excludes (sibling_names included siblings all.each) (names path some)
    ∙ (ap not (siblings_match included siblings trees number tree path all at directories (names path some) some)
    ∙ twice (is_in_cut included path))
  where
    twice : (b : Bool) → not (not b) ≡ b
    twice true = refl
    twice false = refl

-- so is a named path
pub named_paths_leave_cut : NamedPathsLeaveCut
named_paths_leave_cut settings included named siblings path excludes cover among are =
    excluded_match settings siblings path excludes (sibling_names included siblings cover.each) are
    ∙ cases (list_any (λ top. is_within top path) siblings) (is_in_cut included path) refl refl
  where
    cases : (a b : Bool) → list_any (λ top. is_within top path) siblings ≡ a → is_in_cut included path ≡ b
        → not a ≡ b
    cases true true is cut = absurd (both_ways _ (sibling_out included siblings path cover.each is) cut)
    cases true false is cut = refl
    cases false true is cut = refl
    cases false false is cut = absurd (both_ways _ is (cover.all path among are cut))

-- prefixes

-- a canonical path has names of nodes
pub short_names : ShortPathsHaveNames
short_names text short = cases (path_of text) (no_slash_of (bare_path text)) short
  where
    no_slash_of : (bare : List ℕ) → list_all has_no_slash (names_of bare) ≡ true
    no_slash_of [] = refl
    no_slash_of (b ∷ bare) = split_names (b ∷ bare)

    cases : (path : NodePath) → list_all has_no_slash path ≡ true
        → list_all (λ name. nat_lt 0 (length name) && not (bytes_eq name (46 ∷ []))) path ≡ true
        → has_node_names path ≡ true
    cases [] none are = refl
    cases (name ∷ path) none are =
        let slashes = and_parts (has_no_slash name) (list_all has_no_slash path) none in
        let parts = and_parts (nat_lt 0 (length name) && not (bytes_eq name (46 ∷ []))) _ are in
        let its = and_parts (nat_lt 0 (length name)) (not (bytes_eq name (46 ∷ []))) parts.0 in
        and_from _ _ (and_from _ _ (and_from _ _ its.0 slashes.0) its.1) (cases path slashes.1 parts.1)
