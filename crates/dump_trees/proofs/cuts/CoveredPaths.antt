-- Paths that cover others, and the rests at which they begin to do so.
use Rattle.dump_trees.proofs.Prelude.{◌≡◌, ◌⊎◌, zero, suc, ◌<◌, cond, refl, sym, ap, ◌∙◌, inl, inr, subst, arith, filter, append-nil, append_assoc, both_ways, list_all, and_from, or_cases, or_left, or_right, NodePath, below, Tree, HasDirectories, is_directory_node}
use Rattle.std.proofs.Common.{ℕ, Bool, true, false, List, [], ◌∷◌, ◌++◌, length, Option, Some, None, is_some, Contains}
use Rattle.std.proofs.lemmas.List.Sums.{AllPass-from_list_all}
use Rattle.std.proofs.lemmas.List.Elements.{All-contains, All-filter, All-contains_itself, filter_passes, Contains-append_left, Contains-append_right, Contains-append_cases}
use Rattle.dump_trees.specs.Siblings.{is_within}
use Rattle.dump_trees.specs.Returns.{is_covered}
use Rattle.dump_trees.specs.steps.Returns.{named_rest, rests_below, rests_covered}
use Rattle.dump_trees.proofs.changes.TreeLemmas.{below_rest, below_found, below_top}
use Rattle.dump_trees.proofs.paths.SiblingLemmas.{within_rest, within_found, one_in_other}
use Rattle.dump_trees.proofs.paths.PrefixRests.{same_rest}

-- elements of lists

pub contains_first : {A : Type 0} (x : A) (xs : List A) → Contains (x ∷ xs) x
contains_first x xs = (zero, omega arith, refl)

pub contains_later : {A : Type 0} (y : A) (xs : List A) (x : A) → Contains xs x → Contains (y ∷ xs) x
contains_later y xs x (k, low, is) = (suc k, omega (arith, low), is)

pub no_elements : {A : Type 0} (xs : List A) → ((x : A) → Contains xs x → ⊥) → xs ≡ []
no_elements [] none = refl
no_elements (x ∷ xs) none = absurd (none x (contains_first x xs))

-- the first element or a later one
pub contains_cases : {A : Type 0} (y : A) (xs : List A) (x : A) → Contains (y ∷ xs) x → (y ≡ x) ⊎ Contains xs x
contains_cases y xs x (zero, low, is) = inl is
contains_cases y xs x (suc k, low, is) = inr (k, (let less : k < length xs = omega (arith, low) in less), is)

pub contains_none : {A : Type 0} (x : A) → Contains [] x → ⊥
contains_none x (k, low, is) = omega (arith, low)

pub all_has : {A : Type 0} (f : A → Bool) (xs : List A) (x : A) → list_all f xs ≡ true → Contains xs x → f x ≡ true
all_has f xs x all there = All-contains (λ y. f y ≡ true) xs x (AllPass-from_list_all f xs all) there

pub list_all_of : {A : Type 0} (f : A → Bool) (xs : List A) → ((x : A) → Contains xs x → f x ≡ true) → list_all f xs ≡ true
list_all_of f [] each = refl
list_all_of f (x ∷ xs) each =
    and_from (f x) (list_all f xs) (each x (contains_first x xs)) (list_all_of f xs (λ y there. each y (contains_later x xs y there)))

pub filter_there : {A : Type 0} (f : A → Bool) (xs : List A) (x : A) → Contains (filter f xs) x → Contains xs x
filter_there f xs x there =
    All-contains (Contains xs) (filter f xs) x (All-filter f (Contains xs) xs (All-contains_itself xs)) there

pub filter_passed : {A : Type 0} (f : A → Bool) (xs : List A) (x : A) → Contains (filter f xs) x → f x ≡ true
filter_passed f xs x there = All-contains (λ y. f y ≡ true) (filter f xs) x (filter_passes f xs) there

pub filter_has : {A : Type 0} (f : A → Bool) (xs : List A) (x : A) → Contains xs x → f x ≡ true
    → Contains (filter f xs) x
filter_has f [] x there passes = absurd (contains_none x there)
filter_has f (y ∷ xs) x there passes =
    elim (contains_cases y xs x there) [
      | inl same ↦
          subst (λ b. Contains (cond b (y ∷ filter f xs) (filter f xs)) x) (sym (ap f same ∙ passes))
          (subst (λ z. Contains (y ∷ filter f xs) z) same (contains_first y (filter f xs)))
      | inr later ↦ further (f y) (filter_has f xs x later passes)
    ]
  where
    further : (b : Bool) → Contains (filter f xs) x → Contains (cond b (y ∷ filter f xs) (filter f xs)) x
    further true later = contains_later y (filter f xs) x later
    further false later = later

-- paths

pub within_itself : (top : NodePath) → is_within top top ≡ true
within_itself top = ap is_some (below_top top)

pub within_more : (top path rest : NodePath) → is_within top path ≡ true → is_within top (path ++ rest) ≡ true
within_more top path rest is =
    let (more, same) = within_rest top path is in
    subst (λ p. is_within top p ≡ true) (sym (ap (λ p. p ++ rest) same ∙ append_assoc top more rest))
    (within_found top (more ++ rest))

-- something exists above what exists
pub exists_above : (tree : Tree) → HasDirectories tree → (top rest : NodePath) → is_some (tree (top ++ rest)) ≡ true
    → is_some (tree top) ≡ true
exists_above tree directories top [] some = subst (λ p. is_some (tree p) ≡ true) (append-nil top) some
exists_above tree directories top (name ∷ rest) some = cases (tree (top ++ name ∷ rest)) refl some
  where
    directory_some : (o : Option _) → is_directory_node o ≡ true → is_some o ≡ true
    directory_some None is = is
    directory_some (Some node) is = refl

    cases : (o : Option _) → tree (top ++ name ∷ rest) ≡ o → is_some o ≡ true → is_some (tree top) ≡ true
    cases None at bad = absurd (let worse : false ≡ true = bad in cc)
    cases (Some node) at good = directory_some (tree top) (directories top name rest node at)

-- covered paths

pub covered_by : (tops : List NodePath) (path : NodePath) → is_covered tops path ≡ true
    → (top : NodePath) × (rest : NodePath) × Contains tops top × (path ≡ top ++ rest)
covered_by [] path is = absurd (let bad : false ≡ true = is in cc)
covered_by (top ∷ tops) path is =
    elim (or_cases (is_within top path) (is_covered tops path) is) [
      | inl here ↦ let (rest, same) = within_rest top path here in (top, rest, contains_first top tops, same)
      | inr there ↦
          let (other, rest, among, same) = covered_by tops path there in
          (other, rest, contains_later top tops other among, same)
    ]

pub covered_from : (tops : List NodePath) (top rest : NodePath) → Contains tops top → is_covered tops (top ++ rest) ≡ true
covered_from [] top rest there = absurd (contains_none top there)
covered_from (other ∷ tops) top rest there =
    elim (contains_cases other tops top there) [
      | inl same ↦
          or_left _ (is_covered tops (top ++ rest))
          (subst (λ p. is_within p (top ++ rest) ≡ true) (sym same) (within_found top rest))
      | inr later ↦ or_right (is_within other (top ++ rest)) _ (covered_from tops top rest later)
    ]

pub covered_itself : (tops : List NodePath) (top : NodePath) → Contains tops top → is_covered tops top ≡ true
covered_itself tops top there =
    subst (λ p. is_covered tops p ≡ true) (append-nil top) (covered_from tops top [] there)

pub covered_more : (tops : List NodePath) (path rest : NodePath) → is_covered tops path ≡ true
    → is_covered tops (path ++ rest) ≡ true
covered_more tops path rest is =
    let (top, more, among, same) = covered_by tops path is in
    subst (λ p. is_covered tops p ≡ true) (sym (ap (λ p. p ++ rest) same ∙ append_assoc top more rest))
    (covered_from tops top (more ++ rest) among)

pub uncovered_above : (tops : List NodePath) (path rest : NodePath) → is_covered tops (path ++ rest) ≡ false
    → is_covered tops path ≡ false
uncovered_above tops path rest is = cases (is_covered tops path) refl
  where
    cases : (b : Bool) → is_covered tops path ≡ b → b ≡ false
    cases false at = refl
    cases true at = absurd (both_ways _ is (covered_more tops path rest at))

-- rests at which paths begin to cover a branch

named_there : (o : Option NodePath) (rest : NodePath) → Contains (named_rest o) rest
    → (name : List ℕ) × (more : NodePath) × (rest ≡ name ∷ more) × (o ≡ Some (name ∷ more))
named_there None rest there = absurd (contains_none rest there)
named_there (Some []) rest there = absurd (contains_none rest there)
named_there (Some (name ∷ more)) rest there =
    elim (contains_cases (name ∷ more) [] rest there) [
      | inl same ↦ (name, more, sym same, refl)
      | inr none ↦ absurd (contains_none rest none)
    ]

-- they are the rests of the paths strictly below
pub below_there : (top : NodePath) (paths : List NodePath) (rest : NodePath) → Contains (rests_below top paths) rest
    → Contains paths (top ++ rest)
below_there top [] rest there = absurd (contains_none rest there)
below_there top (path ∷ paths) rest there =
    elim (Contains-append_cases (named_rest (below top path)) (rests_below top paths) rest there) [
      | inl here ↦
          let (name, more, same, at) = named_there (below top path) rest here in
          subst (λ p. Contains (path ∷ paths) p) (below_rest top path (name ∷ more) at ∙ ap (λ r. top ++ r) (sym same))
          (contains_first path paths)
      | inr later ↦ contains_later path paths (top ++ rest) (below_there top paths rest later)
    ]

pub below_has : (top : NodePath) (paths : List NodePath) (name : List ℕ) (rest : NodePath)
    → Contains paths (top ++ name ∷ rest) → Contains (rests_below top paths) (name ∷ rest)
below_has top [] name rest there = absurd (contains_none (top ++ name ∷ rest) there)
below_has top (path ∷ paths) name rest there =
    elim (contains_cases path paths (top ++ name ∷ rest) there) [
      | inl same ↦
          Contains-append_left (named_rest (below top path)) (rests_below top paths) (name ∷ rest)
          (subst (λ o. Contains (named_rest o) (name ∷ rest)) (sym (ap (below top) same ∙ below_found top (name ∷ rest)))
          (contains_first (name ∷ rest) []))
      | inr later ↦
          Contains-append_right (named_rest (below top path)) (rests_below top paths) (name ∷ rest)
          (below_has top paths name rest later)
    ]

-- what exists there is covered
pub rests_there : (top : NodePath) (tops : List NodePath) (rest : NodePath) → Contains (rests_covered top tops) rest
    → is_covered tops (top ++ rest) ≡ true
rests_there top tops rest there = cases (is_covered tops top) refl there
  where
    cases : (b : Bool) → is_covered tops top ≡ b → Contains (cond b ([] ∷ []) (rests_below top tops)) rest
        → is_covered tops (top ++ rest) ≡ true
    cases true is in_it = covered_more tops top rest is
    cases false is in_it = covered_itself tops (top ++ rest) (below_there top tops rest in_it)

-- what is covered is at one of these rests or below it
pub rests_above : (top : NodePath) (tops : List NodePath) (rest : NodePath) → is_covered tops (top ++ rest) ≡ true
    → (first : NodePath) × (more : NodePath) × Contains (rests_covered top tops) first × (rest ≡ first ++ more)
rests_above top tops rest is = cases (is_covered tops top) refl
  where
    cases : (b : Bool) → is_covered tops top ≡ b
        → (first : NodePath) × (more : NodePath) × Contains (cond b ([] ∷ []) (rests_below top tops)) first
        × (rest ≡ first ++ more)
    cases true at = ([], rest, contains_first [] [], refl)
    cases false at =
        let (other, behind, among, same) = covered_by tops (top ++ rest) is in
        elim (one_in_other top other rest behind same) [
          | inl (more, above) ↦
              absurd (both_ways _ at (subst (λ p. is_covered tops p ≡ true) (sym above) (covered_from tops other more among)))
          | inr (name, more, lower) ↦ (
            name ∷ more,
            behind,
            below_has top tops name more (subst (λ p. Contains tops p) lower among),
            same_rest top rest ((name ∷ more) ++ behind)
                (same ∙ (ap (λ p. p ++ behind) lower ∙ append_assoc top (name ∷ more) behind)),
          )
        ]
