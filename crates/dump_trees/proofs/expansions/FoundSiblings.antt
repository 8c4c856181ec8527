-- The siblings are among the names that can exist in the directories above included paths.
use Rattle.dump_trees.proofs.Prelude.{◌≡◌, zero, suc, ◌≤◌, ◌<◌, refl, sym, ap, subst, inl, inr, arith, map, list_any, slice_get, and_parts, or_cases, NodePath, below, parent_of, Tree, root_alone}
use Rattle.std.proofs.Common.{ℕ, true, false, not, ◌&&◌, List, [], ◌∷◌, ◌++◌, length, Option, Some, None, is_some, Contains}
use Rattle.std.proofs.lemmas.Option.{slice_get_within}
use Rattle.std.proofs.lemmas.List.Elements.{Contains-append_left, Contains-append_right, Contains-push}
use Rattle.dump_trees.specs.Siblings.{has_node_names}
use Rattle.dump_trees.specs.steps.Siblings.{has_name_behind, is_in_cut, is_parent_above, is_sibling}
use Rattle.dump_trees.specs.steps.FindingSiblings.{directories_above, all_above, AboveAreListed, SiblingsAreFound}
use Rattle.dump_trees.proofs.paths.SiblingLemmas.{higher_rest}
use Rattle.dump_trees.proofs.changes.TreeLemmas.{parent_rest}
use Rattle.dump_trees.proofs.histories.FrontLemmas.{loaded_length}
use Rattle.dump_trees.proofs.expansions.NameLemmas.{names_are_looked}

pub contains_map : {A B : Type 0} (f : A → B) (xs : List A) (x : A) → Contains xs x → Contains (map f xs) (f x)
contains_map f [] x (k, low, is) = absurd (omega (arith, low))
contains_map f (y ∷ xs) x (zero, low, is) = (zero, omega arith, ap f is)
contains_map f (y ∷ xs) x (suc k, low, is) =
    let (m, fits, same) = contains_map f xs x (k, (let less : k < length xs = omega (arith, low) in less), is) in
    (suc m, omega (arith, fits), same)

-- an element of a mapped list is the image of an element of the list
pub contains_made : {A B : Type 0} (f : A → B) (xs : List A) (y : B) → Contains (map f xs) y
    → (x : A) × Contains xs x × (f x ≡ y)
contains_made f [] y (k, low, is) = absurd (omega (arith, low))
contains_made f (x ∷ xs) y (zero, low, is) = (x, (zero, omega arith, refl), is)
contains_made f (x ∷ xs) y (suc k, low, is) =
    let (z, (m, fits, there), same) =
    contains_made f xs y (k, (let less : k < length (map f xs) = omega (arith, low) in less), is) in
    (z, (suc m, omega (arith, fits), there), same)

-- a path above another one is listed
above_listed : (path : NodePath) (name : List ℕ) (rest : NodePath)
    → Contains (directories_above (path ++ name ∷ rest)) path
above_listed [] name rest =
    Contains-append_left ([] ∷ []) (map (λ above. name ∷ above) (directories_above rest)) [] (Contains-push [] [])
above_listed (first ∷ path) name rest =
    Contains-append_right ([] ∷ []) (map (λ above. first ∷ above) (directories_above (path ++ name ∷ rest))) (first ∷ path)
    (contains_map (λ above. first ∷ above) (directories_above (path ++ name ∷ rest)) path (above_listed path name rest))

any_listed : (included : List NodePath) (path : NodePath)
    → list_any (λ top. has_name_behind (below path top)) included ≡ true → Contains (all_above included) path
any_listed [] path some = absurd (let bad : false ≡ true = some in cc)
any_listed (top ∷ included) path some =
    elim (or_cases (has_name_behind (below path top)) (list_any (λ other. has_name_behind (below path other)) included)
    some) [
      | inl here ↦
          let (name, rest, same) = higher_rest path top here in
          Contains-append_left (directories_above top) (all_above included) path
          (subst (λ p. Contains (directories_above p) path) (sym same) (above_listed path name rest))
      | inr there ↦ Contains-append_right (directories_above top) (all_above included) path (any_listed included path there)
    ]

-- the directories above included paths are listed
pub above_are_listed : AboveAreListed
above_are_listed included [] above = Contains-append_left ([] ∷ []) (all_above included) [] (Contains-push [] [])
above_are_listed included (name ∷ path) above =
    Contains-append_right ([] ∷ []) (all_above included) (name ∷ path) (any_listed included (name ∷ path) above)

-- siblings suffice if each sibling that can exist is one of them
pub siblings_are_found : SiblingsAreFound
siblings_are_found included siblings revisions trees is each all = record { each = each; all = found }
  where
    found : (number : ℕ) (tree : Tree) (path : NodePath) → slice_get trees number ≡ Some tree
        → is_some (tree path) ≡ true → is_sibling included path ≡ true → Contains siblings path
    found number tree path at some sibling = cases (parent_of path) refl above
      where
        above : is_parent_above included (parent_of path) ≡ true
        above = (and_parts (has_node_names path) (is_parent_above included (parent_of path))
            (and_parts (has_node_names path && is_parent_above included (parent_of path))
            (not (is_in_cut included path)) sibling).0).1

        low : number ≤ length revisions
        low = omega (
          arith,
          slice_get_within trees number tree at,
          loaded_length (root_alone ∷ []) root_alone revisions trees is,
        )

        cases : (o : Option NodePath) → parent_of path ≡ o → is_parent_above included o ≡ true
            → Contains siblings path
        cases None none bad = absurd (let worse : false ≡ true = bad in cc)
        cases (Some parent) there is_above =
            let (name, same) = parent_rest path parent there in
            subst (λ p. Contains siblings p) (sym same)
            (all number parent name low is_above
            (names_are_looked revisions trees number tree parent name is at
            (subst (λ p. is_some (tree p) ≡ true) same some))
            (subst (λ p. is_sibling included p ≡ true) same sibling))
