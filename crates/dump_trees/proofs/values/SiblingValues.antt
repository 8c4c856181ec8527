-- Examples of cuts and siblings that wrong definitions don't satisfy: of names, of paths that a dump names, and of
-- trees at other times.
use Rattle.dump_trees.proofs.Prelude.{◌≡◌, codes, refl, sym, ap, ◌∙◌, subst, both_ways, list_any, Side, Include, Exclude, Settings, NodePath, path_text, path_of, keeps, Node, Tree, put, root_alone, Change, arith, slice_get, map, zero, suc}
use Rattle.std.proofs.Common.{ℕ, Bool, true, false, List, [], ◌∷◌, Some, None, is_some, Contains}
use Rattle.dump_trees.specs.Siblings.{is_within, has_node_names}
use Rattle.dump_trees.specs.steps.Siblings.{is_above_included, is_in_cut, is_parent_above, is_sibling, HasNames, AreSiblings, ExcludesPaths, CoverNamed}
use Rattle.dump_trees.specs.steps.FindingSiblings.{CanStandBelow}
use Rattle.dump_trees.proofs.values.ValueParts.{including_all, directory, file, copy}

-- one path is included
abbrev included : List NodePath
included = path_of (codes "a/b") ∷ []

-- the cut

itself_within : is_within (path_of (codes "a")) (path_of (codes "a")) ≡ true
itself_within = refl

not_above_within : is_within (path_of (codes "a/b")) (path_of (codes "a")) ≡ false
not_above_within = refl

-- what is included isn't above it
not_above_itself : is_above_included included (path_of (codes "a/b")) ≡ false
not_above_itself = refl

not_above_it : is_above_included included (path_of (codes "a/b/f")) ≡ false
not_above_it = refl

-- of two included paths both count
either_inside : is_in_cut (path_of (codes "a/b") ∷ path_of (codes "c") ∷ []) (path_of (codes "c/f")) ≡ true
either_inside = refl

nested_inside : is_in_cut (path_of (codes "a") ∷ path_of (codes "a/b") ∷ []) (path_of (codes "a/x")) ≡ true
nested_inside = refl

-- siblings

root_has_no_parent : is_parent_above included None ≡ false
root_has_no_parent = refl

no_empty_name : is_sibling included ([] ∷ []) ≡ false
no_empty_name = refl

no_slash : is_sibling included (codes "x/y" ∷ []) ≡ false
no_slash = refl

-- an included path next to another one is no sibling
not_the_other : is_sibling (path_of (codes "a/b") ∷ path_of (codes "a/c") ∷ []) (path_of (codes "a/c")) ≡ false
not_the_other = refl

-- nothing is next to what is below an included path
none_below_included : is_sibling (path_of (codes "a") ∷ path_of (codes "a/b") ∷ []) (path_of (codes "a/x")) ≡ false
none_below_included = refl

-- trees

-- a directory above the included path, and what is next to that
abbrev above : Tree
above = put (path_of (codes "a")) (Node.Directory []) root_alone

abbrev with_sibling : Tree
with_sibling = put (path_of (codes "a/x")) (Node.File [] (codes "2")) above

-- a sibling that exists only in an earlier tree has to be among them too
once_stood : AreSiblings included (with_sibling ∷ above ∷ []) [] → ⊥
once_stood all = none (all.all 0 with_sibling (path_of (codes "a/x")) refl refl refl)
  where
    none : Contains [] (path_of (codes "a/x")) → ⊥
    none (k, low, is) = absurd (omega (arith, low))

stands_later : AreSiblings included (above ∷ with_sibling ∷ []) [] → ⊥
stands_later all = none (all.all 1 with_sibling (path_of (codes "a/x")) refl refl refl)
  where
    none : Contains [] (path_of (codes "a/x")) → ⊥
    none (k, low, is) = absurd (omega (arith, low))

-- a path at which nothing exists may be among them
idle_sibling : AreSiblings included (root_alone ∷ []) (path_of (codes "a/y") ∷ [])
idle_sibling = record { each = refl; all = all }
  where
    in_root : (tree : Tree) (path : NodePath) → root_alone ≡ tree → is_some (tree path) ≡ true
        → is_sibling included path ≡ true → Contains (path_of (codes "a/y") ∷ []) path
    in_root tree [] same some sibling = absurd (let bad : false ≡ true = sibling in cc)
    in_root tree (name ∷ path) same some sibling =
        absurd (both_ways (is_some (root_alone (name ∷ path))) refl
        ((λ i. is_some (same i (name ∷ path))) ∙ some))

    all : (number : ℕ) (tree : Tree) (path : NodePath) → slice_get (root_alone ∷ []) number ≡ Some tree
        → is_some (tree path) ≡ true → is_sibling included path ≡ true → Contains (path_of (codes "a/y") ∷ []) path
    all zero tree path at some sibling =
        in_root tree path (let both : Some root_alone ≡ Some tree = at in let same : root_alone ≡ tree = cc in same) some
        sibling
    all (suc number) tree path at some sibling = absurd (let bad : None ≡ Some tree = at in cc)

-- a path with a dot for a name is none of nodes
dot_stands : HasNames (put ((46 ∷ []) ∷ []) (Node.File [] []) root_alone) → ⊥
dot_stands names = absurd (let bad : false ≡ true = names ((46 ∷ []) ∷ []) refl in cc)

-- named paths

-- siblings that don't cover a path which a merge source names, though nothing ever exists there
leaves_out_named : CoverNamed included (path_of (codes "gone/f") ∷ []) [] → ⊥
leaves_out_named cover =
    absurd (let bad : false ≡ true = cover.all (path_of (codes "gone/f")) (0, omega arith, refl) refl refl in cc)

-- they may not have what is included
too_much_named : CoverNamed included [] (path_of (codes "a/b") ∷ []) → ⊥
too_much_named cover = absurd (let bad : false ≡ true = cover.each in cc)

-- these have it
has_named : CoverNamed included (path_of (codes "gone/f") ∷ path_of (codes "a/b/c") ∷ []) (path_of (codes "gone") ∷ [])
has_named = record { each = refl; all = all }
  where
    all : (path : NodePath) → Contains (path_of (codes "gone/f") ∷ path_of (codes "a/b/c") ∷ []) path
        → has_node_names path ≡ true → is_in_cut included path ≡ false
        → list_any (λ top. is_within top path) (path_of (codes "gone") ∷ []) ≡ true
    all path (zero, low, is) names out =
        subst (λ p. list_any (λ top. is_within top p)
        (path_of (codes "gone") ∷ []) ≡ true) is refl
    all path (suc zero, low, is) names out =
        absurd (let bad : true ≡ false
        = subst (λ p. is_in_cut included p ≡ false)
        (sym is) out in cc)
    all path (suc (suc k), low, is) names out = absurd (omega (arith, low))

-- if they aren't excluded, such a path is kept
abbrev excluding_all : List NodePath → Settings
excluding_all paths = record (including_all (map path_text paths)) { side = Exclude }

kept_without_it : keeps (excluding_all []) (path_of (codes "gone/f")) ≡ true
kept_without_it = refl

left_with_it : keeps (excluding_all (path_of (codes "gone") ∷ [])) (path_of (codes "gone/f")) ≡ false
left_with_it = refl

-- options that exclude paths

does_exclude : ExcludesPaths (excluding_all (path_of (codes "gone") ∷ [])) (path_of (codes "gone") ∷ [])
does_exclude = record { side = refl; prefixes = refl }

does_not_include : ExcludesPaths (including_all (codes "/gone" ∷ [])) (path_of (codes "gone") ∷ []) → ⊥
does_not_include e = absurd (let bad : false ≡ true = ap is_exclude e.side in cc)
  where
    is_exclude : Side → Bool
    is_exclude Include = false
    is_exclude Exclude = true

no_other_path : ExcludesPaths (excluding_all []) (path_of (codes "gone") ∷ []) → ⊥
no_other_path e = let bad : [] ≡ codes "/gone" ∷ [] = e.prefixes in cc

-- names that can exist

-- a directory with something next to the included path, and a copy of it
abbrev copied : List (List Change)
copied = (directory (codes "c") ∷ file (codes "c/x") (codes "1") ∷ []) ∷ (copy 1 (codes "c") (codes "a") ∷ []) ∷ []

not_yet : CanStandBelow copied 1 (path_of (codes "a")) (codes "x") → ⊥
not_yet can = absurd (let bad : false ≡ true = can in cc)

-- a name that no change names comes with the copy
by_the_copy : CanStandBelow copied 2 (path_of (codes "a")) (codes "x")
by_the_copy = refl
