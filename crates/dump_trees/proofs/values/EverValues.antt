-- Examples of siblings that exist only within revisions, and of changes that do nothing.
use Rattle.dump_trees.proofs.Prelude.{◌≡◌, codes, refl, ap, ◌∙◌, subst, arith, inl, inr, zero, suc, ◌≤◌, not, ◌||◌, append-nil, bytes_eq, bytes_eq-Decides, or_cases, and_parts, list_all, list_any, map, slice_get, Exclude, Settings, NodePath, path_text, path_of, keeps, below, Tree, root_alone, Change, unwrap_or, loaded_over}
use Rattle.std.proofs.Common.{ℕ, Bool, true, false, List, [], ◌∷◌, ◌++◌, length, Option, Some, None, is_some, Contains}
use Rattle.dump_trees.specs.steps.Looking.{placed_from}
use Rattle.dump_trees.specs.steps.Listing.{names_look}
use Rattle.dump_trees.specs.steps.Siblings.{is_in_cut, is_sibling}
use Rattle.dump_trees.specs.steps.FindingSiblings.{all_above, CanStandBelow}
use Rattle.dump_trees.specs.steps.EverSiblings.{AreEverSiblings, ExistsBelow}
use Rattle.dump_trees.specs.EverSiblings.{does_something}
use Rattle.dump_trees.proofs.changes.TreeLemmas.{below_rest}
use Rattle.dump_trees.proofs.expansions.FoundSiblings.{above_are_listed}
use Rattle.dump_trees.proofs.cuts.CoveredPaths.{all_has, contains_first, contains_later}
use Rattle.dump_trees.proofs.cuts.EverSiblings.{ever_siblings_are_found}
use Rattle.dump_trees.proofs.values.ValueParts.{including_all, property, change, directory, file, copy, deletion, setting, editing, writing}

-- one path is included
abbrev included : List NodePath
included = path_of (codes "b/q") ∷ []

-- a directory with a file is copied above the included path, and deleted and made again in the same revision
abbrev within : List (List Change)
within = (directory (codes "s") ∷ file (codes "s/x") (codes "1") ∷ [])
    ∷ (copy 1 (codes "s") (codes "b") ∷ deletion (codes "b") ∷ directory (codes "b") ∷ []) ∷ []

it_loads : is_some (loaded_over root_alone within) ≡ true
it_loads = refl

-- the file exists there only after three changes
after_three : ExistsBelow within 3 (path_of (codes "b")) (codes "x")
after_three = (refl, refl)

not_after_two : ExistsBelow within 2 (path_of (codes "b")) (codes "x") → ⊥
not_after_two exists = absurd (let bad : false ≡ true = exists.0 in cc)

not_after_four : ExistsBelow within 4 (path_of (codes "b")) (codes "x") → ⊥
not_after_four exists = absurd (let bad : false ≡ true = exists.1 in cc)

-- at the end of the revision it can't exist there
not_at_the_end : CanStandBelow within 2 (path_of (codes "b")) (codes "x") → ⊥
not_at_the_end can = absurd (let bad : false ≡ true = can in cc)

-- siblings without it aren't the siblings of every tree
left_out : AreEverSiblings included within (path_of (codes "s") ∷ []) → ⊥
left_out are = none ((are (front ∷ []) (copy 1 (codes "s") (codes "b") ∷ []) (deletion (codes "b") ∷ directory (codes "b") ∷ []) []
    cut_short refl refl).all 2 (unwrap_or (slice_get cut_short 2) root_alone) (path_of (codes "b/x")) refl refl refl)
  where
    front : List Change
    front = directory (codes "s") ∷ file (codes "s/x") (codes "1") ∷ []

    cut_short : List Tree
    cut_short = unwrap_or (loaded_over root_alone (front ∷ (copy 1 (codes "s") (codes "b") ∷ []) ∷ [])) []

    none : Contains (path_of (codes "s") ∷ []) (path_of (codes "b/x")) → ⊥
    none (zero, low, is) = absurd (let bad : false ≡ true = ap (λ p. bytes_eq (path_text p) (codes "/b/x")) is in cc)
    none (suc k, low, is) = absurd (omega (arith, low))

-- with it they are

abbrev siblings : List NodePath
siblings = path_of (codes "s") ∷ path_of (codes "b/x") ∷ []

-- whether there is a rest, and it is no name
abbrev is_end : Option NodePath → Bool
is_end None = false
is_end (Some []) = true
is_end (Some (name ∷ rest)) = false

-- whether the path is among these
abbrev is_among : List NodePath → NodePath → Bool
is_among paths path = list_any (λ top. is_end (below top path)) paths

among_contains : (paths : List NodePath) (path : NodePath) → is_among paths path ≡ true → Contains paths path
among_contains [] path some = absurd (let bad : false ≡ true = some in cc)
among_contains (top ∷ paths) path some =
    elim (or_cases (is_end (below top path)) (is_among paths path) some) [
      | inl here ↦ subst (λ p. Contains (p ∷ paths) path) (same (below top path) refl here) (contains_first path paths)
      | inr there ↦ contains_later top paths path (among_contains paths path there)
    ]
  where
    same : (o : Option NodePath) → below top path ≡ o → is_end o ≡ true → path ≡ top
    same None at is = absurd (let bad : false ≡ true = is in cc)
    same (Some []) at is = below_rest top path [] at ∙ append-nil top
    same (Some (name ∷ rest)) at is = absurd (let bad : false ≡ true = is in cc)

-- whether the siblings of these names are among these
abbrev are_among : List NodePath → NodePath → List (List ℕ) → Bool
are_among paths path names =
    list_all (λ name. not (is_sibling included (path ++ name ∷ [])) || is_among paths (path ++ name ∷ [])) names

names_among : (paths : List NodePath) (path : NodePath) (names : List (List ℕ)) → are_among paths path names ≡ true
    → (name : List ℕ) → list_any (λ other. bytes_eq other name) names ≡ true
    → is_sibling included (path ++ name ∷ []) ≡ true → Contains paths (path ++ name ∷ [])
names_among paths path [] are name some sibling = absurd (let bad : false ≡ true = some in cc)
names_among paths path (first ∷ names) are name some sibling =
    elim (or_cases (bytes_eq first name) (list_any (λ other. bytes_eq other name) names) some) [
      | inl here ↦
          among_contains paths (path ++ name ∷ [])
          (implied (is_sibling included (path ++ name ∷ [])) (is_among paths (path ++ name ∷ [])) sibling
          (subst (λ n. (not (is_sibling included (path ++ n ∷ [])) || is_among paths (path ++ n ∷ [])) ≡ true)
          ((bytes_eq-Decides first name).0 here) (and_parts _ (are_among paths path names) are).0))
      | inr there ↦
          names_among paths path names
          (and_parts (not (is_sibling included (path ++ first ∷ [])) || is_among paths (path ++ first ∷ []))
          (are_among paths path names) are).1 name there sibling
    ]
  where
    implied : (a b : Bool) → a ≡ true → (not a || b) ≡ true → b ≡ true
    implied true b is holds = holds
    implied false b is holds = absurd (let bad : false ≡ true = is in cc)

-- whether these include the names that can exist below the directories after this number of changes
abbrev are_listed : List (List Change) → List NodePath → ℕ → Bool
are_listed revisions paths count =
    list_all (λ path. are_among paths path (names_look (placed_from 1 revisions) count path)) ([] ∷ all_above included)

ever_listed : (revisions : List (List Change)) (paths : List NodePath)
    → list_all (is_sibling included) paths ≡ true
    → ((count : ℕ) → count ≤ length (placed_from 1 revisions) → are_listed revisions paths count ≡ true)
    → AreEverSiblings included revisions paths
ever_listed revisions paths each all =
    ever_siblings_are_found included paths revisions each
    (λ count path name low above exists sibling.
    names_among paths path (names_look (placed_from 1 revisions) count path)
    (all_has (λ p. are_among paths p (names_look (placed_from 1 revisions) count p)) ([] ∷ all_above included) path
    (all count low) (above_are_listed included path above)) name exists.0 sibling)

with_it : AreEverSiblings included within siblings
with_it = ever_listed within siblings refl all
  where
    all : (count : ℕ) → count ≤ 5 → are_listed within siblings count ≡ true
    all zero low = refl
    all (suc zero) low = refl
    all (suc (suc zero)) low = refl
    all (suc (suc (suc zero))) low = refl
    all (suc (suc (suc (suc zero)))) low = refl
    all (suc (suc (suc (suc (suc zero))))) low = refl
    all (suc (suc (suc (suc (suc (suc count)))))) low = absurd (omega (arith, low))

-- what is deleted at a source

-- of a directory a file is deleted, and then the directory is copied to above the included path
abbrev deleted_before : List (List Change)
deleted_before = (directory (codes "a") ∷ file (codes "a/x") (codes "1") ∷ []) ∷ (deletion (codes "a/x") ∷ [])
    ∷ (copy 2 (codes "a") (codes "b") ∷ []) ∷ []

-- its name is one that can exist there, but nothing with that name exists
name_alone : CanStandBelow deleted_before 3 (path_of (codes "b")) (codes "x")
name_alone = refl

never_there : ExistsBelow deleted_before 4 (path_of (codes "b")) (codes "x") → ⊥
never_there exists = absurd (let bad : false ≡ true = exists.1 in cc)

-- changes that do nothing

idle : does_something (change (codes "x")) ≡ false
idle = refl

idle_edit : does_something (editing [] (change (codes "x"))) ≡ false
idle_edit = refl

deletes : does_something (deletion (codes "x")) ≡ true
deletes = refl

makes : does_something (directory (codes "x")) ≡ true
makes = refl

copies : does_something (copy 1 (codes "a") (codes "x")) ≡ true
copies = refl

sets : does_something (setting [] (change (codes "x"))) ≡ true
sets = refl

edits : does_something (editing (property (codes "p") (codes "1") ∷ []) (change (codes "x"))) ≡ true
edits = refl

writes : does_something (writing (codes "1") (change (codes "x"))) ≡ true
writes = refl

-- A change at a path at which nothing ever exists is loaded. It is kept if siblings are excluded that don't include
-- the path, since the path is only named.

abbrev idle_there : List (List Change)
idle_there = (change (codes "x") ∷ []) ∷ []

abbrev excluding_all : List NodePath → Settings
excluding_all paths = record (including_all (map path_text paths)) { side = Exclude }

idle_loads : is_some (loaded_over root_alone idle_there) ≡ true
idle_loads = refl

none_exists : AreEverSiblings included idle_there []
none_exists = ever_listed idle_there [] refl all
  where
    all : (count : ℕ) → count ≤ 1 → are_listed idle_there [] count ≡ true
    all zero low = refl
    all (suc zero) low = refl
    all (suc (suc count)) low = absurd (omega (arith, low))

idle_kept : keeps (excluding_all []) (path_of (codes "x")) ≡ true
idle_kept = refl

idle_outside : is_in_cut included (path_of (codes "x")) ≡ false
idle_outside = refl
