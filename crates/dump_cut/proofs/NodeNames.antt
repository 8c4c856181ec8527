-- Each name that can be in a directory is the name of a node, if the paths of the changes have such names.
use Rattle.std.proofs.Common.{◌≡◌, ℕ, zero, suc, true, false, List, [], ◌∷◌, Option, Some, None, bytes_eq, refl, sym, ap, ◌∙◌, inl, inr}
use Rattle.std.specs.Prelude.{slice_get, option_map}
use Rattle.std.specs.List.{list_all}
use Rattle.std.proofs.lemmas.Bool.{and_parts, and_from, or_cases}
use Rattle.std.proofs.lemmas.List.Folds.{list_all-append}
use Rattle.std.proofs.lemmas.Slice.Eq.{bytes_eq-Decides}
use Rattle.dump_trees.specs.Changes.{Made, Change}
use Rattle.dump_trees.specs.steps.Listing.{name_made, name_below, names_made, names_from, names_left, names_there, names_behind, names_within, names_look}
use Rattle.dump_trees.specs.steps.Looking.{Placed, Origin, end_of, latest, origin_of, touches_path}
use Rattle.dump_trees.specs.Paths.{NodePath, below, names_of}
use Rattle.dump_trees.specs.Siblings.{has_node_names, is_node_name}
use Rattle.dump_trees.proofs.changes.TreeLemmas.{below_rest}
use Rattle.dump_trees.proofs.paths.SiblingLemmas.{rest_names}
use Rattle.dump_index.specs.steps.Children.{is_child_named}
use Rattle.dump_index.specs.steps.Listed.{Listed, all_placed, placed_of}
use Rattle.dump_index.proofs.KeyLemmas.{get-map}
use Rattle.dump_cut.specs.steps.NamedPaths.{has_named_paths}

-- what follows the top has names of the path
rest_named : (top path rest : NodePath) → below top path ≡ Some rest → has_node_names path ≡ true → has_node_names rest ≡ true
rest_named top path rest is named = rest_names top rest (ap has_node_names (sym (below_rest top path rest is)) ∙ named)

abbrev IsNamed : Option Placed → Type 0
IsNamed o = (p : Placed) → o ≡ Some p → has_node_names p.change.path ≡ true

below_named : (path : NodePath) (o : Option Placed) → IsNamed o → list_all is_node_name (name_below path o) ≡ true
below_named path None all = refl
below_named path (Some p) all = cases (below path p.change.path) p.change.made refl
  where
    cases : (o : Option NodePath) (made : Option Made) → below path p.change.path ≡ o
        → list_all is_node_name (name_made o made) ≡ true
    cases None made is = refl
    cases (Some []) made is = refl
    cases (Some (name ∷ [])) None is = refl
    cases (Some (name ∷ [])) (Some made) is = rest_named path p.change.path (name ∷ []) is (all p refl)
    cases (Some (name ∷ next ∷ rest)) made is = refl

module _ (placed : List Placed) (named : (place : ℕ) → IsNamed (slice_get placed place)) where
  all_made : (count : ℕ) (path : NodePath) → list_all is_node_name (names_made placed count path) ≡ true
  all_made zero path = refl
  all_made (suc count) path =
      list_all-append is_node_name (name_below path (slice_get placed count)) (names_made placed count path)
      ∙ and_from _ _ (below_named path (slice_get placed count) (named count)) (all_made count path)

  abbrev AreNamed : ℕ → Type 0
  AreNamed more = (count : ℕ) (path : NodePath) → list_all is_node_name (names_within more placed count path) ≡ true

  from_named : (more : ℕ) → AreNamed more → (place : ℕ) (path : NodePath) (o : Origin)
      → list_all is_node_name (names_from (names_within more placed) placed place path o) ≡ true
  from_named more earlier place path Origin.Nowhere = refl
  from_named more earlier place path (Origin.New node) = refl
  from_named more earlier place path Origin.Before = earlier place path
  from_named more earlier place path (Origin.From number source) = earlier (end_of placed number) source

  left_named : (more : ℕ) → AreNamed more → (place : ℕ) (path : NodePath) (c : Change) (o : Option NodePath)
      → list_all is_node_name (names_left (names_within more placed) placed place path c o) ≡ true
  left_named more earlier place path c None = refl
  left_named more earlier place path c (Some rest) = from_named more earlier place path (origin_of c.deletes c.made rest)

  there_named : (more : ℕ) → AreNamed more → (place : ℕ) (path : NodePath) (o : Option Placed)
      → list_all is_node_name (names_there (names_within more placed) placed place path o) ≡ true
  there_named more earlier place path None = refl
  there_named more earlier place path (Some p) = left_named more earlier place path p.change (below p.change.path path)

  behind_named : (more : ℕ) → AreNamed more → (path : NodePath) (o : Option ℕ)
      → list_all is_node_name (names_behind (names_within more placed) placed path o) ≡ true
  behind_named more earlier path None = refl
  behind_named more earlier path (Some place) = there_named more earlier place path (slice_get placed place)

  within_named : (more : ℕ) → AreNamed more
  within_named zero count path = refl
  within_named (suc more) count path =
      list_all-append is_node_name (names_made placed count path)
      (names_behind (names_within more placed) placed path (latest (touches_path path) placed count))
      ∙ and_from _ _ (all_made count path)
      (behind_named more (within_named more) path (latest (touches_path path) placed count))

-- one of the names
one_named : (names : List (List ℕ)) (name : List ℕ) → list_all is_node_name names ≡ true
    → is_child_named names name ≡ true → is_node_name name ≡ true
one_named [] name all is = absurd (let bad : false ≡ true = is in cc)
one_named (other ∷ names) name all is =
    let parts = and_parts (is_node_name other) (list_all is_node_name names) all in
    elim (or_cases (bytes_eq other name) (is_child_named names name) is) [
      | inl same ↦ ap is_node_name (sym ((bytes_eq-Decides other name).0 same)) ∙ parts.0
      | inr there ↦ one_named names name parts.1 there
    ]

-- the path of the change at each place
placed_named : (listed : List Listed) → list_all has_named_paths listed ≡ true → (place : ℕ)
    → IsNamed (slice_get (all_placed listed) place)
placed_named listed all place p is = cases (slice_get listed place) refl (sym (get-map placed_of listed place) ∙ is)
  where
    cases : (o : Option Listed) → slice_get listed place ≡ o → option_map placed_of o ≡ Some p
        → has_node_names p.change.path ≡ true
    cases None none some = absurd (cc)
    cases (Some l) at some =
        let same : placed_of l ≡ p = (let both : Some (placed_of l) ≡ Some p = some in cc) in
        ap (λ (q : Placed). has_node_names q.change.path) (sym same)
        ∙ (and_parts (has_node_names (names_of l.path)) _ (at_named listed place l all at)).0
      where
        at_named : (ls : List Listed) (n : ℕ) (l : Listed) → list_all has_named_paths ls ≡ true → slice_get ls n ≡ Some l
            → has_named_paths l ≡ true
        at_named [] n l all at = absurd (cc)
        at_named (x ∷ ls) zero l all at =
            let same : x ≡ l = (let both : Some x ≡ Some l = at in cc) in
            ap has_named_paths (sym same) ∙ (and_parts (has_named_paths x) (list_all has_named_paths ls) all).0
        at_named (x ∷ ls) (suc n) l all at =
            at_named ls n l (and_parts (has_named_paths x) (list_all has_named_paths ls) all).1 at

-- each name that can be in a directory is the name of a node
pub look_named : (listed : List Listed) → list_all has_named_paths listed ≡ true → (count : ℕ) (path : NodePath) (name : List ℕ)
    → is_child_named (names_look (all_placed listed) count path) name ≡ true → is_node_name name ≡ true
look_named listed all count path name is =
    one_named (names_look (all_placed listed) count path) name
    (within_named (all_placed listed) (placed_named listed all) count count path) is
