-- If an index says the same of two lists of changes, they make the same names.
use Rattle.std.proofs.Common.{◌≡◌, ℕ, zero, suc, ◌≤◌, cond, List, ◌++◌, length, map, Option, Some, None, option_map, nat_le, refl, sym, ap, ap₂, ◌∙◌, arith}
use Rattle.std.specs.Prelude.{slice_get}
use Rattle.std.proofs.lemmas.List.{length-map}
use Rattle.std.proofs.lemmas.List.Sums.{count_by-le-length}
use Rattle.std.specs.List.{AllZip}
use Rattle.dump_trees.specs.Paths.{NodePath, below}
use Rattle.dump_trees.specs.steps.Looking.{Placed, placed_from, touches_path, holds_there, latest, end_of, Origin, origin_of}
use Rattle.dump_trees.specs.steps.Listing.{name_made, name_below, names_made, names_from, names_left, names_there, names_behind, names_within, names_look}
use Rattle.dump_index.specs.steps.Listed.{Listed, listed_of, placed_of, all_placed}
use Rattle.dump_index.specs.steps.Children.{is_child_named}
use Rattle.dump_index.specs.steps.IndexLaws.{IsListed, NamesEverAreFound, NamesEverSuffice}
use Rattle.dump_trees.proofs.expansions.FoundSiblings.{siblings_are_found, above_are_listed}
use Rattle.dump_index.proofs.KeyLemmas.{get-map}
use Rattle.dump_index.proofs.LawLemmas.{Both, Neither, One, both_at, end_same, touch_listed}

module _ (listed : List Listed) (placed : List Placed) (all : AllZip IsListed listed placed) where
  -- what is said of the change at a place
  at_both : {X : Type 0} (f g : Option Placed → X) (none : f None ≡ g None)
      (one : (l : Listed) (p : Placed) → IsListed l p → f (Some p) ≡ g (Some (placed_of l))) (n : ℕ)
      → f (slice_get placed n) ≡ g (slice_get (all_placed listed) n)
  at_both f g none one n = cases (both_at listed placed all n) ∙ sym (ap g (get-map placed_of listed n))
    where
      cases : Both listed placed n → f (slice_get placed n) ≡ g (option_map placed_of (slice_get listed n))
      cases (Neither first second) = ap f second ∙ none ∙ sym (ap (λ o. g (option_map placed_of o)) first)
      cases (One l p first second is) = ap f second ∙ one l p is ∙ sym (ap (λ o. g (option_map placed_of o)) first)

  touched_same : (path : NodePath) (count : ℕ)
      → latest (touches_path path) placed count ≡ latest (touches_path path) (all_placed listed) count
  touched_same path zero = refl
  touched_same path (suc count) =
      ap₂ (λ b o. cond b (Some count) o)
      (at_both (holds_there (touches_path path)) (holds_there (touches_path path)) refl
      (λ l p is. touch_listed l p is path) count)
      (touched_same path count)

  made_same : (path : NodePath) (count : ℕ) → names_made placed count path ≡ names_made (all_placed listed) count path
  made_same path zero = refl
  made_same path (suc count) =
      ap₂ (λ (a : List (List ℕ)) (b : List (List ℕ)). a ++ b)
      (at_both (name_below path) (name_below path) refl
      (λ l p is. ap₂ (λ (top : NodePath) m. name_made (below path top) m) is.path is.made) count)
      (made_same path count)

  abbrev SameWithin : ℕ → Type 0
  SameWithin more = (count : ℕ) (path : NodePath) → names_within more placed count path ≡ names_within more (all_placed listed) count path

  from_same : (more : ℕ) → SameWithin more → (place : ℕ) (path : NodePath) (o : Origin)
      → names_from (names_within more placed) placed place path o
      ≡ names_from (names_within more (all_placed listed)) (all_placed listed) place path o
  from_same more same place path Origin.Nowhere = refl
  from_same more same place path (Origin.New node) = refl
  from_same more same place path Origin.Before = same place path
  from_same more same place path (Origin.From number source) =
      ap (λ n. names_within more placed n source) (end_same listed placed all number)
      ∙ same (end_of (all_placed listed) number) source

  left_same : (more : ℕ) → SameWithin more → (place : ℕ) (path : NodePath) (l : Listed) (p : Placed) → IsListed l p
      → names_there (names_within more placed) placed place path (Some p)
      ≡ names_there (names_within more (all_placed listed)) (all_placed listed) place path (Some (placed_of l))
  left_same more same place path l p is =
      ap (λ (top : NodePath). names_left (names_within more placed) placed place path p.change (below top path)) is.path
      ∙ cases (below (placed_of l).change.path path)
    where
      cases : (o : Option NodePath)
          → names_left (names_within more placed) placed place path p.change o
          ≡ names_left (names_within more (all_placed listed)) (all_placed listed) place path (placed_of l).change o
      cases None = refl
      cases (Some rest) =
          ap₂ (λ d m. names_from (names_within more placed) placed place path (origin_of d m rest)) is.deletes is.made
          ∙ from_same more same place path (origin_of l.deletes l.made rest)

  within_same : (more : ℕ) → SameWithin more
  within_same zero count path = refl
  within_same (suc more) count path =
      ap₂ (λ (a : List (List ℕ)) (b : List (List ℕ)). a ++ b) (made_same path count)
      (ap (names_behind (names_within more placed) placed path) (touched_same path count)
      ∙ cases (within_same more) (latest (touches_path path) (all_placed listed) count))
    where
      cases : SameWithin more → (o : Option ℕ) → names_behind (names_within more placed) placed path o
          ≡ names_behind (names_within more (all_placed listed)) (all_placed listed) path o
      cases further None = refl
      cases further (Some place) =
          at_both (names_there (names_within more placed) placed place path)
          (names_there (names_within more (all_placed listed)) (all_placed listed) place path) refl
          (left_same more further place path) place

  pub names_same : (count : ℕ) (path : NodePath) → names_look placed count path ≡ names_look (all_placed listed) count path
  names_same count path = within_same count count path

-- how many changes are in revisions up to a number
end_low : (listed : List Listed) (number : ℕ) → end_of (all_placed listed) number ≤ length listed
end_low listed number =
    omega (arith, count_by-le-length (λ (p : Placed). nat_le p.revision number) (all_placed listed), length-map listed placed_of)

pub names_ever_found : NamesEverAreFound
names_ever_found changes revisions number path names name all ever can =
    let listed = map listed_of changes in
    let placed = placed_from 1 revisions in
    ever.all name (
      end_of (all_placed listed) number,
      end_low listed number,
      ap (λ (ns : List (List ℕ)). is_child_named ns name)
          (sym (names_same listed placed all (end_of (all_placed listed) number) path)
          ∙ ap (λ n. names_look placed n path) (sym (end_same listed placed all number)))
          ∙ can,
    )

pub names_suffice : NamesEverSuffice
names_suffice changes included siblings revisions trees all loads each given =
    siblings_are_found included siblings revisions trees loads each (λ number path name low above can sibling.
    let its = given path (above_are_listed included path above) in
    its.2 name (names_ever_found changes revisions number path its.0 name all its.1 can) sibling)
