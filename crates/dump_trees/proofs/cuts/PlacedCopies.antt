-- The copies of a history are the copies at the places of its changes, and the kinds say to which paths they are
-- followed.
use Rattle.dump_trees.proofs.Prelude.{◌≡◌, not, zero, suc, inl, inr, map, refl, sym, ap, ◌∙◌, subst, slice_get, Change}
use Rattle.std.proofs.Common.{ℕ, ◌&&◌, List, [], ◌∷◌, ◌++◌, Some, None, is_some, Contains}
use Rattle.std.proofs.lemmas.Option.{same_Some}
use Rattle.std.proofs.lemmas.List.Elements.{filter_agree, Contains-append_left, Contains-append_right, Contains-append_cases}
use Rattle.dump_trees.specs.steps.Looking.{Placed, placed_from, end_of}
use Rattle.dump_trees.specs.Returns.{is_covered}
use Rattle.dump_trees.specs.steps.Returns.{rests_covered}
use Rattle.dump_trees.specs.Following.{from_of, to_of}
use Rattle.dump_trees.specs.steps.Following.{CopiesArePlaced, FollowedIsTold}
use Rattle.dump_trees.proofs.expansions.FoundSiblings.{contains_map}
use Rattle.dump_trees.proofs.cuts.CheckedSteps.{kind_some}
use Rattle.dump_trees.proofs.cuts.CheckedLoads.{tells_each_tree}
use Rattle.dump_trees.proofs.cuts.CoveredPaths.{contains_first, contains_later, contains_cases, contains_none}

-- places of elements

contains_get : {A : Type 0} (xs : List A) (x : A) → Contains xs x → (place : ℕ) × (slice_get xs place ≡ Some x)
contains_get [] x there = absurd (contains_none x there)
contains_get (y ∷ xs) x there =
    elim (contains_cases y xs x there) [
      | inl same ↦ (zero, ap Some same)
      | inr later ↦ let (place, at) = contains_get xs x later in (suc place, at)
    ]

pub get_contains : {A : Type 0} (xs : List A) (place : ℕ) (x : A) → slice_get xs place ≡ Some x → Contains xs x
get_contains [] place x at = absurd (let bad : None ≡ Some x = at in cc)
get_contains (y ∷ xs) zero x at = subst (λ z. Contains (y ∷ xs) z) (same_Some y x at) (contains_first y xs)
get_contains (y ∷ xs) (suc place) x at = contains_later y xs x (get_contains xs place x at)

-- the changes of one revision
abbrev of_one : ℕ → List Change → List Placed
of_one number changes = map (λ (c : Change). record { revision = number; change = c }) changes

one_of : (number : ℕ) (changes : List Change) (p : Placed) → Contains (of_one number changes) p → Contains changes p.change
one_of number [] p there = absurd (contains_none p there)
one_of number (c ∷ changes) p there =
    elim (contains_cases (record { revision = number; change = c }) (of_one number changes) p there) [
      | inl same ↦
          subst (λ d. Contains (c ∷ changes) d) (ap (λ (q : Placed). q.change) same) (contains_first c changes)
      | inr later ↦ contains_later c changes p.change (one_of number changes p later)
    ]

placed_has : (number : ℕ) (revisions : List (List Change)) (changes : List Change) (c : Change)
    → Contains revisions changes → Contains changes c
    → (at : Placed) × Contains (placed_from number revisions) at × (at.change ≡ c)
placed_has number [] changes c among there = absurd (contains_none changes among)
placed_has number (first ∷ revisions) changes c among there =
    elim (contains_cases first revisions changes among) [
      | inl same ↦ (
        record { revision = number; change = c },
        Contains-append_left (of_one number first) (placed_from (suc number) revisions)
            (record { revision = number; change = c })
            (contains_map (λ (d : Change). record { revision = number; change = d }) first c
            (subst (λ cs. Contains cs c) (sym same) there)),
        refl,
      )
      | inr later ↦
          let (at, in_it, is) = placed_has (suc number) revisions changes c later there in
          (at, Contains-append_right (of_one number first) (placed_from (suc number) revisions) at in_it, is)
    ]

pub placed_of : (number : ℕ) (revisions : List (List Change)) (p : Placed) → Contains (placed_from number revisions) p
    → (changes : List Change) × Contains revisions changes × Contains changes p.change
placed_of number [] p there = absurd (contains_none p there)
placed_of number (first ∷ revisions) p there =
    elim (Contains-append_cases (of_one number first) (placed_from (suc number) revisions) p there) [
      | inl here ↦ (first, contains_first first revisions, one_of number first p here)
      | inr later ↦
          let (changes, among, in_it) = placed_of (suc number) revisions p later in
          (changes, contains_later first revisions changes among, in_it)
    ]

pub copies_are_placed : CopiesArePlaced
copies_are_placed trees revisions path source old = (
  λ copy.
      let (at, in_it, same) = placed_has 1 revisions copy.changes copy.change copy.among copy.there in
      let (place, there) = contains_get (placed_from 1 revisions) at in_it in (
        place,
        record {
          at = at;
          number = copy.number;
          there = there;
          to = ap (λ (c : Change). c.path) same ∙ copy.at;
          copies = ap (λ (c : Change). c.made) same ∙ copy.copies;
          tree = copy.tree;
        },
      ),
  λ place copy.
      let (changes, among, in_it) =
      placed_of 1 revisions copy.at (get_contains (placed_from 1 revisions) place copy.at copy.there) in
      record {
        changes = changes;
        change = copy.at.change;
        number = copy.number;
        among = among;
        there = in_it;
        at = copy.to;
        copies = copy.copies;
        tree = copy.tree;
      },
)

pub followed_is_told : FollowedIsTold
followed_is_told way tops told revisions trees number old path source tells is there =
    filter_agree
    (λ rest. is_some (told (end_of (placed_from 1 revisions) number) (source ++ rest))
    && not (is_covered tops (to_of way path source ++ rest)))
    (λ rest. is_some (old (source ++ rest)) && not (is_covered tops (to_of way path source ++ rest)))
    (λ rest. ap (λ b. b && not (is_covered tops (to_of way path source ++ rest)))
    (ap is_some (tells_each_tree told _ revisions trees number old (source ++ rest) tells is there)
    ∙ kind_some (old (source ++ rest))))
    (rests_covered (from_of way path source) tops)
