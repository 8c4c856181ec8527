-- The rests of all copies are listed.
use Rattle.dump_trees.proofs.Prelude.{◌≡◌, zero, suc, ◌⊎◌, inl, inr, ◌<◌, map, refl, sym, ap, ◌∙◌, subst, arith, slice_get, NodePath, Tree, root_alone, Made, Change, loaded_over}
use Rattle.std.proofs.Common.{ℕ, List, [], ◌∷◌, length, Option, Some, None, Contains}
use Rattle.std.proofs.lemmas.Option.{slice_get_within}
use Rattle.std.proofs.lemmas.List.Elements.{Contains-append_left, Contains-append_right, Contains-append_cases}
use Rattle.dump_trees.specs.steps.Looking.{Placed, placed_from}
use Rattle.dump_trees.specs.steps.LoadCheck.{ToldKinds, TellsKinds}
use Rattle.dump_trees.specs.Following.{Way}
use Rattle.dump_trees.specs.steps.Following.{followed, AddsNothing, PlacedCopy, followed_told}
use Rattle.dump_trees.specs.steps.FollowedRests.{PlacedRest, rests_made, rests_at, all_rests, NoneAtAnyPlace, AllRestsAreListed, NoReturnsBringNothing}
use Rattle.dump_trees.proofs.histories.KeptNumbers.{get_before}
use Rattle.dump_trees.proofs.expansions.FoundSiblings.{contains_map, contains_made}
use Rattle.dump_trees.proofs.expansions.StandingLemmas.{copy_has_tree}
use Rattle.dump_trees.proofs.cuts.CoveredPaths.{contains_none, no_elements}
use Rattle.dump_trees.proofs.cuts.FollowLemmas.{change_is_made, followed_bring_nothing}
use Rattle.dump_trees.proofs.cuts.PlacedCopies.{get_contains, placed_of, copies_are_placed, followed_is_told}

last_or_before : (place count : ℕ) → place < suc count → (place ≡ count) ⊎ (place < count)
last_or_before zero zero low = inl refl
last_or_before zero (suc count) low = inr (let less : 0 < suc count = omega arith in less)
last_or_before (suc place) zero low = absurd (let bad : suc place < 1 = low in omega (arith, bad))
last_or_before (suc place) (suc count) low =
    elim (last_or_before place count (let less : place < suc count = omega (arith, low) in less)) [
      | inl same ↦ inl (ap suc same)
      | inr before ↦ inr (let less : suc place < suc count = omega (arith, before) in less)
    ]

module _ (way : Way) (tops : List NodePath) (told : ToldKinds) (placed : List Placed) where
  listed_at : (count : ℕ) (r : PlacedRest) → Contains (all_rests way tops told placed count) r
      → Contains (rests_at way tops told placed (slice_get placed r.place)) r.rest
  listed_at zero r there = absurd (contains_none r there)
  listed_at (suc count) r there =
      elim (Contains-append_cases (all_rests way tops told placed count)
      (map (λ rest. record { place = count; rest = rest }) (rests_at way tops told placed (slice_get placed count))) r there) [
        | inl early ↦ listed_at count r early
        | inr late ↦
            let (rest, among, same) =
            contains_made (λ p. record { place = count; rest = p }) (rests_at way tops told placed (slice_get placed count)) r
            late in
            subst (λ (q : PlacedRest). Contains (rests_at way tops told placed (slice_get placed q.place)) q.rest) same among
      ]

  at_listed : (count place : ℕ) (rest : NodePath) → place < count
      → Contains (rests_at way tops told placed (slice_get placed place)) rest
      → Contains (all_rests way tops told placed count) (record { place = place; rest = rest })
  at_listed zero place rest low there = absurd (let bad : place < 0 = low in omega (arith, bad))
  at_listed (suc count) place rest low there =
      elim (last_or_before place count low) [
        | inl same ↦
            Contains-append_right (all_rests way tops told placed count)
            (map (λ p. record { place = count; rest = p }) (rests_at way tops told placed (slice_get placed count)))
            (record { place = place; rest = rest })
            (subst (λ n. Contains {X = PlacedRest}
            (map (λ p. record { place = n; rest = p }) (rests_at way tops told placed (slice_get placed n)))
            (record { place = place; rest = rest })) same
            (contains_map (λ p. record { place = place; rest = p }) (rests_at way tops told placed (slice_get placed place))
            rest there))
        | inr before ↦
            Contains-append_left (all_rests way tops told placed count)
            (map (λ p. record { place = count; rest = p }) (rests_at way tops told placed (slice_get placed count)))
            (record { place = place; rest = rest }) (at_listed count place rest before there)
      ]

pub none_at_any_place : NoneAtAnyPlace
none_at_any_place way tops told placed count = (none_from count, none_at)
  where
    none_from : (n : ℕ) → ((place : ℕ) → place < n → rests_at way tops told placed (slice_get placed place) ≡ [])
        → all_rests way tops told placed n ≡ []
    none_from n none =
        no_elements (all_rests way tops told placed n) (λ r there.
        contains_none r.rest
        (subst (λ rs. Contains rs r.rest) (none r.place (listed_before n r there))
        (listed_at way tops told placed n r there)))
      where
        listed_before : (m : ℕ) (r : PlacedRest) → Contains (all_rests way tops told placed m) r → r.place < m
        listed_before zero r there = absurd (contains_none r there)
        listed_before (suc m) r there =
            elim (Contains-append_cases (all_rests way tops told placed m)
            (map (λ rest. record { place = m; rest = rest }) (rests_at way tops told placed (slice_get placed m))) r there) [
              | inl early ↦ let low = listed_before m r early in (let less : r.place < suc m = omega (arith, low) in less)
              | inr late ↦
                  let (rest, among, same) =
                  contains_made (λ p. record { place = m; rest = p }) (rests_at way tops told placed (slice_get placed m)) r late
                  in
                  let here : m ≡ r.place = ap (λ (q : PlacedRest). q.place) same in
                  (let less : r.place < suc m = omega (arith, here) in less)
            ]

    none_at : all_rests way tops told placed count ≡ [] → (place : ℕ) → place < count
        → rests_at way tops told placed (slice_get placed place) ≡ []
    none_at none place low =
        no_elements (rests_at way tops told placed (slice_get placed place)) (λ rest there.
        contains_none (record { place = place; rest = rest })
        (subst (λ rs. Contains {X = PlacedRest} rs (record { place = place; rest = rest })) none
        (at_listed way tops told placed count place rest low there)))

module _ (way : Way) (tops : List NodePath) (told : ToldKinds) (revisions : List (List Change)) (trees : List Tree)
    (tells : TellsKinds told root_alone (placed_from 1 revisions)) (is : loaded_over root_alone revisions ≡ Some trees) where
  abbrev here : List Placed
  here = placed_from 1 revisions

  -- the revision that a copy names has a tree
  has_tree : (p : Placed) (number : ℕ) (source : NodePath) → Contains here p
      → p.change.made ≡ Some (Made.Copied number source) → (old : Tree) × (slice_get trees number ≡ Some old)
  has_tree p number source there made =
      let (changes, among, in_it) = placed_of 1 revisions p there in
      let at = change_is_made trees revisions changes p.change is among in_it in
      let (old, old_there) = copy_has_tree (slice_get at.earlier) at.before at.after p.change number source made at.makes in (
        old,
        ap (λ ts. slice_get ts number) at.joined ∙ get_before at.earlier at.later number old old_there,
      )

  of_rest : (place : ℕ) (rest : NodePath) → Contains (rests_at way tops told here (slice_get here place)) rest
      → (path source : NodePath) × (old : Tree) × PlacedCopy trees here place path source old
      × Contains (followed way tops old path source) rest
  of_rest place rest there = by_place (slice_get here place) refl there
    where
      Found : Type 0
      Found = (path source : NodePath) × (old : Tree) × PlacedCopy trees here place path source old
          × Contains (followed way tops old path source) rest

      by_made : (p : Placed) → slice_get here place ≡ Some p → (made : Option Made) → p.change.made ≡ made
          → Contains (rests_made way tops told here p.change.path made) rest → Found
      by_made p at None same among = absurd (contains_none rest among)
      by_made p at (Some Made.NewDirectory) same among = absurd (contains_none rest among)
      by_made p at (Some Made.NewFile) same among = absurd (contains_none rest among)
      by_made p at (Some (Made.Copied number source)) same among =
          let (old, tree) = has_tree p number source (get_contains here place p at) same in (
            p.change.path,
            source,
            old,
            record { at = p; number = number; there = at; to = refl; copies = same; tree = tree },
            subst (λ rs. Contains rs rest)
                (followed_is_told way tops told revisions trees number old p.change.path source tells is tree) among,
          )

      by_place : (o : Option Placed) → slice_get here place ≡ o → Contains (rests_at way tops told here o) rest
          → Found
      by_place None at among = absurd (contains_none rest among)
      by_place (Some p) at among = by_made p at p.change.made refl among

  to_rest : (place : ℕ) (path source rest : NodePath) (old : Tree) → PlacedCopy trees here place path source old
      → Contains (followed way tops old path source) rest
      → Contains (rests_at way tops told here (slice_get here place)) rest
  to_rest place path source rest old copy among =
      subst (λ rs. Contains rs rest)
      (sym (ap (rests_at way tops told here) copy.there
      ∙ (ap (λ m. rests_made way tops told here copy.at.change.path m) copy.copies
      ∙ (ap (λ p. followed_told way tops told here copy.number p source) copy.to
      ∙ followed_is_told way tops told revisions trees copy.number old path source tells is copy.tree)))) among

  all_listed :
      ((r : PlacedRest) → Contains (all_rests way tops told here (length here)) r
      → (path source : NodePath) × (old : Tree) × PlacedCopy trees here r.place path source old
      × Contains (followed way tops old path source) r.rest)
      × ((place : ℕ) (path source rest : NodePath) (old : Tree) → PlacedCopy trees here place path source old
      → Contains (followed way tops old path source) rest
      → Contains (all_rests way tops told here (length here)) (record { place = place; rest = rest }))
      × (all_rests way tops told here (length here) ≡ [] → AddsNothing way trees revisions tops)
      × (AddsNothing way trees revisions tops → all_rests way tops told here (length here) ≡ [])
  all_listed = (
    λ r there. of_rest r.place r.rest (listed_at way tops told here (length here) r there),
    listed,
    λ none path source old copy.
        no_elements (followed way tops old path source) (λ rest among.
        let (place, at) = (copies_are_placed trees revisions path source old).0 copy in
        contains_none (record { place = place; rest = rest })
        (subst (λ rs. Contains rs (record { place = place; rest = rest })) none
        (listed place path source rest old at among))),
    λ nothing.
        no_elements (all_rests way tops told here (length here)) (λ r there.
        let (path, source, old, copy, among) =
        of_rest r.place r.rest (listed_at way tops told here (length here) r there) in
        contains_none r.rest
        (subst (λ rs. Contains rs r.rest)
        (nothing path source old ((copies_are_placed trees revisions path source old).1 r.place copy)) among)),
  )
    where
      listed : (place : ℕ) (path source rest : NodePath) (old : Tree) → PlacedCopy trees here place path source old
          → Contains (followed way tops old path source) rest
          → Contains (all_rests way tops told here (length here)) (record { place = place; rest = rest })
      listed place path source rest old copy among =
          at_listed way tops told here (length here) place rest (slice_get_within here place copy.at copy.there)
          (to_rest place path source rest old copy among)

pub all_rests_are_listed : AllRestsAreListed
all_rests_are_listed way tops told revisions trees placed same =
    subst (λ ps. TellsKinds told root_alone ps
    → loaded_over root_alone revisions ≡ Some trees
    → ((r : PlacedRest) → Contains (all_rests way tops told ps (length ps)) r
    → (path source : NodePath) × (old : Tree) × PlacedCopy trees ps r.place path source old
    × Contains (followed way tops old path source) r.rest)
    × ((place : ℕ) (path source rest : NodePath) (old : Tree) → PlacedCopy trees ps place path source old
    → Contains (followed way tops old path source) rest
    → Contains (all_rests way tops told ps (length ps)) (record { place = place; rest = rest }))
    × (all_rests way tops told ps (length ps) ≡ [] → AddsNothing way trees revisions tops)
    × (AddsNothing way trees revisions tops → all_rests way tops told ps (length ps) ≡ [])) (sym same)
    (λ tells is. all_listed way tops told revisions trees tells is)

pub no_returns_bring_nothing : NoReturnsBringNothing
no_returns_bring_nothing settings excluded told revisions trees placed same tells is names excludes named =
    let lists = all_rests_are_listed Way.ToCopies excluded told revisions trees placed same tells is in
    let back = followed_bring_nothing settings trees revisions excluded is names excludes named in
    (λ none. back.0 (lists.2 none), λ nothing. lists.3 (back.1 nothing))
