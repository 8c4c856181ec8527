-- Looking back goes to fewer changes, so the bound on the number of steps doesn't matter.
use Rattle.dump_trees.proofs.Prelude.{◌≡◌, zero, suc, ◌<◌, ◌≤◌, not, cond, nat_le, refl, sym, ap, ◌∙◌, subst, arith, slice_get, list_all, and_parts, and_from, not_from_false, le-leb, lt-leb, leb-true, ltb-true, NodePath, below, Node, Tree, Made, Change}
use Rattle.std.proofs.Common.{ℕ, Bool, true, false, List, [], ◌∷◌, ◌++◌, Option, Some, None}
use Rattle.dump_trees.specs.steps.Looking.{Placed, end_of, touches_path, holds_there, latest, Origin, origin_of, set_by, looked_up, left_at, left_there, look_behind, look_within, look}
use Rattle.dump_trees.specs.steps.Listing.{names_made, names_from, names_left, names_there, names_behind, names_within, names_look}
use Rattle.dump_trees.specs.steps.LookingBack.{is_of_before, copies_back}
use Rattle.dump_trees.proofs.expansions.LookLemmas.{count_cons, count_none, origin_source}

-- the order of changes

-- whether none of these changes is of a revision before this one
abbrev pub AreFrom : ℕ → List Placed → Type 0
AreFrom number placed = list_all (λ (p : Placed). nat_le number p.revision) placed ≡ true

-- the revisions of changes rise
abbrev pub Rise : List Placed → Type 0
Rise [] = Rattle.std.specs.Prelude.⊤
Rise (p ∷ placed) = AreFrom p.revision placed × Rise placed

pub from_more : (number other : ℕ) → number ≤ other → (placed : List Placed) → AreFrom other placed → AreFrom number placed
from_more number other low [] are = refl
from_more number other low (p ∷ placed) are =
    let parts = and_parts (nat_le other p.revision) (list_all (λ (q : Placed). nat_le other q.revision) placed) are in
    let high = leb-true other p.revision parts.0 in
    and_from (nat_le number p.revision) (list_all (λ (q : Placed). nat_le number q.revision) placed)
    (le-leb number p.revision (omega arith)) (from_more number other low placed parts.1)

-- none of them is in a revision up to this number
pub none_up_to : (number bound : ℕ) (placed : List Placed) → number < bound → AreFrom bound placed
    → end_of placed number ≡ 0
none_up_to number bound placed low are =
    count_none (λ (p : Placed). nat_le p.revision number) placed (none placed are)
  where
    none : (ps : List Placed) → AreFrom bound ps
        → list_all (λ (p : Placed). not (nat_le p.revision number)) ps ≡ true
    none [] is = refl
    none (p ∷ ps) is =
        let parts = and_parts (nat_le bound p.revision) (list_all (λ (q : Placed). nat_le bound q.revision) ps) is in
        let high = leb-true bound p.revision parts.0 in
        and_from (not (nat_le p.revision number)) (list_all (λ (q : Placed). not (nat_le q.revision number)) ps)
        (not_from_false _ (lt-leb p.revision number (omega arith))) (none ps parts.1)

-- the end of a revision before that of a change is before the change
ends_before : (placed : List Placed) → Rise placed → (place : ℕ) (p : Placed) → slice_get placed place ≡ Some p
    → (number : ℕ) → number < p.revision → end_of placed number ≤ place
ends_before [] rise place p at number low = absurd (let bad : None ≡ Some p = at in cc)
ends_before (q ∷ placed) rise zero p at number low =
    let same : q ≡ p = (let both : Some q ≡ Some p = at in cc) in
    let less : number < q.revision = subst (λ (r : Placed). number < r.revision) (sym same) low in
    let none : end_of (q ∷ placed) number ≡ 0
    = none_up_to number q.revision (q ∷ placed) less
    (and_from (nat_le q.revision q.revision) (list_all (λ (r : Placed). nat_le q.revision r.revision) placed)
    (le-leb q.revision q.revision (omega arith)) rise.0) in
    omega arith
ends_before (q ∷ placed) rise (suc place) p at number low =
    let behind = ends_before placed rise.1 place p at number low in
    let all = count_cons (λ (r : Placed). nat_le r.revision number) q placed in
    let few : cond (nat_le q.revision number) 1 0 ≤ 1 = at_most (nat_le q.revision number) in
    omega arith
  where
    at_most : (b : Bool) → cond b 1 0 ≤ 1
    at_most true = omega arith
    at_most false = omega arith

-- copies look back
abbrev pub LooksBack : List Placed → Type 0
LooksBack placed = (place : ℕ) (p : Placed) → slice_get placed place ≡ Some p → (number : ℕ) (source : NodePath)
    → p.change.made ≡ Some (Made.Copied number source) → end_of placed number ≤ place

back_at : (placed : List Placed) → copies_back placed ≡ true → (place : ℕ) (p : Placed)
    → slice_get placed place ≡ Some p → is_of_before p.revision p.change.made ≡ true
back_at [] back place p at = absurd (let bad : None ≡ Some p = at in cc)
back_at (q ∷ placed) back zero p at =
    let same : q ≡ p = (let both : Some q ≡ Some p = at in cc) in
    subst (λ (r : Placed). is_of_before r.revision r.change.made ≡ true) same
    (and_parts (is_of_before q.revision q.change.made) (copies_back placed) back).0
back_at (q ∷ placed) back (suc place) p at =
    back_at placed (and_parts (is_of_before q.revision q.change.made) (copies_back placed) back).1 place p at

pub looks_back : (placed : List Placed) → Rise placed → copies_back placed ≡ true → LooksBack placed
looks_back placed rise back place p at number source is =
    ends_before placed rise place p at number
    (ltb-true number p.revision
    (sym (ap (λ m. is_of_before p.revision m) is) ∙ back_at placed back place p at))

-- the latest change is one of this number of changes
latest_low : (test : Change → Bool) (placed : List Placed) (count place : ℕ)
    → latest test placed count ≡ Some place → suc place ≤ count
latest_low test placed zero place is = absurd (let bad : None ≡ Some place = is in cc)
latest_low test placed (suc count) place is =
    cases (latest_low test placed count place) (holds_there test (slice_get placed count)) is
  where
    cases : (latest test placed count ≡ Some place → suc place ≤ count) → (b : Bool)
        → cond b (Some count) (latest test placed count) ≡ Some place → suc place ≤ suc count
    cases further true here =
        let same : count ≡ place = (let both : Some count ≡ Some place = here in cc) in omega arith
    cases further false there = let low = further there in omega arith

module _ (placed : List Placed) (back : LooksBack placed) where
  -- two ways to look that find the same after fewer changes find the same after this number of changes
  module _ (first : Tree) (path : NodePath) where
    abbrev SameLook : (ℕ → NodePath → Option Node)
        → (ℕ → NodePath → Option Node) → ℕ → Type 0
    SameLook one two place = (count : ℕ) → count ≤ place → (p : NodePath) → one count p ≡ two count p

    module _ (one two : ℕ → NodePath → Option Node) where
      up_same : (place : ℕ) (p : Placed) → slice_get placed place ≡ Some p → SameLook one two place
          → (rest : NodePath)
          → looked_up one placed place path (origin_of p.change.deletes p.change.made rest)
          ≡ looked_up two placed place path (origin_of p.change.deletes p.change.made rest)
      up_same place p at same rest = cases (origin_of p.change.deletes p.change.made rest) refl
        where
          cases : (o : Origin) → origin_of p.change.deletes p.change.made rest ≡ o
              → looked_up one placed place path o ≡ looked_up two placed place path o
          cases Origin.Nowhere is = refl
          cases (Origin.New node) is = refl
          cases Origin.Before is = same place (omega arith) path
          cases (Origin.From number source) is =
              let made = origin_source p.change.deletes p.change.made rest number source is in
              same (end_of placed number) (back place p at number made.0 made.1) source

      there_same : (place : ℕ) → SameLook one two place → (o : Option Placed) → slice_get placed place ≡ o
          → left_there one placed place path o ≡ left_there two placed place path o
      there_same place same None at = refl
      there_same place same (Some p) at = cases (below p.change.path path)
        where
          cases : (o : Option NodePath)
              → left_at one placed place path p.change o ≡ left_at two placed place path p.change o
          cases None = same place (omega arith) path
          cases (Some rest) = ap (set_by p.change rest) (up_same place p at same rest)

      behind_same : (o : Option ℕ) → ((place : ℕ) → o ≡ Some place → SameLook one two place)
          → look_behind one first placed path o ≡ look_behind two first placed path o
      behind_same None same = refl
      behind_same (Some place) same = there_same place (same place refl) (slice_get placed place) refl

  -- the bound doesn't matter
  look_bound : (first : Tree) (bound : ℕ) (more count : ℕ) → more ≤ bound → count ≤ more → (path : NodePath)
      → look_within more first placed count path ≡ look_within count first placed count path
  look_bound first bound zero zero low less path = refl
  look_bound first bound zero (suc count) low less path = absurd (omega arith)
  look_bound first bound (suc more) zero low less path = refl
  look_bound first zero (suc more) (suc count) low less path = absurd (omega arith)
  look_bound first (suc bound) (suc more) (suc count) low less path =
      behind_same first path (look_within more first placed) (look_within count first placed)
      (latest (touches_path path) placed (suc count))
      (λ place is n few p.
      let early = latest_low (touches_path path) placed (suc count) place is in
      look_bound first bound more n (omega arith) (omega arith) p
      ∙ sym (look_bound first bound count n (omega arith) (omega arith) p))

  pub look_back : (first : Tree) (count : ℕ) (path : NodePath)
      → look first placed count path
      ≡ look_behind (look first placed) first placed path (latest (touches_path path) placed count)
  look_back first zero path = refl
  look_back first (suc count) path =
      behind_same first path (look_within count first placed) (look first placed)
      (latest (touches_path path) placed (suc count))
      (λ place is n few p.
      let early = latest_low (touches_path path) placed (suc count) place is in
      look_bound first count count n (omega arith) (omega arith) p)

  module _ (path : NodePath) where
    abbrev SameNames : (ℕ → NodePath → List (List ℕ)) → (ℕ → NodePath → List (List ℕ)) → ℕ → Type 0
    SameNames one two place = (count : ℕ) → count ≤ place → (p : NodePath) → one count p ≡ two count p

    module _ (one two : ℕ → NodePath → List (List ℕ)) where
      from_same : (place : ℕ) (p : Placed) → slice_get placed place ≡ Some p → SameNames one two place
          → (rest : NodePath)
          → names_from one placed place path (origin_of p.change.deletes p.change.made rest)
          ≡ names_from two placed place path (origin_of p.change.deletes p.change.made rest)
      from_same place p at same rest = cases (origin_of p.change.deletes p.change.made rest) refl
        where
          cases : (o : Origin) → origin_of p.change.deletes p.change.made rest ≡ o
              → names_from one placed place path o ≡ names_from two placed place path o
          cases Origin.Nowhere is = refl
          cases (Origin.New node) is = refl
          cases Origin.Before is = same place (omega arith) path
          cases (Origin.From number source) is =
              let made = origin_source p.change.deletes p.change.made rest number source is in
              same (end_of placed number) (back place p at number made.0 made.1) source

      names_there_same : (place : ℕ) → SameNames one two place → (o : Option Placed) → slice_get placed place ≡ o
          → names_there one placed place path o ≡ names_there two placed place path o
      names_there_same place same None at = refl
      names_there_same place same (Some p) at = cases (below p.change.path path)
        where
          cases : (o : Option NodePath)
              → names_left one placed place path p.change o ≡ names_left two placed place path p.change o
          cases None = refl
          cases (Some rest) = from_same place p at same rest

      names_behind_same : (o : Option ℕ) → ((place : ℕ) → o ≡ Some place → SameNames one two place)
          → names_behind one placed path o ≡ names_behind two placed path o
      names_behind_same None same = refl
      names_behind_same (Some place) same = names_there_same place (same place refl) (slice_get placed place) refl

  names_bound : (bound : ℕ) (more count : ℕ) → more ≤ bound → count ≤ more → (path : NodePath)
      → names_within more placed count path ≡ names_within count placed count path
  names_bound bound zero zero low less path = refl
  names_bound bound zero (suc count) low less path = absurd (omega arith)
  names_bound bound (suc more) zero low less path = refl
  names_bound zero (suc more) (suc count) low less path = absurd (omega arith)
  names_bound (suc bound) (suc more) (suc count) low less path =
      ap (λ ns. names_made placed (suc count) path ++ ns)
      (names_behind_same path (names_within more placed) (names_within count placed)
      (latest (touches_path path) placed (suc count))
      (λ place is n few p.
      let early = latest_low (touches_path path) placed (suc count) place is in
      names_bound bound more n (omega arith) (omega arith) p
      ∙ sym (names_bound bound count n (omega arith) (omega arith) p)))

  pub names_back : (count : ℕ) (path : NodePath)
      → names_look placed count path
      ≡ names_made placed count path
      ++ names_behind (names_look placed) placed path (latest (touches_path path) placed count)
  names_back zero path = refl
  names_back (suc count) path =
      ap (λ ns. names_made placed (suc count) path ++ ns)
      (names_behind_same path (names_within count placed) (names_look placed)
      (latest (touches_path path) placed (suc count))
      (λ place is n few p.
      let early = latest_low (touches_path path) placed (suc count) place is in
      names_bound count count n (omega arith) (omega arith) p))
