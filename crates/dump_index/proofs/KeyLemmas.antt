-- The keys of changes: how they are listed, and how the latest change at a path is found among them.
use Rattle.std.proofs.Common.{◌≡◌, All, ap₂, ℕ, zero, suc, ◌+◌, ◌<◌, ◌≤◌, Bool, true, false, cond, List, [], ◌∷◌, ◌++◌, length, map, filter, get_or, Option, Some, None, option_map, nat_eq, bytes_eq, lit<, Contains, refl, sym, ap, subst, ◌∙◌, arith, inl, inr}
use Rattle.std.specs.Prelude.{slice_get}
use Rattle.std.proofs.lemmas.Bool.{cases_lt, and_parts, and_from, false_from_ne_true, lt-ltb}
use Rattle.std.proofs.lemmas.List.{get_or-map, length-map}
use Rattle.std.proofs.lemmas.List.Elements.{All-get_or, Contains-append_left, Contains-append_right, Contains-append_cases}
use Rattle.std.proofs.lemmas.List.Kept.{IsSortedBy-filter}
use Rattle.std.proofs.lemmas.List.Sorted.{sorted_far, ranks_by, searchable_from_sorted, IsPermutation-sym, Contains-permutation}
use Rattle.std.proofs.lemmas.Option.{slice_get_within, slice_get-get_or}
use Rattle.std.proofs.lemmas.Slice.Eq.{bytes_eq-Decides}
use Rattle.std.proofs.lemmas.Map.Text.{is_eq-slice_cmp}
use Rattle.std.specs.List.Sorted.{IsPartitionPoint, IsPartitionedBy, IsPermutation, IsSortedBy}
use Rattle.std.specs.Cmp.{IsTotalOrder, nat_cmp_total, then_total, on_total, tied_itself}
use Rattle.std.specs.Cmp.Lexicographic.{slice_cmp, nat_list_cmp_total}
use Rattle.std.specs.Ordering.{ordering_then, ordering_index, is_lt, is_eq, nat_cmp}
use Rattle.std.specs.declared.cmp.Ordering.{Ordering}
use Rattle.std.specs.declared.cmp.Ordering.TheVariants.{Less, Equal, Greater}
use Rattle.dump_index.specs.steps.Listed.{Listed, listed_of}
use Rattle.dump_index.specs.declared.change.NodeChange.{NodeChange}
use Rattle.dump_index.specs.declared.order.Key.{Key}
use Rattle.dump_index.specs.declared.order.Effect.{Effect}
use Rattle.dump_index.specs.declared.order.Effect.TheVariants.{Any}
use Rattle.dump_index.specs.steps.Keys.{AreFirstPlaces, IsKeyIn, PathKey, key_of, place_of, IsOrder, path_there, key_in, keys_in, key_cmp, is_key_before, IsSortedKeys, has_effect, has_effect_there, has_effect_at, has_effect_here, is_of_effect, latest_place, HasKeys}
use Rattle.dump_index.proofs.PlaceLemmas.{latest_is, latest_none}
use Rattle.dump_rules.proofs.ReachLemmas.{is_not_below}
use Rattle.dump_trees.proofs.cuts.CheckedLoads.{get_some}

-- the element of a list
pub get-map : {X Y : Type 0} (f : X → Y) (xs : List X) (n : ℕ) → slice_get (map f xs) n ≡ option_map f (slice_get xs n)
get-map f [] n = refl
get-map f (x ∷ xs) zero = refl
get-map f (x ∷ xs) (suc n) = get-map f xs n

-- ---- listing

pub listed_at : (changes : List NodeChange) (place : ℕ) (d : NodeChange) → place < length changes
    → slice_get (map listed_of changes) place ≡ Some (listed_of (get_or changes place d))
listed_at changes place d low = get-map listed_of changes place ∙ ap (option_map listed_of) (slice_get-get_or changes place d low)

-- ---- places

pub places_more : (count : ℕ) (places : List ℕ) → AreFirstPlaces count places → AreFirstPlaces (count + 1) (places ++ count ∷ [])
places_more count places are = record {
  has = λ place low.
      elim (cases_lt place count) [
        | inl before ↦ Contains-append_left places (count ∷ []) place (are.has place before)
        | inr after ↦
            let same : count ≡ place = omega arith in
            Contains-append_right places (count ∷ []) place (0, lit< tt, same)
      ];
  only = λ place some.
      elim (Contains-append_cases places (count ∷ []) place some) [
        | inl front ↦ let low = are.only place front in omega arith
        | inr back ↦ its place back
      ];
}
  where
    its : (place : ℕ) → Contains (count ∷ []) place → place < count + 1
    its place (zero, low, same) = let here : count ≡ place = same in omega arith
    its place (suc k, low, same) = absurd (omega arith)

pub places_moved : (count : ℕ) (places moved : List ℕ) → IsPermutation places moved → AreFirstPlaces count places
    → AreFirstPlaces count moved
places_moved count places moved others are =
    let back : IsPermutation moved places = IsPermutation-sym places moved others in
    record {
      has = λ place low. Contains-permutation places moved place others (are.has place low);
      only = λ place some. are.only place (Contains-permutation moved places place back some);
    }

-- the places of sorted keys
pub sorted_places : (listed : List Listed) (keys : List Key) → All (IsKeyIn listed) keys
    → IsSortedBy (λ a b. is_key_before (key_of a) (key_of b)) keys → IsSortedKeys listed (map place_of keys)
sorted_places listed [] are up k d low inside = absurd (omega arith)
sorted_places listed (first ∷ keys) are up k d low inside =
    let all : List Key = first ∷ keys in
    let next : k + 1 < length all = omega (arith, length-map all place_of) in
    ap₂ is_key_before (its (k + 1) next) (its k (omega arith)) ∙ up k first low next
  where
    its : (n : ℕ) → n < length (first ∷ keys)
        → key_in listed (get_or (map place_of (first ∷ keys)) n d) ≡ key_of (get_or (first ∷ keys) n first)
    its n less =
        let key : Key = get_or (first ∷ keys) n first in
        ap (key_in listed) (get_or-map place_of (first ∷ keys) n first d less)
        ∙ ap (λ (text : List ℕ). (text, key.place)) (sym (All-get_or (IsKeyIn listed) (first ∷ keys) n first less are))

-- all places are those of all changes
pub all_keys : (listed : List Listed) (places : List ℕ) → AreFirstPlaces (length listed) places
    → HasKeys Any listed (keys_in listed places)
all_keys listed places are = record {
  has = λ path place is. here path place (slice_get listed place) refl is;
  only = λ path place some. its path place some;
}
  where
    in_keys : (place : ℕ) → Contains places place → Contains (keys_in listed places) (key_in listed place)
    in_keys place some = (
      some.0,
      omega (arith, length-map places (key_in listed), some.1),
      get_or-map (key_in listed) places some.0 place (key_in listed place) some.1 ∙ ap (key_in listed) some.2,
    )

    here : (path : List ℕ) (place : ℕ) (o : Option Listed) → slice_get listed place ≡ o → has_effect_there Any path o ≡ true
        → Contains (keys_in listed places) (path, place)
    here path place None at is = absurd (let bad : false ≡ true = is in cc)
    here path place (Some l) at is =
        let low : place < length listed = slice_get_within listed place l at in
        let text : l.path ≡ path = (bytes_eq-Decides l.path path).0 is in
        subst (λ (text : List ℕ). Contains (keys_in listed places) (text, place)) (ap path_there at ∙ text)
        (in_keys place (are.has place low))

    its : (path : List ℕ) (place : ℕ) → Contains (keys_in listed places) (path, place) → has_effect_at Any listed path place ≡ true
    its path place some =
        let i = some.0 in
        let inside : i < length places = subst (λ (n : ℕ). i < n) (length-map places (key_in listed)) some.1 in
        let p = get_or places i place in
        let key : key_in listed p ≡ (path, place) =
        sym (get_or-map (key_in listed) places i place (path, place) inside) ∙ some.2 in
        let same : p ≡ place = ap (λ (k : PathKey). k.1) key in
        let text : path_there (slice_get listed place) ≡ path =
        ap (λ n. path_there (slice_get listed n)) (sym same) ∙ ap (λ (k : PathKey). k.0) key in
        let low = are.only place (i, inside, same) in
        let there = get_some listed place low in
        let own : there.0.path ≡ path = ap path_there (sym there.1) ∙ text in
        ap (has_effect_there Any path) there.1 ∙ (bytes_eq-Decides there.0.path path).1 own

-- ---- finding

pub keys_total : IsTotalOrder key_cmp
keys_total = then_total (on_total (λ (key : PathKey). key.0) nat_list_cmp_total) (on_total (λ (key : PathKey). key.1) nat_cmp_total)

same_path : (path : List ℕ) (m n : ℕ) → key_cmp (path, m) (path, n) ≡ nat_cmp m n
same_path path m n = ap (λ o. ordering_then o (nat_cmp m n)) (tied_itself nat_list_cmp_total path)

pub earlier_place : (m n : ℕ) → m < n → nat_cmp m n ≡ Less
earlier_place m n low = ap (λ b. cond b Less (cond (nat_eq m n) Equal Greater)) (lt-ltb m n low)

before_later : (path : List ℕ) (m n : ℕ) → m < n → is_key_before (path, m) (path, n) ≡ true
before_later path m n low = ap is_lt (same_path path m n ∙ earlier_place m n low)

later_place : (m n : ℕ) → is_lt (nat_cmp m n) ≡ true → m < n
later_place m n is =
    elim (cases_lt m n) [
      | inl less ↦ less
      | inr more ↦ absurd (let bad : false ≡ true = sym (not_less more) ∙ is in cc)
    ]
  where
    equal_or_more : (b : Bool) → is_lt (cond b Equal Greater) ≡ false
    equal_or_more true = refl
    equal_or_more false = refl

    not_less : n ≤ m → is_lt (nat_cmp m n) ≡ false
    not_less high =
        ap (λ b. is_lt (cond b Less (cond (nat_eq m n) Equal Greater))) (is_not_below m n high)
        ∙ equal_or_more (nat_eq m n)

-- comparisons whose first part is the same
squeezed : (o r s : Ordering) → is_lt (ordering_then o r) ≡ false → is_lt (ordering_then o s) ≡ true → is_eq o ≡ true
squeezed Less r s isnt is = let bad : true ≡ false = isnt in absurd (cc)
squeezed Equal r s isnt is = refl
squeezed Greater r s isnt is = let bad : false ≡ true = is in absurd (cc)

less_first : (o : Ordering) → is_lt o ≡ true → ordering_index o ≡ 0
less_first Less is = refl
less_first Equal is = let bad : false ≡ true = is in absurd (cc)
less_first Greater is = let bad : false ≡ true = is in absurd (cc)

first_less : (o : Ordering) → ordering_index o ≤ 0 → is_lt o ≡ true
first_less Less low = refl
first_less Equal low = let bad : 1 ≤ 0 = low in absurd (omega arith)
first_less Greater low = let bad : 2 ≤ 0 = low in absurd (omega arith)

pub keys_parted : (listed : List Listed) (keys : List ℕ) (goal : PathKey) → IsSortedKeys listed keys
    → IsPartitionedBy (λ key. is_key_before (key_in listed key) goal) keys
keys_parted listed keys goal up i j d low inside is =
    let index : ordering_index (key_cmp (key_in listed (get_or keys i d)) goal)
    ≤ ordering_index (key_cmp (key_in listed (get_or keys j d)) goal)
    = searchable_from_sorted keys_total (key_in listed) keys goal up i j d low inside in
    let least : ordering_index (key_cmp (key_in listed (get_or keys j d)) goal) ≡ 0 = less_first _ is in
    first_less _ (omega arith)

abbrev pub IsPointOf : List Listed → List ℕ → PathKey → ℕ → Type 0
IsPointOf listed keys goal point =
    IsPartitionPoint (λ key. is_key_before (key_in listed key) goal ≡ true)
    (λ key. is_key_before (key_in listed key) goal ≡ false) keys point

module _ (listed : List Listed) (keys : List ℕ) (up : IsSortedKeys listed keys) (path : List ℕ) (count point : ℕ)
    (parted : IsPointOf listed keys (path, count) point)
    (test : ℕ → Bool) (has : (place : ℕ) → test place ≡ true → Contains (keys_in listed keys) (path, place))
    (only : (place : ℕ) → Contains (keys_in listed keys) (path, place) → test place ≡ true) where
  found_before : (place : ℕ) (d : ℕ) → place < count → test place ≡ true
      → (i : ℕ) × (i < point) × ((key_in listed) (get_or keys i d) ≡ (path, place))
  found_before place d low is =
      let some = has place is in
      let i = some.0 in
      let inside : i < length keys = subst (λ (n : ℕ). i < n) (length-map keys (key_in listed)) some.1 in
      let its : (key_in listed) (get_or keys i d) ≡ (path, place) = sym (get_or-map (key_in listed) keys i d (path, place) inside) ∙ some.2 in
      elim (cases_lt i point) [
        | inl less ↦ (i, less, its)
        | inr more ↦
            absurd (let bad : true ≡ false = sym (before_later path place count low)
            ∙ ap (λ key. is_key_before key (path, count)) (sym its) ∙ parted.1 i d more inside in cc)
      ]

  pub found_none : point ≡ 0 → ℕ → latest_place test count ≡ None
  found_none first d = latest_none test count (λ place low. false_from_ne_true (test place) (λ is.
      let found = found_before place d low is in
      let inside = found.1 in
      omega arith))

  module _ (last : ℕ) (key : ℕ) (behind : last + 1 ≡ point) (bound : point ≤ length keys)
      (at : key ≡ get_or keys last key) where
    not_before : (place : ℕ) → place < count → test place ≡ true → is_key_before ((key_in listed) key) (path, place) ≡ false
    not_before place low is =
        let found = found_before place key low is in
        let inside = found.1 in
        ap (λ k. is_key_before ((key_in listed) k) (path, place)) at
        ∙ ap (λ k. is_key_before ((key_in listed) (get_or keys last key)) k) (sym found.2)
        ∙ sorted_far (λ a b. is_key_before ((key_in listed) a) ((key_in listed) b)) (ranks_by keys_total (key_in listed)) keys up found.0 last key
        (omega arith) (omega arith)

    is_before_count : is_key_before ((key_in listed) key) (path, count) ≡ true
    is_before_count = ap (λ k. is_key_before ((key_in listed) k) (path, count)) at ∙ parted.0 last key (omega arith) (omega arith)

    pub found_other : bytes_eq (path_there (slice_get listed key)) path ≡ false → latest_place test count ≡ None
    found_other other = latest_none test count (λ place low. false_from_ne_true (test place) (λ is.
        let same = squeezed (slice_cmp nat_cmp (path_there (slice_get listed key)) path) (nat_cmp key place) (nat_cmp key count)
        (not_before place low is) is_before_count in
        let bad : true ≡ false = sym same ∙ is_eq-slice_cmp (path_there (slice_get listed key)) path ∙ other in absurd (cc)))

    pub found_here : bytes_eq (path_there (slice_get listed key)) path ≡ true → latest_place test count ≡ Some key
    found_here same_text =
        let same : (path_there (slice_get listed key)) ≡ path = (bytes_eq-Decides (path_there (slice_get listed key)) path).0 same_text in
        let its : (key_in listed) key ≡ (path, key) = ap (λ text. (text, key)) same in
        let inside : last < length (keys_in listed keys) = omega (arith, length-map keys (key_in listed)) in
        let within : last < length keys = omega arith in
        let there : Contains (keys_in listed keys) (path, key) = (
          last,
          inside,
          get_or-map (key_in listed) keys last key (path, key) within ∙ ap (key_in listed) (sym at) ∙ its,
        ) in
        let early : key < count = later_place key count (ap is_lt (sym (same_path path key count))
        ∙ ap (λ k. is_key_before k (path, count)) (sym its) ∙ is_before_count) in
        latest_is test count key early (only key there)
        (λ place above low. false_from_ne_true (test place) (λ is.
        let bad : true ≡ false = sym (before_later path key place above)
        ∙ ap (λ k. is_key_before k (path, place)) (sym its) ∙ not_before place low is in absurd (cc)))

-- the places of all keys whose changes have an effect
module _ (effect : Effect) (listed : List Listed) where
  abbrev these : List ℕ → List ℕ
  these keys = filter (has_effect_here effect listed) keys

  chosen : (keys : List ℕ) (path : List ℕ) (place : ℕ) → Contains (keys_in listed keys) (path, place)
      → has_effect_here effect listed place ≡ true → Contains (keys_in listed (these keys)) (path, place)
  chosen [] path place (i, low, same) is = absurd (omega arith)
  chosen (key ∷ keys) path place (zero, low, same) is =
      let here : key ≡ place = ap (λ (k : PathKey). k.1) same in
      let yes : has_effect_here effect listed key ≡ true = ap (has_effect_here effect listed) here ∙ is in
      subst (λ b. Contains (keys_in listed (cond b (key ∷ these keys) (these keys))) (path, place))
      (sym yes) (0, omega arith, same)
  chosen (key ∷ keys) path place (suc i, low, same) is =
      behind (has_effect_here effect listed key) (chosen keys path place (i, omega arith, same) is)
    where
      behind : (b : Bool) → Contains (keys_in listed (these keys)) (path, place)
          → Contains (keys_in listed (cond b (key ∷ these keys) (these keys))) (path, place)
      behind true some = (suc some.0, omega (arith, some.1), some.2)
      behind false some = some

  of_all : (keys : List ℕ) (path : List ℕ) (place : ℕ) → Contains (keys_in listed (these keys)) (path, place)
      → Contains (keys_in listed keys) (path, place) × (has_effect_here effect listed place ≡ true)
  of_all [] path place (i, low, same) = absurd (omega arith)
  of_all (key ∷ keys) path place some = cases (has_effect_here effect listed key) refl (of_all keys path place) some
    where
      IsThere : List ℕ → Type 0
      IsThere others = Contains (keys_in listed others) (path, place) × (has_effect_here effect listed place ≡ true)

      further : IsThere keys → IsThere (key ∷ keys)
      further its = let found = its.0 in ((suc found.0, omega (arith, found.1), found.2), its.1)

      cases : (b : Bool) → has_effect_here effect listed key ≡ b → (Contains (keys_in listed (these keys)) (path, place) → IsThere keys)
          → Contains (keys_in listed (cond b (key ∷ these keys) (these keys))) (path, place)
          → IsThere (key ∷ keys)
      cases false is rest more = further (rest more)
      cases true is rest (zero, low, same) = (
        (0, omega arith, same),
        sym (ap (λ (k : PathKey). has_effect_here effect listed k.1) same) ∙ is,
      )
      cases true is rest (suc i, low, same) = further (rest (i, omega arith, same))

  at_path : (o : Option Listed) (path : List ℕ) → has_effect_there effect path o ≡ true
      → (is_of_effect effect o ≡ true) × (has_effect_there Any path o ≡ true)
  at_path None path is = absurd (let bad : false ≡ true = is in cc)
  at_path (Some l) path is = and_parts (has_effect effect l) (bytes_eq l.path path) is

  at_both : (o : Option Listed) (path : List ℕ) → is_of_effect effect o ≡ true
      → has_effect_there Any path o ≡ true → has_effect_there effect path o ≡ true
  at_both None path is there = absurd (let bad : false ≡ true = is in cc)
  at_both (Some l) path is there = and_from (has_effect effect l) (bytes_eq l.path path) is there

  keys_chosen : (keys : List ℕ) → HasKeys Any listed (keys_in listed keys)
      → HasKeys effect listed (keys_in listed (these keys))
  keys_chosen keys all = record {
    has = λ path place is.
        let both = at_path (slice_get listed place) path is in
        chosen keys path place (all.has path place both.1) both.0;
    only = λ path place some.
        let both = of_all keys path place some in
        at_both (slice_get listed place) path both.1 (all.only path place both.0);
  }

  pub order_chosen : (places : List ℕ) → IsOrder Any listed places → IsOrder effect listed (these places)
  order_chosen places order = record {
    keys = keys_chosen places order.keys;
    sorted = IsSortedBy-filter (λ a b. is_key_before (key_in listed a) (key_in listed b))
        (ranks_by keys_total (key_in listed)) (has_effect_here effect listed) places order.sorted;
  }
