-- The keys of paths right below a directory, one after the other.
use Rattle.std.proofs.Common.{◌≡◌, ℕ, zero, suc, ◌+◌, ◌<◌, ◌≤◌, Bool, true, false, not, List, [], ◌∷◌, ◌++◌, length, take, drop, get_or, Option, Some, None, option_map, append-nil, refl, sym, ap, ◌∙◌, arith, inl, inr}
use Rattle.std.specs.Prelude.{slice_get}
use Rattle.std.proofs.lemmas.Bool.{cases_lt, not-true}
use Rattle.std.proofs.lemmas.List.{length-map}
use Rattle.std.proofs.lemmas.List.Sorted.{sorted_far, ranks_by}
use Rattle.std.specs.List.Sorted.{IsPartitionPoint, IsPartitionedBy}
use Rattle.std.specs.Cmp.Lexicographic.{slice_cmp}
use Rattle.std.specs.Ordering.{is_lt, nat_cmp}
use Rattle.dump_trees.specs.Paths.{is_name}
use Rattle.dump_index.specs.steps.Listed.{Listed}
use Rattle.dump_index.specs.declared.path_text.Below.TheVariants.{Outside}
use Rattle.dump_index.specs.steps.Keys.{PathKey, path_there, key_in, keys_in, is_key_before, IsSortedKeys}
use Rattle.dump_index.specs.steps.Below.{StandsSo, GoesFurther, ends_up_to, IsBehind, AreFrom, NoneBelow}
use Rattle.dump_index.proofs.KeyLemmas.{get-map, keys_total, IsPointOf}
use Rattle.dump_index.proofs.BelowLemmas.{first_part, up_to_before, up_to_own, front_between, not_first, nothing_more}

-- ---- keys and their places

-- an element at an index
pub get_inside : {X : Type 0} (xs : List X) (n : ℕ) (x : X) → slice_get xs n ≡ Some x → (n < length xs) × ((d : X) → get_or xs n d ≡ x)
get_inside [] n x at = absurd (let bad : None ≡ Some x = at in cc)
get_inside (y ∷ xs) zero x at = (omega arith, λ d. let both : Some y ≡ Some x = at in cc)
get_inside (y ∷ xs) (suc n) x at =
    let behind = get_inside xs n x at in (omega (arith, behind.0), behind.1)

-- the place that has this key
key_at : (listed : List Listed) (keys : List ℕ) (n : ℕ) (key : PathKey) → slice_get (keys_in listed keys) n ≡ Some key
    → (k : ℕ) × (n < length keys) × ((d : ℕ) → key_in listed (get_or keys n d) ≡ key)
key_at listed keys n key at = cases (slice_get keys n) refl (sym (get-map (key_in listed) keys n) ∙ at)
  where
    cases : (o : Option ℕ) → slice_get keys n ≡ o → option_map (key_in listed) o ≡ Some key
        → (k : ℕ) × (n < length keys) × ((d : ℕ) → key_in listed (get_or keys n d) ≡ key)
    cases None is there = absurd (let bad : None ≡ Some key = there in cc)
    cases (Some k) is there =
        let inside = get_inside keys n k is in
        let same : key_in listed k ≡ key = (let both : Some (key_in listed k) ≡ Some key = there in cc) in
        (k, inside.0, λ d. ap (key_in listed) (inside.1 d) ∙ same)

-- no path comes before the path of an earlier place
abbrev pub RisePaths : List PathKey → Type 0
RisePaths keys = (i j : ℕ) (a b : PathKey) → i ≤ j → slice_get keys i ≡ Some a → slice_get keys j ≡ Some b
    → is_lt (slice_cmp nat_cmp b.0 a.0) ≡ false

pub paths_rise : (listed : List Listed) (keys : List ℕ) → IsSortedKeys listed keys → RisePaths (keys_in listed keys)
paths_rise listed keys up i j a b low one two =
    let first = key_at listed keys i a one in
    let second = key_at listed keys j b two in
    let d = second.0 in
    first_part (slice_cmp nat_cmp b.0 a.0) (nat_cmp b.1 a.1)
    (ap (λ (key : PathKey). is_key_before key a) (sym (second.2 d))
    ∙ ap (is_key_before (key_in listed (get_or keys j d))) (sym (first.2 d))
    ∙ sorted_far (λ x y. is_key_before (key_in listed x) (key_in listed y)) (ranks_by keys_total (key_in listed)) keys up i j d low second.1)

-- ---- the index at which a search begins

module _ (listed : List Listed) (keys : List ℕ) (top : List ℕ) (point : ℕ) (parted : IsPointOf listed keys (top, 0) point) where
  pub front_none : NoneBelow (keys_in listed keys) top 0 point
  front_none n key name low less at is =
      let its = key_at listed keys n key at in
      let d = its.0 in
      absurd (let bad : false ≡ true = sym (not_first top name key.1)
      ∙ ap (λ (text : List ℕ). is_key_before (text, key.1) (top, 0)) (sym is)
      ∙ ap (λ (k : PathKey). is_key_before k (top, 0)) (sym (its.2 d)) ∙ parted.0 n d low less in cc)

  pub behind_from : AreFrom (keys_in listed keys) top point
  behind_from n key high at =
      let its = key_at listed keys n key at in
      let d = its.0 in
      first_part (slice_cmp nat_cmp key.0 top) (nat_cmp key.1 0)
      (ap (λ (k : PathKey). is_key_before k (top, 0)) (sym (its.2 d)) ∙ parted.1 n d high its.1)

-- ---- paths that begin with a front

abbrev pub is_key_up_to : List Listed → List ℕ → ℕ → Bool
is_key_up_to listed front key = ends_up_to front (path_there (slice_get listed key))

pub up_to_parted : (listed : List Listed) (keys : List ℕ) (front : List ℕ) → IsSortedKeys listed keys
    → IsPartitionedBy (is_key_up_to listed front) keys
up_to_parted listed keys front up i j d low inside is =
    let sorted = first_part (slice_cmp nat_cmp (key_in listed (get_or keys j d)).0 (key_in listed (get_or keys i d)).0)
    (nat_cmp (key_in listed (get_or keys j d)).1 (key_in listed (get_or keys i d)).1)
    (sorted_far (λ x y. is_key_before (key_in listed x) (key_in listed y)) (ranks_by keys_total (key_in listed)) keys up i j d low inside) in
    ap (λ b. not b) (up_to_before front (key_in listed (get_or keys i d)).0 (key_in listed (get_or keys j d)).0 sorted
    (not-true (is_lt (slice_cmp nat_cmp front (take (length front) (key_in listed (get_or keys j d)).0))) is))

pub is_behind : (listed : List Listed) (keys : List ℕ) (front : List ℕ) (point : ℕ) → point ≤ length keys
    → IsPartitionPoint (λ key. is_key_up_to listed front key ≡ true) (λ key. is_key_up_to listed front key ≡ false) keys point
    → IsBehind (keys_in listed keys) front point
is_behind listed keys front point low parted = record {
  bound = omega (arith, length-map keys (key_in listed));
  before = λ n key less at.
      let its = key_at listed keys n key at in
      let d = its.0 in
      ap (λ (k : PathKey). ends_up_to front k.0) (sym (its.2 d)) ∙ parted.0 n d (omega arith) less;
  behind = λ n key high at.
      let its = key_at listed keys n key at in
      let d = its.0 in
      ap (λ (k : PathKey). ends_up_to front k.0) (sym (its.2 d)) ∙ parted.1 n d high its.1;
}

-- ---- one step

module _ (keys : List PathKey) (rise : RisePaths keys) (top : List ℕ) (from at : ℕ) (key : PathKey)
    (there : slice_get keys at ≡ Some key) (none : NoneBelow keys top from at) where
  -- the path doesn't begin with the top
  pub all_outside : AreFrom keys top from → from ≤ at → StandsSo top key.0 Outside → NoneBelow keys top from (length keys)
  all_outside high low out n k name first less is_there is =
      elim (cases_lt n at) [
        | inl before ↦ none n k name first before is_there is
        | inr behind ↦
            absurd (out (drop (length top) key.0) (front_between top [] key.0
            (ap (λ (t : List ℕ). is_lt (slice_cmp nat_cmp key.0 t)) (append-nil top) ∙ high at key low there)
            (up_to_before top key.0 k.0 (rise at n key k behind there is_there)
            (ap (λ (t : List ℕ). is_lt (slice_cmp nat_cmp top (take (length top) t))) is ∙ up_to_own top name))))
      ]

  -- the path is one of those before the next index
  one_more : ((name : List ℕ) → key.0 ≡ top ++ name → is_name name ≡ false) → NoneBelow keys top from (at + 1)
  one_more here n k name first less is_there is =
      elim (cases_lt n at) [
        | inl before ↦ none n k name first before is_there is
        | inr behind ↦
            let place : n ≡ at = omega arith in
            let both : Some k ≡ Some key = sym is_there ∙ ap (slice_get keys) place ∙ there in
            let same : k ≡ key = cc in
            here name (ap (λ (x : PathKey). x.0) (sym same) ∙ is)
      ]

  pub none_itself : key.0 ≡ top → NoneBelow keys top from (at + 1)
  none_itself same = one_more (λ name is. nothing_more top name (sym same ∙ is))

  module _ (front : List ℕ) (far : GoesFurther top key.0 front) (point : ℕ) (behind : IsBehind keys front point) where
    up_to : ends_up_to front key.0 ≡ true
    up_to =
        ap (λ (t : List ℕ). ends_up_to front t) far.0.1
        ∙ ap (λ b. not b) (up_to_own front far.0.0)

    pub goes_on : at < point
    goes_on =
        elim (cases_lt at point) [
          | inl low ↦ low
          | inr high ↦ absurd (let bad : true ≡ false = sym up_to ∙ behind.behind at key high there in cc)
        ]

    pub none_further : NoneBelow keys top from point
    none_further n k name first less is_there is =
        elim (cases_lt n at) [
          | inl before ↦ none n k name first before is_there is
          | inr later ↦
              let begins = front_between front far.0.0 k.0
              (ap (λ (t : List ℕ). is_lt (slice_cmp nat_cmp k.0 t)) (sym far.0.1) ∙ rise at n key k later there is_there)
              (not-true (is_lt (slice_cmp nat_cmp front (take (length front) k.0))) (behind.before n k less is_there)) in
              far.1 (drop (length front) k.0) name (sym begins ∙ is)
        ]
