-- The names by which something can exist in a directory at some time: the names of what is made there, and the names
-- that each change leaves that shapes the path.
use Rattle.std.proofs.Common.{◌≡◌, ℕ, zero, suc, ◌<◌, ◌≤◌, Bool, true, false, ◌||◌, cond, List, length, Bor, Option, Some, None, refl, sym, ap, ◌∙◌, subst, arith, inl, inr}
use Rattle.std.specs.Prelude.{slice_get}
use Rattle.std.specs.List.{dedup}
use Rattle.std.specs.List.Sorted.{IsPermutation, IsSorted, IsStrictlySortedBy}
use Rattle.std.specs.Cmp.Lexicographic.{slice_cmp, on_texts, texts_ties}
use Rattle.std.specs.Ordering.{nat_cmp}
use Rattle.std.proofs.lemmas.Bool.{cases_lt, or_cases, or_left, or_right}
use Rattle.std.proofs.lemmas.List.Kept.{IsStrictlySortedBy-dedup}
use Rattle.dump_trees.specs.Paths.{names_of}
use Rattle.dump_trees.specs.steps.Listing.{names_made, names_behind, names_look}
use Rattle.dump_trees.proofs.expansions.BackLemmas.{LooksBack}
use Rattle.dump_index.specs.steps.Listed.{Listed, all_placed}
use Rattle.dump_index.specs.steps.InOrder.{ends_in_slash}
use Rattle.dump_index.specs.steps.Children.{is_child_named}
use Rattle.dump_index.specs.steps.Names.{texts_of}
use Rattle.dump_index.specs.steps.NamesEver.{CanStandOnce, AreNamesEver}
use Rattle.dump_index.specs.steps.Keys.{latest_place}
use Rattle.dump_index.specs.steps.Touching.{shapes}
use Rattle.dump_index.proofs.PlaceLemmas.{latest_low, latest_holds}
use Rattle.dump_index.proofs.NameLemmas.{made_some, made_at}
use Rattle.dump_index.proofs.LookNames.{shaped_names}
use Rattle.dump_index.proofs.ChildLemmas.{same_texts, moved_named, dedup_named, strict_texts}

-- if no place passes the test, there is no latest one
pub latest_all : (test : ℕ → Bool) (count k : ℕ) → latest_place test count ≡ None → k < count → test k ≡ false
latest_all test zero k none low = absurd (omega arith)
latest_all test (suc count) k none low = cases (latest_all test count k) (test count) refl none
  where
    cases : (latest_place test count ≡ None → k < count → test k ≡ false) → (b : Bool) → test count ≡ b
        → cond b (Some count) (latest_place test count) ≡ None → test k ≡ false
    cases further true is none = absurd (let bad : Some count ≡ None = none in cc)
    cases further false is none =
        elim (cases_lt k count) [
          | inl less ↦ further none less
          | inr more ↦ let same : k ≡ count = omega arith in ap test same ∙ is
        ]

-- no place after the latest one passes the test
pub latest_behind : (test : ℕ → Bool) (count place k : ℕ) → latest_place test count ≡ Some place → place < k → k < count
    → test k ≡ false
latest_behind test zero place k is above low = absurd (omega arith)
latest_behind test (suc count) place k is above low = cases (latest_behind test count place k) (test count) refl is
  where
    cases : (latest_place test count ≡ Some place → place < k → k < count → test k ≡ false) → (b : Bool) → test count ≡ b
        → cond b (Some count) (latest_place test count) ≡ Some place → test k ≡ false
    cases further true holds here =
        let same : count ≡ place = (let both : Some count ≡ Some place = here in cc) in absurd (omega arith)
    cases further false isnt there =
        elim (cases_lt k count) [
          | inl less ↦ further there above less
          | inr more ↦ let same : k ≡ count = omega arith in ap test same ∙ isnt
        ]

module _ (listed : List Listed) (path : List ℕ) where
  -- the names that the change at this place leaves
  abbrev pub left_by : Option ℕ → List ℕ → Bool
  left_by place name = is_child_named (names_behind (names_look (all_placed listed)) (all_placed listed) (names_of path) place) name

  abbrev pub is_made : ℕ → List ℕ → Bool
  is_made count name = is_child_named (names_made (all_placed listed) count (names_of path)) name

-- the names found so far: of all that is made, and of what the changes from this one on leave
pub record IsFoundFrom (listed : List Listed) (path : List ℕ) (names : List (Bor (List ℕ))) (before : ℕ) : Type 0 where
  pub low : before ≤ length listed
  pub each : (name : List ℕ) → is_child_named (texts_of names) name ≡ true → CanStandOnce listed (names_of path) name
  pub made : (name : List ℕ) → is_made listed path (length listed) name ≡ true → is_child_named (texts_of names) name ≡ true
  pub left : (place : ℕ) (name : List ℕ) → before ≤ place → place < length listed → shapes listed path place ≡ true
      → left_by listed path (Some place) name ≡ true → is_child_named (texts_of names) name ≡ true

module _ (listed : List Listed) (back : LooksBack (all_placed listed))
    (bare : (place : ℕ) (l : Listed) → slice_get listed place ≡ Some l → ends_in_slash l.path ≡ false) (path : List ℕ) where
  once_made : (name : List ℕ) → is_made listed path (length listed) name ≡ true → CanStandOnce listed (names_of path) name
  once_made name is = (
    length listed,
    omega arith,
    shaped_names listed back path name (length listed) ∙ or_left (is_made listed path (length listed) name) _ is,
  )

  once_left : (place : ℕ) (name : List ℕ) → place < length listed → shapes listed path place ≡ true
      → left_by listed path (Some place) name ≡ true → CanStandOnce listed (names_of path) name
  once_left place name low shaped is = (
    suc place,
    omega arith,
    shaped_names listed back path name (suc place)
        ∙ or_right (is_made listed path (suc place) name) (left_by listed path (latest_place (shapes listed path) (suc place)) name)
        (ap (λ b. left_by listed path (cond b (Some place) (latest_place (shapes listed path) place)) name) shaped ∙ is),
  )

  pub found_first : (names : List (Bor (List ℕ)))
      → ((name : List ℕ) → is_child_named (texts_of names) name ≡ (false || is_made listed path (length listed) name))
      → IsFoundFrom listed path names (length listed)
  found_first names named = record {
    low = omega arith;
    each = λ name is. once_made name (sym (named name) ∙ is);
    made = λ name is. named name ∙ is;
    left = λ place name high less. absurd (omega arith);
  }

  -- the names with those of the latest change before
  pub found_more : (names more : List (Bor (List ℕ))) (before place : ℕ) → IsFoundFrom listed path names before
      → latest_place (shapes listed path) before ≡ Some place
      → ((name : List ℕ) → is_child_named (texts_of more) name ≡ (is_child_named (texts_of names) name || left_by listed path (Some place) name))
      → IsFoundFrom listed path more place
  found_more names more before place found last named =
      let early = latest_low (shapes listed path) before place last in
      let shaped = latest_holds (shapes listed path) before place last in
      let less = found.low in
      record {
        low = omega arith;
        each = λ name is.
            elim (or_cases (is_child_named (texts_of names) name) (left_by listed path (Some place) name) (sym (named name) ∙ is)) [
              | inl old ↦ found.each name old
              | inr new ↦ once_left place name (omega arith) shaped new
            ];
        made = λ name is. named name ∙ or_left (is_child_named (texts_of names) name) (left_by listed path (Some place) name) (found.made name is);
        left = λ k name high low shapes_too is.
            named name
            ∙ (elim (cases_lt k before) [
              | inl under ↦
                  elim (cases_lt place k) [
                    | inl behind ↦
                        absurd (let bad : false ≡ true
                        = sym (latest_behind (shapes listed path) before place k last behind under) ∙ shapes_too in cc)
                    | inr upto ↦
                        let same : k ≡ place = omega arith in
                        or_right (is_child_named (texts_of names) name) (left_by listed path (Some place) name)
                        (ap (λ n. left_by listed path (Some n) name) (sym same) ∙ is)
                  ]
              | inr over ↦
                  or_left (is_child_named (texts_of names) name) (left_by listed path (Some place) name)
                  (found.left k name over low shapes_too is)
            ]);
      }

  -- all names
  pub ever_found : (names sorted once : List (Bor (List ℕ))) (before : ℕ) → IsFoundFrom listed path names before
      → latest_place (shapes listed path) before ≡ None → IsPermutation names sorted
      → IsSorted (λ one two. slice_cmp nat_cmp one.now two.now) sorted → once ≡ dedup same_texts sorted
      → AreNamesEver listed (names_of path) (texts_of once)
  ever_found names sorted once before found none others up once_is = record {
    ordered =
        strict_texts once (subst
        (λ (ns : List (Bor (List ℕ))). IsStrictlySortedBy (λ one two. slice_cmp nat_cmp one.now two.now) ns) (sym once_is)
        (IsStrictlySortedBy-dedup (on_texts (λ (text : Bor (List ℕ)). text.now)) (λ one two. texts_ties one.now two.now) sorted up));
    each = λ name is. found.each name (same name ∙ is);
    all = λ name can. sym (same name) ∙ by_count name can.0 can.1 (sym (shaped_names listed back path name can.0) ∙ can.2);
  }
    where
      same : (name : List ℕ) → is_child_named (texts_of names) name ≡ is_child_named (texts_of once) name
      same name =
          moved_named names sorted others name ∙ sym (dedup_named sorted name)
          ∙ sym (ap (λ (ns : List (Bor (List ℕ))). is_child_named (texts_of ns) name) once_is)

      by_place : (name : List ℕ) (count : ℕ) → count ≤ length listed → (o : Option ℕ)
          → latest_place (shapes listed path) count ≡ o → left_by listed path o name ≡ true → is_child_named (texts_of names) name ≡ true
      by_place name count low None is left = let bad : false ≡ true = left in absurd (cc)
      by_place name count low (Some place) is left =
          let early = latest_low (shapes listed path) count place is in
          let shaped = latest_holds (shapes listed path) count place is in
          elim (cases_lt place before) [
            | inl under ↦
                absurd (let bad : false ≡ true = sym (latest_all (shapes listed path) before place none under) ∙ shaped in cc)
            | inr over ↦ found.left place name over (omega arith) shaped left
          ]

      by_count : (name : List ℕ) (count : ℕ) → count ≤ length listed
          → (is_made listed path count name || left_by listed path (latest_place (shapes listed path) count) name) ≡ true
          → is_child_named (texts_of names) name ≡ true
      by_count name count low is =
          elim (or_cases (is_made listed path count name) (left_by listed path (latest_place (shapes listed path) count) name) is) [
            | inl made ↦
                let some = made_some listed bare path name count made in
                let early = some.1 in
                found.made name (made_at listed bare path name (length listed) some.0 (omega arith) some.2)
            | inr left ↦ by_place name count low (latest_place (shapes listed path) count) refl left
          ]
