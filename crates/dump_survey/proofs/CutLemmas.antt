-- The first prefix that cuts.
use Rattle.dump_survey.proofs.Prelude.{◌≡◌, ◌<◌, ◌≤◌, ℕ, suc, ◌+◌, Bool, true, false, not, ◌||◌, List, [], ◌∷◌, length, get_or, drop, map, filter, cond, Option, Some, None, is_some, Bor, option_copied, refl, sym, ap, ◌∙◌, arith, Result, Ok, Err, list_any, drop_all, Side, Include, Exclude, bare_prefix, Settings, path_of, cuts_alike, cuts, first_cut, cuts_below, some_copied}
use Rattle.std.proofs.Common.{zero, slice_get}
use Rattle.std.specs.Result.{IfOk}
use Rattle.dump_survey.proofs.PrefixLemmas.{next_prefix, not_all}

-- the first of the texts that passes the test
abbrev first_passing : (List ℕ → Bool) → List (List ℕ) → Option (List ℕ)
first_passing test texts = slice_get (filter test texts) 0

passes_first : (test : List ℕ → Bool) (x : List ℕ) (xs : List (List ℕ)) → test x ≡ true
    → first_passing test (x ∷ xs) ≡ Some x
passes_first test x xs is = ap (λ b. slice_get (cond b (x ∷ filter test xs) (filter test xs)) 0) is

fails_first : (test : List ℕ → Bool) (x : List ℕ) (xs : List (List ℕ)) → test x ≡ false
    → first_passing test (x ∷ xs) ≡ first_passing test xs
fails_first test x xs is = ap (λ b. slice_get (cond b (x ∷ filter test xs) (filter test xs)) 0) is

some_passes : (test : List ℕ → Bool) (xs : List (List ℕ)) → is_some (first_passing test xs) ≡ list_any test xs
some_passes test [] = refl
some_passes test (x ∷ xs) = by (test x) (some_passes test xs)
  where
    by : (b : Bool) → is_some (first_passing test xs) ≡ list_any test xs
        → is_some (slice_get (cond b (x ∷ filter test xs) (filter test xs)) 0) ≡ (b || list_any test xs)
    by true more = refl
    by false more = more

-- if a prefix cuts, there is a first one that does
pub cut_there : (settings : Settings) (path other : List ℕ)
    → is_some (first_cut settings.side settings path other) ≡ cuts settings path other
cut_there settings path other = by settings.side
  where
    test : List ℕ → Bool
    test prefix = cuts_below settings path other (bare_prefix prefix)

    by : (side : Side) → is_some (first_cut side settings path other)
        ≡ not (cuts_alike side settings (path_of path) (path_of other))
    by Include = refl
    by Exclude = some_passes test settings.prefixes ∙ not_all test settings.prefixes

-- so a prefix is reported exactly if one cuts
pub reported_cut : {E : Type 0} (settings : Settings) (path other : List ℕ) → settings.side ≡ Exclude
    → (result : Result (Option (Bor (List ℕ))) E)
    → IfOk result (λ found. option_copied found ≡ first_cut Exclude settings path other)
    → IfOk result (λ found. is_some found ≡ cuts settings path other)
reported_cut settings path other excluded (Ok found) is =
    some_copied found ∙ (ap is_some (is ∙ ap (λ side. first_cut side settings path other) (sym excluded))
    ∙ cut_there settings path other)
reported_cut settings path other excluded (Err e) is = tt

-- the prefix whose bare form is at this index
prefix_at : (all : List (List ℕ)) (items : List (Bor (List ℕ))) (n : ℕ) (d : Bor (List ℕ)) → n < length items
    → map (λ item. item.now) items ≡ map bare_prefix all
    → (prefix : List ℕ) × (slice_get all n ≡ Some prefix) × ((get_or items n d).now ≡ bare_prefix prefix)
prefix_at all [] n d low same = absurd (omega arith)
prefix_at [] (item ∷ items) n d low same = absurd (let bad : map (λ (i : Bor (List ℕ)). i.now) (item ∷ items) ≡ [] = same in cc)
prefix_at (prefix ∷ all) (item ∷ items) zero d low same = (prefix, refl, cc)
prefix_at (prefix ∷ all) (item ∷ items) (suc n) d low same = prefix_at all items n d (omega arith) cc

same_length : (all : List (List ℕ)) (items : List (Bor (List ℕ)))
    → map (λ item. item.now) items ≡ map bare_prefix all → length all ≡ length items
same_length [] [] same = refl
same_length [] (item ∷ items) same = absurd (let bad : map (λ (i : Bor (List ℕ)). i.now) (item ∷ items) ≡ [] = same in cc)
same_length (prefix ∷ all) [] same = absurd (let bad : [] ≡ map bare_prefix (prefix ∷ all) = same in cc)
same_length (prefix ∷ all) (item ∷ items) same = ap suc (same_length all items cc)

module _ (settings : Settings) (path other : List ℕ) where
  abbrev test : List ℕ → Bool
  test prefix = cuts_below settings path other (bare_prefix prefix)

  -- the first prefix that cuts, from this index on
  abbrev pub cut_from : ℕ → Option (List ℕ)
  cut_from n =
      slice_get (filter (λ prefix. cuts_below settings path other (bare_prefix prefix)) (drop n settings.prefixes)) 0

  module _ (items : List (Bor (List ℕ))) (n : ℕ) (same : map (λ item. item.now) items ≡ map bare_prefix settings.prefixes) where
    -- if the prefix at this index cuts, it is the first one
    pub place_cuts : (d : Bor (List ℕ)) → n < length items → cuts_below settings path other (get_or items n d).now ≡ true
        → cut_from n ≡ slice_get settings.prefixes n
    place_cuts d low is_cut =
        let (prefix, at, is) = prefix_at settings.prefixes items n d low same in
        ap (first_passing test) (next_prefix settings.prefixes n prefix at)
        ∙ (passes_first test prefix (drop (n + 1) settings.prefixes)
        (ap (cuts_below settings path other) (sym is) ∙ is_cut) ∙ sym at)

    -- if it doesn't, the first one comes after it
    pub place_is_passed : (d : Bor (List ℕ)) → n < length items
        → cuts_below settings path other (get_or items n d).now ≡ false → cut_from n ≡ cut_from (n + 1)
    place_is_passed d low is_cut =
        let (prefix, at, is) = prefix_at settings.prefixes items n d low same in
        ap (first_passing test) (next_prefix settings.prefixes n prefix at)
        ∙ fails_first test prefix (drop (n + 1) settings.prefixes)
        (ap (cuts_below settings path other) (sym is) ∙ is_cut)

    pub none_left : length items ≤ n → cut_from n ≡ None
    none_left over =
        let long = same_length settings.prefixes items same in
        ap (first_passing test) (drop_all n settings.prefixes (omega (arith, long, over)))
