-- The bare prefixes that begin a path: one of its parts before a slash, itself, or the empty one.
use Rattle.dump_rules.proofs.Prelude.{◌≡◌, ℕ, zero, suc, ◌+◌, ◌<◌, ◌≤◌, Bool, true, false, ◌||◌, List, [], ◌∷◌, ◌++◌, take, drop, length, get_or, map, nat_lt, bytes_eq, Result, Ok, Err, refl, sym, ap, ◌∙◌, inl, inr, arith, list_any, slice_cmp, is_eq, nat_cmp, Ordering, Less, Equal, Greater, or_cases, or_parts, or_from, cases_lt, or_left, or_right, and_parts, and_from, false_from_ne_true, both_ways, ltb-true, lt-ltb, nat_tests, length-take-le, take_more, map-append, is_eq-slice_cmp, bytes_eq-Decides, bare_prefix, begins_path, bare_at, AreWithin, IsIndexed, has_slash_first}
use Rattle.std.proofs.lemmas.List.Sorted.{searchable_from_sorted}
use Rattle.std.proofs.lemmas.List.Folds.{list_any-append, list_any_at, list_any_none}
use Rattle.std.specs.Cmp.Lexicographic.{nat_list_cmp_total}
use Rattle.std.specs.Ordering.{ordering_reverse}
use Rattle.std.specs.Result.{is_ok}
use Rattle.std.specs.List.Sorted.{IsBinarySearchResult, IsSearchInRange}
use Rattle.dump_rules.proofs.PrefixLemmas.{slash_behind}

-- a slash at a place of a path

slash_at : (n : ℕ) (path : List ℕ) → has_slash_first (drop n path) ≡ true → (n < length path) × (get_or path n 0 ≡ 47)
slash_at zero (b ∷ path) some = grind (arith, nat_tests)
slash_at (suc n) (b ∷ path) some = let behind = slash_at n path some in (omega arith, behind.1)
slash_at n path some = let bad : false ≡ true = some in cc

slash_first : (n : ℕ) (path : List ℕ) → n < length path → get_or path n 0 ≡ 47 → has_slash_first (drop n path) ≡ true
slash_first zero (b ∷ path) low is = grind (arith, nat_tests)
slash_first (suc n) (b ∷ path) low is = slash_first n path (omega arith) is
slash_first n path low is = absurd (omega arith)

-- one prefix

begins_all : (path prefix : List ℕ) → bytes_eq [] prefix ≡ true → begins_path prefix path ≡ true
begins_all path [] is = refl
begins_all path (b ∷ prefix) is = let bad : false ≡ true = is in cc

begins_whole : (path prefix : List ℕ) → bytes_eq path prefix ≡ true → begins_path prefix path ≡ true
begins_whole path [] is = refl
begins_whole path (b ∷ prefix) is = or_left _ _ is

begins_cut : (path : List ℕ) (n : ℕ) → n < length path → get_or path n 0 ≡ 47
    → (prefix : List ℕ) → bytes_eq (take n path) prefix ≡ true → begins_path prefix path ≡ true
begins_cut path n low slash [] is = refl
begins_cut path n low slash (b ∷ prefix) is =
    let same : take n path ≡ b ∷ prefix = (bytes_eq-Decides (take n path) (b ∷ prefix)).0 is in
    let size : length (b ∷ prefix) ≡ n = ap length (sym same) ∙ length-take-le n path (omega arith) in
    or_right _ _ (slash_behind (b ∷ prefix) path
    ∙ and_from _ _ (ap (λ m. bytes_eq (take m path) (b ∷ prefix)) size ∙ is)
    (ap (λ m. has_slash_first (drop m path)) size ∙ slash_first n path low slash))

begins_none : (path prefix : List ℕ) (near : ℕ) → bytes_eq [] prefix ≡ false → bytes_eq path prefix ≡ false
    → (length prefix < length path → length prefix < near)
    → ((k : ℕ) → k < near → get_or path k 0 ≡ 47 → bytes_eq (take k path) prefix ≡ false)
    → begins_path prefix path ≡ false
begins_none path [] near some other reach clear = let bad : true ≡ false = some in cc
begins_none path (b ∷ prefix) near some other reach clear =
    or_from _ _ other (false_from_ne_true _ (λ begun.
    let parts = and_parts _ _ (sym (slash_behind (b ∷ prefix) path) ∙ begun) in
    let slash = slash_at (length (b ∷ prefix)) path parts.1 in
    both_ways _ (clear (length (b ∷ prefix)) (reach slash.0) slash.1) parts.0))

-- many prefixes

any_keeps : (f g : List ℕ → Bool) → ((x : List ℕ) → f x ≡ true → g x ≡ true)
    → (xs : List (List ℕ)) → list_any f xs ≡ true → list_any g xs ≡ true
any_keeps f g each [] some = some
any_keeps f g each (x ∷ xs) some =
    elim (or_cases _ _ some) [
      | inl here ↦ or_left _ _ (each x here)
      | inr there ↦ or_right _ _
          (any_keeps f g each xs there)
    ]

-- the empty prefix begins each path
pub empty_begins : (path : List ℕ) (prefixes : List (List ℕ)) → list_any (λ prefix. bytes_eq [] prefix) prefixes ≡ true
    → list_any (λ prefix. begins_path prefix path) prefixes ≡ true
empty_begins path = any_keeps _ _ (begins_all path)

-- a prefix that is the path begins it
pub whole_begins : (path : List ℕ) (prefixes : List (List ℕ))
    → list_any (λ prefix. bytes_eq path prefix) prefixes ≡ true
    → list_any (λ prefix. begins_path prefix path) prefixes ≡ true
whole_begins path = any_keeps _ _ (begins_whole path)

-- a prefix that is the part of the path before one of its slashes begins it
pub cut_begins : (path : List ℕ) (n : ℕ) → n < length path → get_or path n 0 ≡ 47
    → (prefixes : List (List ℕ)) → list_any (λ prefix. bytes_eq (take n path) prefix) prefixes ≡ true
    → list_any (λ prefix. begins_path prefix path) prefixes ≡ true
cut_begins path n low slash = any_keeps _ _ (begins_cut path n low slash)

-- if no prefix is empty, the path, or the part of it before one of its slashes, no prefix begins the path
pub none_begins : (path : List ℕ) (near longest : ℕ) → ((n : ℕ) → n ≤ longest → n < length path → n < near)
    → (prefixes : List (List ℕ)) → AreWithin longest prefixes
    → list_any (λ prefix. bytes_eq [] prefix) prefixes ≡ false
    → list_any (λ prefix. bytes_eq path prefix) prefixes ≡ false
    → ((k : ℕ) → k < near → get_or path k 0 ≡ 47 → list_any (λ prefix. bytes_eq (take k path) prefix) prefixes ≡ false)
    → list_any (λ prefix. begins_path prefix path) prefixes ≡ false
none_begins path near longest reach [] within some other clear = refl
none_begins path near longest reach (prefix ∷ prefixes) within some other clear =
    let not_longer : nat_lt longest (length prefix) ≡ false = (or_parts _ _ within).0 in
    let short : length prefix ≤ longest = grind (arith, nat_tests) in
    or_from _ _
    (begins_none path prefix near (or_parts _ _ some).0 (or_parts _ _ other).0 (reach (length prefix) short)
    (λ k low slash. (or_parts _ _ (clear k low slash)).0))
    (none_begins path near longest reach prefixes (or_parts _ _ within).1 (or_parts _ _ some).1 (or_parts _ _ other).1
    (λ k low slash. (or_parts _ _ (clear k low slash)).1))

-- one more prefix

-- whether some of the first bare prefixes passes a test, if there is one more
bare_more : (prefixes : List (List ℕ)) (place : ℕ) → place < length prefixes → (test : List ℕ → Bool)
    → list_any test (map bare_prefix (take (place + 1) prefixes))
    ≡ (list_any test (map bare_prefix (take place prefixes)) || (test (bare_at prefixes place) || false))
bare_more prefixes place low test = rw (take_more prefixes place [] low)
    (ap (list_any test) (map-append bare_prefix (take place prefixes) (get_or prefixes place [] ∷ []))
    ∙ list_any-append test (map bare_prefix (take place prefixes)) (bare_at prefixes place ∷ []))

-- an index of the first prefixes, and the next place
pub place_more : (prefixes : List (List ℕ)) (index : List ℕ) (place : ℕ) → place < length prefixes
    → ((test : List ℕ → Bool) → list_any (λ n. test (bare_at prefixes n)) index
    ≡ list_any test (map bare_prefix (take place prefixes))) → (test : List ℕ → Bool)
    → list_any (λ n. test (bare_at prefixes n)) (index ++ place ∷ [])
    ≡ list_any test (map bare_prefix (take (place + 1) prefixes))
place_more prefixes index place low all test =
    list_any-append (λ n. test (bare_at prefixes n)) index (place ∷ [])
    ∙ ap (λ b. b || (test (bare_at prefixes place) || false)) (all test) ∙ sym (bare_more prefixes place low test)

-- texts that aren't longer than a length aren't longer than a greater one
pub within_wider : (low high : ℕ) → low ≤ high → (texts : List (List ℕ)) → AreWithin low texts → AreWithin high texts
within_wider low high up texts within = false_from_ne_true _ (λ some. both_ways _ within
    (any_keeps _ _ (λ text long. lt-ltb _ _ (further text (ltb-true _ _ long))) texts some))
  where
    further : (text : List ℕ) → high < length text → low < length text
    further text long = omega arith

-- the first bare prefixes and the next one aren't longer than a length that is no less than theirs
pub within_more : (prefixes : List (List ℕ)) (place low high : ℕ) → place < length prefixes → low ≤ high
    → length (bare_at prefixes place) ≤ high → AreWithin low (map bare_prefix (take place prefixes))
    → AreWithin high (map bare_prefix (take (place + 1) prefixes))
within_more prefixes place low high inside up fits within =
    bare_more prefixes place inside (λ text. nat_lt high (length text))
    ∙ or_from _ _ (within_wider low high up _ within) (or_from _ _ (grind (arith, nat_tests)) refl)

-- a search

same_by_order : (text prefix : List ℕ) (r : Ordering) → slice_cmp nat_cmp prefix text ≡ r
    → bytes_eq text prefix ≡ is_eq r
same_by_order text prefix r is =
    sym (is_eq-slice_cmp text prefix) ∙ ap is_eq (nat_list_cmp_total.antisymm text prefix)
    ∙ ap (λ o. is_eq (ordering_reverse o)) is ∙ turned r
  where
    turned : (r : Ordering) → is_eq (ordering_reverse r) ≡ is_eq r
    turned Less = refl
    turned Equal = refl
    turned Greater = refl

-- a binary search of the index finds a text where it is a bare prefix
pub search_finds : (prefixes : List (List ℕ)) (index : List ℕ) (longest : ℕ) (text : List ℕ) (r : Result ℕ ℕ)
    → IsIndexed prefixes index longest → IsSearchInRange r (length index)
    → IsBinarySearchResult (λ place. slice_cmp nat_cmp (bare_at prefixes place) text) index r
    → is_ok r ≡ list_any (λ prefix. bytes_eq text prefix) (map bare_prefix prefixes)
search_finds prefixes index longest text (Ok i) indexed inside at =
    sym (list_any_at (λ place. bytes_eq text (bare_at prefixes place)) index i 0 inside
    (same_by_order text _ Equal (at 0)))
    ∙ indexed.all (bytes_eq text)
search_finds prefixes index longest text (Err i) indexed inside at =
    let parted = at (searchable_from_sorted nat_list_cmp_total (bare_at prefixes) index text indexed.ascends) in
    sym (list_any_none (λ place. bytes_eq text (bare_at prefixes place)) index (λ k d within.
    elim (cases_lt k i) [
      | inl low ↦ same_by_order text _ Less (parted.0 k d (omega arith) low)
      | inr high ↦ same_by_order text _ Greater (parted.1 k d high within)
    ]))
    ∙ indexed.all (bytes_eq text)
