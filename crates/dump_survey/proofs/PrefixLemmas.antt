-- Bare prefixes below paths, in the form of texts.
use Rattle.dump_survey.proofs.Prelude.{◌≡◌, ℕ, ◌+◌, Bool, true, false, not, ◌&&◌, ◌||◌, ◌==◌, List, [], ◌∷◌, ◌++◌, length, drop, map, nat_eq, if◌then◌else◌, Option, Some, None, MatchOption, Bor, option_copied, is_some, bytes_eq, refl, sym, ap, ◌∙◌, arith, append_assoc, append-nil, get_or, map-append, drop_more, drop_all, slice_get_within, get_or_from_slice_get, slice_get-get_or, none-some, or_from, or_right, starts_with, list_any, list_all, bare_path, bare_prefix, begins_path, Include, Settings, is_above_some, path_of, path_text, names_of, split_text, behind_slash, is_below, IsRestBelow}
use Rattle.std.proofs.Common.{nat_lt}
use borrow.Author.Tests.{ltb-true, ltb-false}
use Rattle.std.specs.List.{slice_get}
use Rattle.dump_trees.proofs.paths.KeptPaths.{eq_sym}

-- if nothing follows a front and a slash, the text doesn't begin with these
none_behind : (front text : List ℕ) → behind_slash front text ≡ None → starts_with nat_eq text (front ++ 47 ∷ []) ≡ false
none_behind [] [] none = refl
none_behind [] (c ∷ text) none = ap (λ t. t && true) (eq_sym 47 c) ∙ cases (c == 47) none
  where
    cases : (t : Bool) → (if t then Some text else None) ≡ None → (t && true) ≡ false
    cases true bad = cc
    cases false none = refl
none_behind (b ∷ front) [] none = refl
none_behind (b ∷ front) (c ∷ text) none = cases (none_behind front text) (b == c) none
  where
    cases : (behind_slash front text ≡ None → starts_with nat_eq text (front ++ 47 ∷ []) ≡ false) → (t : Bool) → (if t then behind_slash front text else None) ≡ None
        → (t && starts_with nat_eq text (front ++ 47 ∷ [])) ≡ false
    cases more true none = more none
    cases more false none = refl

-- what follows the front and a slash
found_behind : (front text rest : List ℕ) → behind_slash front text ≡ Some rest
    → (starts_with nat_eq text (front ++ 47 ∷ []) ≡ true) × (drop (length front) text ≡ 47 ∷ rest)
found_behind [] [] rest is = absurd (let bad : None ≡ Some rest = is in cc)
found_behind [] (c ∷ text) rest is = cases (c == 47) refl is
  where
    cases : (t : Bool) → (c == 47) ≡ t → (if t then Some text else None) ≡ Some rest
        → ((nat_eq 47 c && true) ≡ true) × (c ∷ text ≡ 47 ∷ rest)
    cases true slash is =
        let c_is : c ≡ 47 = grind arith in
        let rest_is : text ≡ rest = cc in
        (ap (λ t. t && true) (eq_sym 47 c ∙ slash), cc)
    cases false other is = absurd (let bad : None ≡ Some rest = is in cc)
found_behind (b ∷ front) [] rest is = absurd (let bad : None ≡ Some rest = is in cc)
found_behind (b ∷ front) (c ∷ text) rest is = cases (found_behind front text rest) (b == c) is
  where
    cases : (behind_slash front text ≡ Some rest → (starts_with nat_eq text (front ++ 47 ∷ []) ≡ true)
        × (drop (length front) text ≡ 47 ∷ rest)) → (t : Bool) → (if t then behind_slash front text else None) ≡ Some rest
        → ((t && starts_with nat_eq text (front ++ 47 ∷ [])) ≡ true) × (drop (length front) text ≡ 47 ∷ rest)
    cases more true is = more is
    cases more false is = absurd (let bad : None ≡ Some rest = is in cc)

-- so a prefix that isn't empty begins a text that differs from the prefix
pub begins_behind : (bare text : List ℕ) (found : Option (Bor (List ℕ))) → (length bare == 0) ≡ false
    → bytes_eq text bare ≡ false → option_copied found ≡ behind_slash bare text → is_some found ≡ begins_path bare text
begins_behind [] text found there other reported = absurd (let bad : true ≡ false = there in cc)
begins_behind (b ∷ bare) text None there other reported =
    sym (or_from _ _ other (none_behind (b ∷ bare) text (sym reported)))
begins_behind (b ∷ bare) text (Some rest) there other reported =
    sym (or_right (bytes_eq text (b ∷ bare)) _ (found_behind (b ∷ bare) text rest.now (sym reported)).0)

-- the text of a path that isn't the root is a slash and the bare path
pub whole_text : (path : List ℕ) (b : ℕ) (text : List ℕ) → bare_path path ≡ b ∷ text
    → path_text (path_of path) ≡ 47 ∷ b ∷ text
whole_text path b text is = ap (λ t. path_text (names_of t)) is ∙ split_text (b ∷ text)

-- what is found below another path is exactly the rest
pub below_path : (path bare : List ℕ) (b : ℕ) (text : List ℕ) (found : Option (Bor (List ℕ)))
    → bare_path path ≡ b ∷ text → option_copied found ≡ behind_slash (b ∷ text) bare
    → MatchOption found (is_below path bare ≡ false) (λ rest. IsRestBelow path bare rest.now)
below_path path bare b text None is reported =
    ap (λ t. starts_with nat_eq (47 ∷ bare) (t ++ 47 ∷ [])) (whole_text path b text is)
    ∙ none_behind (b ∷ text) bare (sym reported)
below_path path bare b text (Some rest) is reported =
    let both = found_behind (b ∷ text) bare rest.now (sym reported) in record {
      below = ap (λ t. starts_with nat_eq (47 ∷ bare) (t ++ 47 ∷ [])) (whole_text path b text is) ∙ both.0;
      rest_is = ap (λ (t : List ℕ). drop (length t) (47 ∷ bare)) (whole_text path b text is) ∙ both.1;
    }

pub below_else : (path bare top : List ℕ) (found : Option (Bor (List ℕ))) → top ≡ bare_path path
    → (length top == 0) ≡ false → option_copied found ≡ behind_slash top bare
    → MatchOption found (is_below path bare ≡ false) (λ rest. IsRestBelow path bare rest.now)
below_else path bare [] found is there reported = absurd (let bad : true ≡ false = there in cc)
below_else path bare (b ∷ text) found is there reported = below_path path bare b text found (sym is) reported

-- the text to which the text of a path was added
pub text_put : (path top old : List ℕ) → top ≡ bare_path path → (length top == 0) ≡ false
    → (old ++ 47 ∷ []) ++ top ≡ old ++ path_text (path_of path)
text_put path [] old is there = absurd (let bad : true ≡ false = there in cc)
text_put path (b ∷ text) old is there =
    append_assoc old (47 ∷ []) (b ∷ text) ∙ ap (λ t. old ++ t) (sym (whole_text path b text (sym is)))

-- a test of the texts that a list borrows
any_lent : (test : List ℕ → Bool) (items : List (Bor (List ℕ)))
    → list_any (λ item. test item.now) items ≡ list_any test (map (λ item. item.now) items)
any_lent test [] = refl
any_lent test (item ∷ items) = ap (λ b. test item.now || b) (any_lent test items)

any_bare : (test : List ℕ → Bool) (prefixes : List (List ℕ))
    → list_any test (map bare_prefix prefixes) ≡ list_any (λ prefix. test (bare_prefix prefix)) prefixes
any_bare test [] = refl
any_bare test (prefix ∷ prefixes) = ap (λ b. test (bare_prefix prefix) || b) (any_bare test prefixes)

some_bare : (test : List ℕ → Bool) (items : List (Bor (List ℕ))) (prefixes : List (List ℕ))
    → map (λ item. item.now) items ≡ map bare_prefix prefixes
    → list_any (λ item. test item.now) items ≡ list_any (λ prefix. test (bare_prefix prefix)) prefixes
some_bare test items prefixes same = any_lent test items ∙ (ap (list_any test) same ∙ any_bare test prefixes)

pub not_all : (test : List ℕ → Bool) (xs : List (List ℕ))
    → list_any test xs ≡ not (list_all (λ x. not (test x)) xs)
not_all test [] = refl
not_all test (x ∷ xs) = cases (not_all test xs) (test x)
  where
    cases : list_any test xs ≡ not (list_all (λ x. not (test x)) xs) → (b : Bool) → (b || list_any test xs) ≡ not (not b && list_all (λ x. not (test x)) xs)
    cases more true = refl
    cases more false = more

-- one of the options' prefixes is below a path
pub some_above : (settings : Settings) (path : List ℕ) (items : List (Bor (List ℕ)))
    → map (λ item. item.now) items ≡ map bare_prefix settings.prefixes → settings.side ≡ Include
    → list_any (λ item. is_below path item.now) items ≡ is_above_some settings.side settings.prefixes (path_of path)
some_above settings path items same included =
    some_bare (is_below path) items settings.prefixes same
    ∙ ap (λ side. is_above_some side settings.prefixes (path_of path)) (sym included)

-- the prefix at this index, and the case that there is none
pub next_prefix : (all : List (List ℕ)) (n : ℕ) (prefix : List ℕ) → slice_get all n ≡ Some prefix
    → drop n all ≡ prefix ∷ drop (n + 1) all
next_prefix all n prefix at = drop_more all n [] (slice_get_within all n prefix at)
    ∙ ap (λ p. p ∷ drop (n + 1) all) (get_or_from_slice_get all n prefix [] at)

no_prefix : (all : List (List ℕ)) (n : ℕ) → slice_get all n ≡ None → drop n all ≡ []
no_prefix all n past = by_case (nat_lt n (length all)) refl
  where
    by_case : (b : Bool) → nat_lt n (length all) ≡ b → drop n all ≡ []
    by_case true low =
        let within = ltb-true n (length all) low in
        absurd (none-some (get_or all n []) (sym past ∙ slice_get-get_or all n [] within))
    by_case false high =
        let over = ltb-false n (length all) high in
        drop_all n all (omega arith)

-- one more prefix
pub bare_more : (all : List (List ℕ)) (items : List (Bor (List ℕ))) (n : ℕ) (prefix : List ℕ) (item : Bor (List ℕ))
    → slice_get all n ≡ Some prefix → item.now ≡ bare_prefix prefix
    → map bare_prefix all ≡ map (λ item. item.now) items ++ map bare_prefix (drop n all)
    → map bare_prefix all ≡ map (λ item. item.now) (items ++ item ∷ []) ++ map bare_prefix (drop (n + 1) all)
bare_more all items n prefix item at same is =
    let next = next_prefix all n prefix at in
    let more = map bare_prefix (drop (n + 1) all) in
    let old = map (λ (item : Bor (List ℕ)). item.now) items in
    is ∙ (ap (λ l. old ++ map bare_prefix l) next
    ∙ (ap (λ p. old ++ (p ∷ more)) (sym same)
    ∙ (sym (append_assoc old (item.now ∷ []) more)
    ∙ ap (λ l. l ++ more) (sym (map-append (λ (item : Bor (List ℕ)). item.now) items (item ∷ []))))))

-- no more prefixes
pub bare_all : (all : List (List ℕ)) (items : List (Bor (List ℕ))) (n : ℕ) → slice_get all n ≡ None
    → map bare_prefix all ≡ map (λ item. item.now) items ++ map bare_prefix (drop n all)
    → map (λ item. item.now) items ≡ map bare_prefix all
bare_all all items n past is =
    sym (is ∙ (ap (λ l. map (λ (item : Bor (List ℕ)). item.now) items ++ map bare_prefix l) (no_prefix all n past)
    ∙ append-nil (map (λ (item : Bor (List ℕ)). item.now) items)))

-- the same for the prefixes as the caller gave them
pub given_more : (all : List (List ℕ)) (items : List (Bor (List ℕ))) (n : ℕ) (item : Bor (List ℕ))
    → slice_get all n ≡ Some item.now → all ≡ map (λ item. item.now) items ++ drop n all
    → all ≡ map (λ item. item.now) (items ++ item ∷ []) ++ drop (n + 1) all
given_more all items n item at is =
    let old = map (λ (item : Bor (List ℕ)). item.now) items in
    is ∙ (ap (λ l. old ++ l) (next_prefix all n item.now at)
    ∙ (sym (append_assoc old (item.now ∷ []) (drop (n + 1) all))
    ∙ ap (λ l. l ++ drop (n + 1) all) (sym (map-append (λ (item : Bor (List ℕ)). item.now) items (item ∷ [])))))

pub given_all : (all : List (List ℕ)) (items : List (Bor (List ℕ))) (n : ℕ) → slice_get all n ≡ None
    → all ≡ map (λ item. item.now) items ++ drop n all → map (λ item. item.now) items ≡ all
given_all all items n past is =
    let old = map (λ (item : Bor (List ℕ)). item.now) items in
    sym (is ∙ (ap (λ l. old ++ l) (no_prefix all n past) ∙ append-nil old))
