-- The texts of paths below a path, among texts in the order of their bytes.
use Rattle.std.proofs.Common.{◌≡◌, ℕ, Bool, true, false, not, ◌&&◌, ◌==◌, ◌<◌, ◌≤◌, cond, take, get_or, List, [], ◌∷◌, ◌++◌, map, filter, length, Some, bytes_eq, nat_eq, refl, sym, ap, ap₂, ◌∙◌, arith}
use Rattle.std.proofs.lemmas.Bool.{and_parts, and_from, false_from_ne_true, eq-eqb, eqb-true}
use Rattle.std.proofs.lemmas.Slice.Eq.{bytes_eq-Decides}
use Rattle.std.specs.List.{list_all, list_any}
use Rattle.std.specs.Cmp.Lexicographic.{slice_cmp}
use Rattle.std.specs.Cmp.{both_ways}
use Rattle.std.specs.Ordering.{ordering_then, is_gt, is_le, nat_cmp}
use Rattle.std.specs.declared.cmp.Ordering.{Ordering}
use Rattle.dump_trees.specs.Paths.{names_of, below, path_text}
use Rattle.dump_trees.specs.steps.Returns.{rests_below, named_rest}
use Rattle.dump_trees.specs.Siblings.{has_node_names}
use Rattle.dump_index.specs.steps.InOrder.{ends_in_slash}
use Rattle.dump_index.specs.steps.Effects.{goes_on, stands_over}
use Rattle.dump_index.specs.steps.Touching.{rest_text}
use Rattle.dump_trees.proofs.paths.PathNames.{split_text}
use Rattle.dump_index.proofs.BelowLemmas.{Sides, sides}
use Rattle.dump_index.proofs.FrontLemmas.{cut_goes_on, goes_on_cut}
use Rattle.dump_index.proofs.RestLemmas.{split, split_some, rest_same, rest_over, rest_none}
use Rattle.dump_index.proofs.SlashLemmas.{rest_some, ends_rest}
use Rattle.dump_cut.proofs.ParentLemmas.{ends_named}
use Rattle.dump_cut.specs.steps.ExcludedPaths.{paths_of}
use Rattle.dump_cut.specs.steps.ExcludedTexts.{is_text_below, texts_below}
use Rattle.std.proofs.Math.Bool.{and-false}

-- whether a text is in the range that begins with the first text and ends before the second
abbrev pub is_between : List ℕ → List ℕ → List ℕ → Bool
is_between start end text = is_le (slice_cmp nat_cmp start text) && not (is_le (slice_cmp nat_cmp end text))

-- no text comes before the empty one
empty_first : (text : List ℕ) → is_le (slice_cmp nat_cmp [] text) ≡ true
empty_first [] = refl
empty_first (c ∷ text) = refl

-- a byte and the next one
slash_between : (c : ℕ) (text : List ℕ) → is_between (47 ∷ []) (48 ∷ []) (c ∷ text) ≡ nat_eq c 47
slash_between c text = cases (sides 47 c) (sides 48 c)
  where
    test : Ordering → Ordering → Bool
    test one two =
        is_le (ordering_then one (slice_cmp nat_cmp [] text)) && not (is_le (ordering_then two (slice_cmp nat_cmp [] text)))

    other : (47 < c → ⊥) → (c < 47 → ⊥) → nat_eq c 47 ≡ true
    other low high = eq-eqb c 47 (omega arith)

    cases : Sides 47 c → Sides 48 c → test (nat_cmp 47 c) (nat_cmp 48 c) ≡ nat_eq c 47
    cases (Sides.Lower low is) (Sides.Lower more are) =
        ap₂ test is are ∙ sym (false_from_ne_true (nat_eq c 47) (λ same. let e = eqb-true c 47 same in absurd (omega arith)))
    cases (Sides.Lower low is) (Sides.Level same are) =
        ap₂ test is are ∙ ap not (empty_first text)
        ∙ sym (false_from_ne_true (nat_eq c 47) (λ eq. let e = eqb-true c 47 eq in absurd (omega arith)))
    cases (Sides.Lower low is) (Sides.Higher more are) = absurd (omega arith)
    cases (Sides.Level same is) (Sides.Lower more are) = absurd (omega arith)
    cases (Sides.Level same is) (Sides.Level more are) = absurd (omega arith)
    cases (Sides.Level same is) (Sides.Higher more are) =
        ap₂ test is are ∙ ap (λ b. b && true) (empty_first text) ∙ sym (eq-eqb c 47 (sym same))
    cases (Sides.Higher high is) two =
        ap (λ o. test o (nat_cmp 48 c)) is
        ∙ sym (false_from_ne_true (nat_eq c 47) (λ eq. let e = eqb-true c 47 eq in absurd (omega arith)))

-- the texts from the top with a slash, and before the top with the next byte, are the texts that go on after the top
pub between_goes_on : (top text : List ℕ) → is_between (top ++ 47 ∷ []) (top ++ 48 ∷ []) text ≡ goes_on top text
between_goes_on [] [] = refl
between_goes_on [] (c ∷ text) = slash_between c text
between_goes_on (b ∷ top) [] = refl
between_goes_on (b ∷ top) (c ∷ text) = cases (between_goes_on top text) (sides b c)
  where
    test : Ordering → Bool
    test o =
        is_le (ordering_then o (slice_cmp nat_cmp (top ++ 47 ∷ []) text))
        && not (is_le (ordering_then o (slice_cmp nat_cmp (top ++ 48 ∷ []) text)))

    differ : nat_eq b c ≡ false → false ≡ (nat_eq b c && goes_on top text)
    differ is = sym (ap (λ t. t && goes_on top text) is)

    cases : is_between (top ++ 47 ∷ []) (top ++ 48 ∷ []) text ≡ goes_on top text → Sides b c
        → test (nat_cmp b c) ≡ (nat_eq b c && goes_on top text)
    cases further (Sides.Lower low is) =
        ap test is ∙ differ (false_from_ne_true (nat_eq b c) (λ eq. let e = eqb-true b c eq in absurd (omega arith)))
    cases further (Sides.Level same is) =
        ap test is ∙ further ∙ sym (ap (λ t. t && goes_on top text) (eq-eqb b c same))
    cases further (Sides.Higher high is) =
        ap test is ∙ differ (false_from_ne_true (nat_eq b c) (λ eq. let e = eqb-true b c eq in absurd (omega arith)))

-- a text doesn't go on after itself
goes_on_other : (top text : List ℕ) → goes_on top text ≡ true → bytes_eq top text ≡ false
goes_on_other [] [] is = absurd (let bad : false ≡ true = is in cc)
goes_on_other [] (c ∷ text) is = refl
goes_on_other (b ∷ top) [] is = refl
goes_on_other (b ∷ top) (c ∷ text) is =
    let parts = and_parts (nat_eq b c) (goes_on top text) is in
    ap (λ t. nat_eq b c && t) (goes_on_other top text parts.1) ∙ and-false (nat_eq b c)

-- so they are the texts below the top
pub between_below : (b : ℕ) (top text : List ℕ)
    → is_between ((b ∷ top) ++ 47 ∷ []) ((b ∷ top) ++ 48 ∷ []) text ≡ is_text_below (b ∷ top) text
between_below b top text = between_goes_on (b ∷ top) text ∙ cases (goes_on (b ∷ top) text) refl
  where
    cases : (t : Bool) → goes_on (b ∷ top) text ≡ t → t ≡ (t && not (bytes_eq (b ∷ top) text))
    cases true is = sym (ap not (goes_on_other (b ∷ top) text is))
    cases false is = refl

-- tests of texts, and of the values that have the texts
pub filter_items : {V : Type 0} (items : V → List ℕ) (one : V → Bool) (two : List ℕ → Bool)
    → ((v : V) → one v ≡ two (items v)) → (keys : List V) → map items (filter one keys) ≡ filter two (map items keys)
filter_items items one two same [] = refl
filter_items items one two same (v ∷ keys) =
    cases (filter_items items one two same keys) (one v) (two (items v)) (same v)
  where
    cases : map items (filter one keys) ≡ filter two (map items keys) → (a b : Bool) → a ≡ b
        → map items (cond a (v ∷ filter one keys) (filter one keys))
        ≡ cond b (items v ∷ filter two (map items keys)) (filter two (map items keys))
    cases further true true is = ap (λ rest. items v ∷ rest) further
    cases further false false is = further
    cases further true false is = absurd (cc)
    cases further false true is = absurd (cc)

pub shown_twice : {A B C : Type 0} (f : B → C) (show : A → B) (xs : List A) → map (λ x. f (show x)) xs ≡ map f (map show xs)
shown_twice f show [] = refl
shown_twice f show (x ∷ xs) = ap (λ rest. f (show x) ∷ rest) (shown_twice f show xs)

-- the texts in the range, without the top and the slash
pub range_texts : {V : Type 0} (items : V → List ℕ) (top : List ℕ) (start end : V) → (length top == 0) ≡ false
    → items start ≡ top ++ 47 ∷ [] → items end ≡ top ++ 48 ∷ [] → (keys : List V)
    → map (λ key. rest_text top (items key)) (filter (λ key. is_between (items start) (items end) (items key)) keys)
    ≡ texts_below top (map items keys)
range_texts items [] start end some from to keys = absurd (let bad : true ≡ false = some in cc)
range_texts items (b ∷ top) start end some from to keys =
    shown_twice (rest_text (b ∷ top)) items (filter (λ key. is_between (items start) (items end) (items key)) keys)
    ∙ ap (map (rest_text (b ∷ top)))
    (filter_items items (λ key. is_between (items start) (items end) (items key)) (is_text_below (b ∷ top))
    (λ key. ap₂ (λ (one : List ℕ) (other : List ℕ). is_between one other (items key)) from to
    ∙ between_below b top (items key)) keys)

-- the beginning of the range isn't after its end
pub forward : (top : List ℕ) → is_gt (slice_cmp nat_cmp (top ++ 47 ∷ []) (top ++ 48 ∷ [])) ≡ false
forward [] = refl
forward (b ∷ top) = cases (forward top) (sides b b)
  where
    cases : is_gt (slice_cmp nat_cmp (top ++ 47 ∷ []) (top ++ 48 ∷ [])) ≡ false → Sides b b
        → is_gt (ordering_then (nat_cmp b b) (slice_cmp nat_cmp (top ++ 47 ∷ []) (top ++ 48 ∷ []))) ≡ false
    cases further (Sides.Lower low is) = absurd (omega arith)
    cases further (Sides.Level same is) =
        ap (λ o. is_gt (ordering_then o (slice_cmp nat_cmp (top ++ 47 ∷ []) (top ++ 48 ∷ [])))) is ∙ further
    cases further (Sides.Higher high is) = absurd (omega arith)

-- whether a text is below the top, by its bytes

pub below_goes_on : (top text : List ℕ) → (length top == 0) ≡ false → is_text_below top text ≡ goes_on top text
below_goes_on [] text some = absurd (let bad : true ≡ false = some in cc)
below_goes_on (b ∷ top) text some = sym (between_below b top text) ∙ between_goes_on (b ∷ top) text

pub below_short : (top text : List ℕ) → (length top == 0) ≡ false → length text ≤ length top → is_text_below top text ≡ false
below_short top text some short =
    below_goes_on top text some
    ∙ false_from_ne_true (goes_on top text) (λ over. let cut = goes_on_cut top text over in absurd (omega (arith, cut.0, short)))

pub below_long : (top text : List ℕ) → (length top == 0) ≡ false → length top < length text
    → is_text_below top text ≡ (nat_eq (get_or text (length top) 0) 47 && bytes_eq (take (length top) text) top)
below_long top text some low =
    below_goes_on top text some
    ∙ both_ways _ _ (λ over. let cut = goes_on_cut top text over in
    and_from _ _ cut.2 (same top (take (length top) text) cut.1))
    (λ both. let parts = and_parts (nat_eq (get_or text (length top) 0) 47) (bytes_eq (take (length top) text) top) both in
    cut_goes_on top text (length top) low (same (take (length top) text) top parts.1) parts.0)
  where
    same : (one other : List ℕ) → bytes_eq one other ≡ true → bytes_eq other one ≡ true
    same one other is =
        (bytes_eq-Decides other one).1 (sym ((bytes_eq-Decides one other).0 is))

-- what is below the top, as paths

named_below : (top text : List ℕ) → has_node_names (names_of text) ≡ true
    → named_rest (below (names_of top) (names_of text)) ≡ map names_of (cond (is_text_below top text) (rest_text top text ∷ []) [])
named_below top text named = cases (bytes_eq top text) (stands_over text top) refl refl
  where
    goal : Bool → Bool → Type 0
    goal same over = named_rest (below (names_of top) (names_of text))
        ≡ map names_of (cond (over && not same) (rest_text top text ∷ []) [])

    some : (rest : List ℕ) → rest_text top text ≡ rest → (rest ≡ [] → ⊥)
        → named_rest (Some (split (rest_text top text))) ≡ names_of (rest_text top text) ∷ []
    some [] is full = absurd (full refl)
    some (b ∷ rest) is full =
        let parts = split_some (b ∷ rest) in
        ap (λ t. named_rest (Some (split t))) is
        ∙ ap (λ names. named_rest (Some names)) parts.2
        ∙ ap (λ names. names ∷ []) (sym parts.2)
        ∙ sym (ap (λ t. names_of t ∷ []) is)

    cases : (same over : Bool) → bytes_eq top text ≡ same → stands_over text top ≡ over → goal same over
    cases true over is how =
        ap named_rest (rest_same top text is) ∙ sym (ap (λ t. map names_of (cond t (rest_text top text ∷ []) [])) (and-false over))
    cases false true is how =
        ap named_rest (rest_over top text is how)
        ∙ some (rest_text top text) refl (rest_some top text is how (ends_named text named))
    cases false false is how = ap named_rest (rest_none top text is how)

pub below_named : (top : List ℕ) (texts : List (List ℕ)) → list_all has_node_names (paths_of texts) ≡ true
    → map names_of (texts_below top texts) ≡ rests_below (names_of top) (paths_of texts)
below_named top [] named = refl
below_named top (text ∷ texts) named =
    let parts = and_parts (has_node_names (names_of text)) (list_all has_node_names (paths_of texts)) named in
    cases (is_text_below top text) (named_below top text parts.0) (below_named top texts parts.1)
  where
    cases : (t : Bool)
        → named_rest (below (names_of top) (names_of text)) ≡ map names_of (cond t (rest_text top text ∷ []) [])
        → map names_of (texts_below top texts) ≡ rests_below (names_of top) (paths_of texts)
        → map names_of (map (rest_text top) (cond t (text ∷ filter (is_text_below top) texts) (filter (is_text_below top) texts)))
        ≡ named_rest (below (names_of top) (names_of text)) ++ rests_below (names_of top) (paths_of texts)
    cases true own others =
        ap (λ rest. names_of (rest_text top text) ∷ rest) others
        ∙ sym (ap (λ rests. rests ++ rests_below (names_of top) (paths_of texts)) own)
    cases false own others = others ∙ sym (ap (λ rests. rests ++ rests_below (names_of top) (paths_of texts)) own)

-- what follows in the texts doesn't end in a slash, if the texts have names
pub below_bare : (top : List ℕ) (texts : List (List ℕ)) → list_all has_node_names (paths_of texts) ≡ true
    → list_all (λ rest. not (ends_in_slash rest)) (texts_below top texts) ≡ true
below_bare top [] named = refl
below_bare top (text ∷ texts) named =
    let parts = and_parts (has_node_names (names_of text)) (list_all has_node_names (paths_of texts)) named in
    cases (is_text_below top text) (ap not (ends_rest top text (ends_named text parts.0))) (below_bare top texts parts.1)
  where
    cases : (t : Bool) → not (ends_in_slash (rest_text top text)) ≡ true
        → list_all (λ rest. not (ends_in_slash rest)) (texts_below top texts) ≡ true
        → list_all (λ rest. not (ends_in_slash rest))
        (map (rest_text top) (cond t (text ∷ filter (is_text_below top) texts) (filter (is_text_below top) texts))) ≡ true
    cases true own others = ap (λ b. b && list_all (λ rest. not (ends_in_slash rest)) (texts_below top texts)) own ∙ others
    cases false own others = others

-- all texts are below the root, if it isn't one of them
pub all_below_root : (texts : List (List ℕ)) → list_any (λ text. bytes_eq [] text) texts ≡ false → texts_below [] texts ≡ texts
all_below_root [] none = refl
all_below_root ([] ∷ texts) none = absurd (let bad : true ≡ false = none in cc)
all_below_root ((b ∷ text) ∷ texts) none = ap (λ rest. (b ∷ text) ∷ rest) (all_below_root texts none)

pub empty_list : {A : Type 0} (xs : List A) → (length xs == 0) ≡ true → xs ≡ []
empty_list [] is = refl
empty_list (x ∷ xs) is = let none : length (x ∷ xs) ≡ 0 = eqb-true (length (x ∷ xs)) 0 is in absurd (omega arith)

-- the prefix of a path that isn't the root
pub prefix_text : (path : List ℕ) → (length path == 0) ≡ false → 47 ∷ path ≡ path_text (names_of path)
prefix_text [] some = absurd (let bad : true ≡ false = some in cc)
prefix_text (b ∷ path) some = sym (split_text (b ∷ path))
