-- The parent directories to create before loading.
use Rattle.dump_survey.proofs.Prelude.{◌≡◌, ◌≢◌, ℕ, ◌+◌, ◌<◌, ◌≤◌, Bool, true, false, not, ◌&&◌, ◌||◌, ◌==◌, List, [], ◌∷◌, ◌++◌, take, drop, length, get_or, map, flat_map, filter, bytes_eq, if◌then◌else◌, Bor, refl, sym, ap, ap₂, ◌∙◌, arith, append_assoc, append-nil, list_any, slice_cmp, is_eq, match_ordering, nat_cmp, Ordering, Less, Equal, Greater, insert_key, nat_tests, take_more, drop_more, drop_all, map-append, is_eq-slice_cmp, bytes_eq-Decides, is_at, or_from, begins_path, AreWithin, within_wider, Settings, keeps_path, each_once, fronts, with_new, BeginSame, HaveSame}
use Rattle.std.proofs.Common.{nat_lt}

-- a directory that is looked up

pub swapped : (a b c : Bool) → (a || (b || c)) ≡ (b || (a || c))
swapped true true c = refl
swapped true false c = refl
swapped false b c = refl

pub twice : (a b : Bool) → (a || b) ≡ (a || (a || b))
twice true b = refl
twice false b = refl

pub any_inserted : {V : Type 0} (items : V → List ℕ) (p : List ℕ → Bool) (k : V) (ks : List V)
    → list_any p (map items (insert_key (λ x y. slice_cmp nat_cmp (items x) (items y)) ks k))
    ≡ (p (items k) || list_any p (map items ks))
any_inserted items p k [] = refl
any_inserted {V} items p k (x ∷ xs) = at (any_inserted items p k xs) (slice_cmp nat_cmp (items k) (items x)) refl
  where
    at : list_any p (map items (insert_key (λ x y. slice_cmp nat_cmp (items x) (items y)) xs k)) ≡
        (p (items k) || list_any p (map items xs))
        → (o : Ordering) → slice_cmp nat_cmp (items k) (items x) ≡ o
        → list_any p (map items (match_ordering o (k ∷ x ∷ xs) (x ∷ xs)
        (x ∷ insert_key (λ x y. slice_cmp nat_cmp (items x) (items y)) xs k)))
        ≡ (p (items k) || list_any p (map items (x ∷ xs)))
    at behind Less is = refl
    at behind Equal is =
        let same : items k ≡ items x = (bytes_eq-Decides (items k) (items x)).0
        (sym (is_eq-slice_cmp (items k) (items x)) ∙ ap is_eq is) in
        twice (p (items x)) (list_any p (map items xs))
        ∙ ap (λ t. p t || (p (items x) || list_any p (map items xs))) (sym same)
    at behind Greater is =
        ap (λ b. p (items x) || b) behind ∙ swapped (p (items x)) (p (items k)) (list_any p (map items xs))

pub any_pushed : (p : List ℕ → Bool) (texts : List (List ℕ)) (text : List ℕ) → list_any p (texts ++ text ∷ []) ≡
    (p text || list_any p texts)
any_pushed p [] text = refl
any_pushed p (t ∷ texts) text = ap (λ b. p t || b) (any_pushed p texts text) ∙ swapped (p t) (p text) (list_any p texts)

-- a lookup by the order of the set finds exactly the texts of the set
pub any_found : {V : Type 0} (items : V → List ℕ) (text : List ℕ) (ks : List V)
    → list_any (is_at (λ k. slice_cmp nat_cmp text (items k))) ks ≡ list_any (λ prefix. bytes_eq text prefix)
    (map items ks)
any_found items text [] = refl
any_found items text (x ∷ xs) =
    ap (λ b. b || list_any (is_at (λ k. slice_cmp nat_cmp text (items k))) xs) (is_eq-slice_cmp text (items x))
    ∙ ap (λ b. bytes_eq text (items x) || b) (any_found items text xs)

-- an added prefix begins the same paths at its place in the set as at the end of the list
pub begin_more : {V : Type 0} (items : V → List ℕ) (ks : List V) (k : V) (bares : List (List ℕ))
    → BeginSame (map items ks) bares
    → BeginSame (map items (insert_key (λ x y. slice_cmp nat_cmp (items x) (items y)) ks k)) (bares ++ items k ∷ [])
begin_more items ks k bares same path =
    let begins = λ (prefix : List ℕ). begins_path prefix path in
    any_inserted items begins k ks ∙ ap (λ b. begins (items k) || b) (same path) ∙ sym (any_pushed begins bares (items k))

-- if the added text and the others are within a length, all are
pub within_more : {V : Type 0} (items : V → List ℕ) (ks : List V) (k : V) (low high : ℕ) → low ≤ high
    → length (items k) ≤ high
    → AreWithin low (map items ks) → AreWithin high
    (map items (insert_key (λ x y. slice_cmp nat_cmp (items x) (items y)) ks k))
within_more items ks k low high up fits within =
    any_inserted items (λ text. nat_lt high (length text)) k ks
    ∙ or_from _ _ (grind (arith, nat_tests)) (within_wider low high up (map items ks) within)

-- one more directory in both lists
pub known_more : {V : Type 0} (items : V → List ℕ) (ks : List V) (k : V) (directories : List (Bor (List ℕ)))
    (directory : Bor (List ℕ)) → items k ≡ directory.now → HaveSame (map items ks) (map (λ f. f.now) directories)
    → HaveSame (map items (insert_key (λ x y. slice_cmp nat_cmp (items x) (items y)) ks k))
    (map (λ f. f.now) (directories ++ directory ∷ []))
known_more items ks k directories directory copied same text =
    let p = λ (other : List ℕ). bytes_eq text other in
    any_inserted items p k ks
    ∙ (ap₂ (λ (t : List ℕ) (b : Bool). p t || b) copied (same text)
    ∙ (sym (any_pushed p (map (λ f. f.now) directories) directory.now)
    ∙ ap (list_any p) (sym (map-append (λ (f : Bor (List ℕ)). f.now) directories (directory ∷ [])))))

-- a directory in the list isn't added again, and another one is added
pub known_stays : (directories : List (List ℕ)) (path : List ℕ) → list_any (λ other. bytes_eq path other) directories ≡ true
    → directories ≡ with_new directories path
known_stays directories path known = ap (λ b. if b then directories else directories ++ path ∷ []) (sym known)

pub new_is_added : (directories : List (List ℕ)) (path : List ℕ) → list_any (λ other. bytes_eq path other) directories ≡ false
    → directories ++ path ∷ [] ≡ with_new directories path
new_is_added directories path new = ap (λ b. if b then directories else directories ++ path ∷ []) (sym new)

pub added_new : (directories : List (Bor (List ℕ))) (directory : Bor (List ℕ)) (old : List (List ℕ)) → map (λ f. f.now) directories ≡ old
    → list_any (λ other. bytes_eq directory.now other) old ≡ false
    → map (λ f. f.now) (directories ++ directory ∷ []) ≡ with_new old directory.now
added_new directories directory old same new =
    map-append (λ (f : Bor (List ℕ)). f.now) directories (directory ∷ [])
    ∙ (ap (λ fs. fs ++ directory.now ∷ []) same ∙ new_is_added old directory.now new)

-- the paths above a bare prefix, index by index

-- the paths that aren't kept
abbrev pub left_of : Settings → List (List ℕ) → List (List ℕ)
left_of settings paths = filter (λ path. not (keeps_path settings path)) paths

-- the paths that end at an index or after it
abbrev pub fronts_from : List ℕ → ℕ → List (List ℕ)
fronts_from bare n = map (λ front. take n bare ++ front) (fronts (drop n bare))

pub all_fronts : (bare : List ℕ) → fronts bare ≡ fronts_from bare 0
all_fronts bare = same (fronts bare)
  where
    same : (texts : List (List ℕ)) → texts ≡ map (λ front. [] ++ front) texts
    same [] = refl
    same (text ∷ texts) = ap (λ ts. text ∷ ts) (same texts)

-- after the last index there are none
pub no_front : (bare : List ℕ) (n : ℕ) → length bare ≤ n → fronts_from bare n ≡ []
no_front bare n over = ap (λ text. map (λ front. take n bare ++ front) (fronts text)) (drop_all n bare over)

mapped_on : (first : List ℕ) (b : ℕ) (texts : List (List ℕ))
    → map (λ front. first ++ front) (map (λ front. b ∷ front) texts) ≡ map (λ front. (first ++ b ∷ []) ++ front) texts
mapped_on first b [] = refl
mapped_on first b (text ∷ texts) =
    ap₂ (λ (t : List ℕ) (ts : List (List ℕ)). t ∷ ts) (sym (append_assoc first (b ∷ []) text)) (mapped_on first b texts)

next_of : (first : List ℕ) (b : ℕ) (rest : List ℕ) → map (λ front. first ++ front) (fronts (b ∷ rest))
    ≡ (if b == 47 then first ∷ [] else []) ++ map (λ front. (first ++ b ∷ []) ++ front) (fronts rest)
next_of first b rest = cases (b == 47)
  where
    cases : (t : Bool) → map (λ front. first ++ front) ((if t then [] ∷ [] else []) ++ map (λ front. b ∷ front) (fronts rest))
        ≡ (if t then first ∷ [] else []) ++ map (λ front. (first ++ b ∷ []) ++ front) (fronts rest)
    cases true = ap₂ (λ (t : List ℕ) (ts : List (List ℕ)). t ∷ ts) (append-nil first) (mapped_on first b (fronts rest))
    cases false = mapped_on first b (fronts rest)

next_front : (bare : List ℕ) (n : ℕ) → n < length bare → fronts_from bare n
    ≡ (if get_or bare n 0 == 47 then take n bare ∷ [] else []) ++ fronts_from bare (n + 1)
next_front bare n low =
    ap (λ text. map (λ front. take n bare ++ front) (fronts text)) (drop_more bare n 0 low)
    ∙ (next_of (take n bare) (get_or bare n 0) (drop (n + 1) bare)
    ∙ ap (λ (t : List ℕ). (if get_or bare n 0 == 47 then take n bare ∷ [] else [])
    ++ map (λ front. t ++ front) (fronts (drop (n + 1) bare))) (sym (take_more bare n 0 low)))

-- at an index with a slash, the path before the slash is added unless it is kept
pub place_adds : (settings : Settings) (reported : List (List ℕ)) (bare : List ℕ) (n : ℕ) → n < length bare
    → get_or bare n 0 ≡ 47 → keeps_path settings (take n bare) ≡ false
    → each_once reported (left_of settings (fronts_from bare n))
    ≡ each_once (with_new reported (take n bare)) (left_of settings (fronts_from bare (n + 1)))
place_adds settings reported bare n low slash left =
    ap (λ texts. each_once reported (left_of settings texts)) (next_front bare n low
    ∙ ap (λ b. (if b == 47 then take n bare ∷ [] else []) ++ fronts_from bare (n + 1)) slash)
    ∙ ap (λ b. each_once reported (if not b then take n bare ∷ left_of settings (fronts_from bare (n + 1))
    else left_of settings (fronts_from bare (n + 1)))) left

pub place_passes : (settings : Settings) (reported : List (List ℕ)) (bare : List ℕ) (n : ℕ) → n < length bare
    → ((get_or bare n 0 == 47) && not (keeps_path settings (take n bare))) ≡ false
    → each_once reported (left_of settings (fronts_from bare n))
    ≡ each_once reported (left_of settings (fronts_from bare (n + 1)))
place_passes settings reported bare n low none =
    ap (λ texts. each_once reported (left_of settings texts)) (next_front bare n low)
    ∙ cases (get_or bare n 0 == 47) (keeps_path settings (take n bare)) refl none
  where
    more : List (List ℕ)
    more = fronts_from bare (n + 1)

    cases : (a k : Bool) → keeps_path settings (take n bare) ≡ k → (a && not k) ≡ false
        → each_once reported (left_of settings ((if a then take n bare ∷ [] else []) ++ more))
        ≡ each_once reported (left_of settings more)
    cases false k is none = refl
    cases true true is none = ap (λ b. each_once reported (if not b then take n bare ∷ left_of settings more
        else left_of settings more)) is
    cases true false is none = absurd (let bad : true ≡ false = none in cc)

-- a kept path adds nothing, and so does a byte that is no slash
pub kept_passes : (slash kept : Bool) → kept ≡ true → (slash && not kept) ≡ false
kept_passes true kept is = ap not is
kept_passes false kept is = refl

pub other_passes : (byte : ℕ) (kept : Bool) → byte ≢ 47 → ((byte == 47) && not kept) ≡ false
other_passes byte kept other = ap (λ t. t && not kept) (let e : (byte == 47) ≡ false = grind (arith, nat_tests) in e)

-- prefix by prefix, the result is the same as for all paths at once

pub once_append : (reported xs ys : List (List ℕ)) → each_once reported (xs ++ ys) ≡ each_once (each_once reported xs) ys
once_append reported [] ys = refl
once_append reported (x ∷ xs) ys = once_append (with_new reported x) xs ys

pub left_append : (settings : Settings) (xs ys : List (List ℕ))
    → left_of settings (xs ++ ys) ≡ left_of settings xs ++ left_of settings ys
left_append settings [] ys = refl
left_append settings (x ∷ xs) ys = cases (keeps_path settings x) (left_append settings xs ys)
  where
    cases : (k : Bool) → left_of settings (xs ++ ys) ≡ left_of settings xs ++ left_of settings ys
        → (if not k then x ∷ left_of settings (xs ++ ys) else left_of settings (xs ++ ys))
        ≡ (if not k then x ∷ left_of settings xs else left_of settings xs) ++ left_of settings ys
    cases true behind = behind
    cases false behind = ap (λ l. x ∷ l) behind

-- the paths that one more bare prefix adds
prefix_adds : (settings : Settings) (reported new : List (List ℕ)) (bare : List ℕ) (others : List (List ℕ))
    → new ≡ each_once reported (left_of settings (fronts bare))
    → each_once reported (left_of settings (flat_map fronts (bare ∷ others)))
    ≡ each_once new (left_of settings (flat_map fronts others))
prefix_adds settings reported new bare others added =
    ap (each_once reported) (left_append settings (fronts bare) (flat_map fronts others))
    ∙ (once_append reported (left_of settings (fronts bare)) (left_of settings (flat_map fronts others))
    ∙ ap (λ t. each_once t (left_of settings (flat_map fronts others))) (sym added))

pub next_adds : (settings : Settings) (all : List (Bor (List ℕ))) (place : ℕ) (d : Bor (List ℕ)) (reported new : List (List ℕ))
    → place < length all → new ≡ each_once reported (left_of settings (fronts (get_or all place d).now))
    → each_once reported (left_of settings (flat_map fronts (map (λ prefix. prefix.now) (drop place all))))
    ≡ each_once new (left_of settings (flat_map fronts (map (λ prefix. prefix.now) (drop (place + 1) all))))
next_adds settings all place d reported new low added =
    ap (λ (l : List (Bor (List ℕ))). each_once reported (left_of settings (flat_map fronts (map (λ p. p.now) l))))
    (drop_more all place d low)
    ∙ prefix_adds settings reported new (get_or all place d).now (map (λ (p : Bor (List ℕ)). p.now) (drop (place + 1) all)) added
