-- The kept numbers of a partial dump, and the numbers that a load gives them.
use Rattle.dump_history.proofs.Prelude.{◌≡◌, suc, ◌+◌, ◌-◌, Bool, true, not, ◌&&◌, ◌||◌, ◌==◌, Option, None, option_map, cond, map, count_by, refl, sym, ap, ap₂, ◌∙◌, subst, arith, list_all, list_any, last_or, and_parts, length-map, sum_by-cons, Settings, keeps_empty, KeptRevisions, new_number, last_kept, image, keeps, Made, is_copied, Change, made_behind, change_behind, revisions_behind, keeps_revision, names_kept, names_none, names_none_behind, kept_from, AreAbove, sets_mergeinfo, names_revision, name_no_revision, go_up, count_to_gap, kept_as_loaded}
use Rattle.std.proofs.Common.{ℕ, false, List, [], ◌∷◌, Some, filter, nat_lt, nat_le}
use Rattle.dump_history.proofs.again.GroupChanges.{empty_rule}

-- numbers that are raised

low_same : (before x n : ℕ) → nat_le (before + x) (before + n) ≡ nat_le x n
low_same before x n = grind arith

below_same : (before x n : ℕ) → nat_lt (before + x) (before + n) ≡ nat_lt x n
below_same before x n = grind arith

module _ (before : ℕ) where
  abbrev raise : ℕ → ℕ
  raise number = before + number

  -- the last number that is at most a raised number is the raised last number
  raised_last : (n : ℕ) (o : Option ℕ) (xs : List ℕ)
      → last_or (option_map raise o) (filter (λ k. nat_le k (before + n)) (map raise xs))
      ≡ option_map raise (last_or o (filter (λ k. nat_le k n) xs))
  raised_last n o [] = refl
  raised_last n o (x ∷ xs) =
      ap (λ b. last_or (option_map raise o) (cond b ((before + x) ∷ rest) rest)) (low_same before x n)
      ∙ cases (λ last. raised_last n last xs) (nat_le x n)
    where
      rest : List ℕ
      rest = filter (λ k. nat_le k (before + n)) (map raise xs)

      cases : ((last : Option ℕ) → last_or (option_map raise last) rest
          ≡ option_map raise (last_or last (filter (λ k. nat_le k n) xs))) → (b : Bool)
          → last_or (option_map raise o) (cond b ((before + x) ∷ rest) rest)
          ≡ option_map raise (last_or o (cond b (x ∷ filter (λ k. nat_le k n) xs) (filter (λ k. nat_le k n) xs)))
      cases more true = more (Some x)
      cases more false = more o

  -- as many raised numbers are below a raised number
  raised_count : (n : ℕ) (xs : List ℕ)
      → count_by (λ k. nat_lt k (before + n)) (map raise xs) ≡ count_by (λ k. nat_lt k n) xs
  raised_count n [] = refl
  raised_count n (x ∷ xs) =
      sum_by-cons (λ m. cond (nat_lt m (before + n)) 1 0) (before + x) (map raise xs)
      ∙ (ap₂ (λ b c. cond b 1 0 + c) (below_same before x n) (raised_count n xs)
      ∙ sym (sum_by-cons (λ m. cond (nat_lt m n) 1 0) x xs))

  -- a raised number is lowered again
  lowered : (xs : List ℕ) → map (λ number. number - before) (map raise xs) ≡ xs
  lowered [] = refl
  lowered (x ∷ xs) = ap₂ (λ y ys. y ∷ ys) (let back : before + x - before ≡ x = omega arith in back) (lowered xs)

-- the last of some numbers is above a number, if all are and the first one is
last_above : (p : ℕ → Bool) (a y : ℕ) (ys : List ℕ) (k : ℕ) → nat_lt a y ≡ true → AreAbove a ys
    → last_or (Some y) (filter p ys) ≡ Some k → nat_lt a k ≡ true
last_above p a y [] k high are last = subst (λ z. nat_lt a z ≡ true) (let same : y ≡ k = cc in same) high
last_above p a y (z ∷ ys) k high are last =
    let parts = and_parts (nat_lt a z) (list_all (λ w. nat_lt a w) ys) are in
    cases parts.0 (λ x above. last_above p a x ys k above parts.1) (p z) last
  where
    cases : nat_lt a z ≡ true → ((x : ℕ) → nat_lt a x ≡ true → last_or (Some x) (filter p ys) ≡ Some k
        → nat_lt a k ≡ true) → (b : Bool) → last_or (Some y) (cond b (z ∷ filter p ys) (filter p ys)) ≡ Some k
        → nat_lt a k ≡ true
    cases above more true last = more z above last
    cases above more false last = more y high last

-- the last of some numbers is also their last after another number, and it is above what all are above
last_of : (p : ℕ → Bool) (a : ℕ) (o : Option ℕ) (xs : List ℕ) (k : ℕ) → AreAbove a xs
    → last_or None (filter p xs) ≡ Some k → (last_or o (filter p xs) ≡ Some k) × (nat_lt a k ≡ true)
last_of p a o [] k are is = absurd (let bad : None ≡ Some k = is in cc)
last_of p a o (x ∷ xs) k are is =
    let parts = and_parts (nat_lt a x) (list_all (λ y. nat_lt a y) xs) are in
    cases parts (last_of p a o xs k parts.1) (p x) is
  where
    cases : (nat_lt a x ≡ true) × AreAbove a xs
        → (last_or None (filter p xs) ≡ Some k → (last_or o (filter p xs) ≡ Some k) × (nat_lt a k ≡ true))
        → (b : Bool) → last_or None (cond b (x ∷ filter p xs) (filter p xs)) ≡ Some k
        → (last_or o (cond b (x ∷ filter p xs) (filter p xs)) ≡ Some k) × (nat_lt a k ≡ true)
    cases parts more true is = (is, last_above p a x xs k parts.0 parts.1 is)
    cases parts more false is = more is

-- an image of raised numbers is a raised image
pub raised_image : (before n new : ℕ) (kept : KeptRevisions) (xs : List ℕ) → AreAbove 0 xs
    → kept.first ≡ suc before → kept.numbers ≡ map (λ k. before + k) xs
    → image kept (before + n) ≡ Some new
    → (low : ℕ) × (new ≡ before + low) × (image (record { first = 0; numbers = 0 ∷ xs }) n ≡ Some low)
raised_image before n new kept xs above first_is numbers_are is =
    by_last (last_or None (filter (λ k. nat_le k n) xs)) refl
  where
    loaded : KeptRevisions
    loaded = record { first = 0; numbers = 0 ∷ xs }

    last_is : last_kept kept (before + n) ≡ option_map (λ k. before + k) (last_or None (filter (λ k. nat_le k n) xs))
    last_is = ap (λ ks. last_or None (filter (λ k. nat_le k (before + n)) ks)) numbers_are ∙ raised_last before n None xs

    first_passes : last_kept loaded n ≡ last_or (Some 0) (filter (λ k. nat_le k n) xs)
    first_passes =
        ap (λ b. last_or None (cond b (0 ∷ filter (λ k. nat_le k n) xs) (filter (λ k. nat_le k n) xs)))
        (let low : nat_le 0 n ≡ true = grind arith in low)

    by_last : (o : Option ℕ) → last_or None (filter (λ k. nat_le k n) xs) ≡ o
        → (low : ℕ) × (new ≡ before + low) × (image loaded n ≡ Some low)
    by_last None none =
        let missing : image kept (before + n) ≡ None =
        ap (option_map (new_number kept)) (last_is ∙ ap (option_map (λ k. before + k)) none) in
        absurd (let bad : None ≡ Some new = sym missing ∙ is in cc)
    by_last (Some k) found =
        let there = last_of (λ m. nat_le m n) 0 (Some 0) xs k above found in
        let found_is : image kept (before + n) ≡ Some (new_number kept (before + k)) =
        ap (option_map (new_number kept)) (last_is ∙ ap (option_map (λ m. before + m)) found) in
        let same : Some new ≡ Some (new_number kept (before + k)) = sym is ∙ found_is in
        let new_is : new ≡ new_number kept (before + k) = cc in
        let raised : new_number kept (before + k) ≡ suc before + count_by (λ m. nat_lt m k) xs =
        ap₂ (λ f ks. f + count_by (λ m. nat_lt m (before + k)) ks) first_is numbers_are
        ∙ ap (λ c. suc before + c) (raised_count before k xs) in
        let low_is : new_number loaded k ≡ 0 + (1 + count_by (λ m. nat_lt m k) xs) =
        ap (λ c. 0 + c) (sum_by-cons (λ m. cond (nat_lt m k) 1 0) 0 xs
        ∙ ap (λ b. cond b 1 0 + count_by (λ m. nat_lt m k) xs) there.1) in (
          new_number loaded k,
          new_is ∙ raised ∙ (let sum : suc before + count_by (λ m. nat_lt m k) xs
              ≡ before + (0 + (1 + count_by (λ m. nat_lt m k) xs)) = omega arith in sum)
              ∙ ap (λ l. before + l) (sym low_is),
          ap (option_map (new_number loaded)) (first_passes ∙ there.0),
        )

-- revisions that are raised

-- a raised revision is kept exactly if the revision was
pub kept_raised : (settings : Settings) (before : ℕ) (changes : List Change)
    → keeps_revision settings (empty_rule settings) (map (change_behind before) changes)
    ≡ keeps_revision settings (empty_rule settings) changes
kept_raised settings before changes =
    ap₂ (λ b l. b || keeps_empty settings.empty (l == 0)) (same_paths changes)
    (length-map changes (change_behind before))
  where
    same_paths : (changes : List Change)
        → list_any (λ (c : Change). keeps settings c.path) (map (change_behind before) changes)
        ≡ list_any (λ (c : Change). keeps settings c.path) changes
    same_paths [] = refl
    same_paths (c ∷ changes) = ap (λ b. keeps settings c.path || b) (same_paths changes)

-- so are all revisions, with raised numbers
pub kept_from_raised : (settings : Settings) (before n : ℕ) (revisions : List (List Change))
    → kept_from settings (empty_rule settings) (before + n) (revisions_behind before revisions)
    ≡ map (λ k. before + k) (kept_from settings (empty_rule settings) n revisions)
kept_from_raised settings before n [] = refl
kept_from_raised settings before n (changes ∷ revisions) =
    ap (λ b. cond b ((before + n) ∷ rest) rest) (kept_raised settings before changes)
    ∙ cases (rest_is (kept_from_raised settings before (suc n) revisions))
    (keeps_revision settings (empty_rule settings) changes)
  where
    rest : List ℕ
    rest = kept_from settings (empty_rule settings) (suc (before + n)) (revisions_behind before revisions)

    later : List ℕ
    later = map (λ k. before + k) (kept_from settings (empty_rule settings) (suc n) revisions)

    rest_is : kept_from settings (empty_rule settings) (before + suc n) (revisions_behind before revisions) ≡ later
        → rest ≡ later
    rest_is more = ap (λ m. kept_from settings (empty_rule settings) m (revisions_behind before revisions))
        (let same : suc (before + n) ≡ before + suc n = omega arith in same) ∙ more

    cases : rest ≡ later → (b : Bool) → cond b ((before + n) ∷ rest) rest
        ≡ map (λ k. before + k) (cond b (n ∷ kept_from settings (empty_rule settings) (suc n) revisions)
        (kept_from settings (empty_rule settings) (suc n) revisions))
    cases same true = ap (λ ks. (before + n) ∷ ks) same
    cases same false = same

-- what is raised is copied exactly if it was copied before
pub raised_copied : (before : ℕ) (made : Option Made) → is_copied (made_behind before made) ≡ is_copied made
raised_copied before None = refl
raised_copied before (Some Made.NewDirectory) = refl
raised_copied before (Some Made.NewFile) = refl
raised_copied before (Some (Made.Copied number source)) = refl

-- and it names a revision exactly if it did before
raised_names : (before : ℕ) (c : Change) → names_revision (change_behind before c) ≡ names_revision c
raised_names before c = ap (λ b. b || sets_mergeinfo c) (raised_copied before c.made)

module _ (settings : Settings) (before : ℕ) where
  raised_names_kept : (changes : List Change) → names_kept settings names_revision (map (change_behind before) changes)
      ≡ names_kept settings names_revision changes
  raised_names_kept [] = refl
  raised_names_kept (c ∷ changes) =
      ap₂ (λ b d. (keeps settings c.path && b) || d) (raised_names before c) (raised_names_kept changes)

  raised_names_none : (revisions : List (List Change))
      → names_none settings names_revision (revisions_behind before revisions)
      ≡ names_none settings names_revision revisions
  raised_names_none [] = refl
  raised_names_none (changes ∷ revisions) =
      ap₂ (λ b d. not b && d) (raised_names_kept changes) (raised_names_none revisions)

  -- the same for revisions after the first dropped one
  pub raised_none_behind : (revisions : List (List Change))
      → names_none_behind settings (empty_rule settings) names_revision (revisions_behind before revisions)
      ≡ names_none_behind settings (empty_rule settings) names_revision revisions
  raised_none_behind [] = refl
  raised_none_behind (changes ∷ revisions) =
      let kept = kept_raised settings before changes in
      let more = raised_none_behind revisions in
      let none = raised_names_none revisions in
      λ i. cond (kept i) (more i) (none i)

module _ (before : ℕ) where
  raised_names_some : (changes : List Change)
      → list_any names_revision (map (change_behind before) changes) ≡ list_any names_revision changes
  raised_names_some [] = refl
  raised_names_some (c ∷ changes) =
      ap₂ (λ b d. b || d) (raised_names before c) (raised_names_some changes)

  raised_plain : (revisions : List (List Change))
      → name_no_revision (revisions_behind before revisions) ≡ name_no_revision revisions
  raised_plain [] = refl
  raised_plain (changes ∷ revisions) =
      ap₂ (λ b d. not b && d) (raised_names_some changes) (raised_plain revisions)

  -- raised revisions have the same gap
  pub raised_counts : (n : ℕ) (numbers : List ℕ) (revisions : List (List Change))
      → count_to_gap n numbers (revisions_behind before revisions) ≡ count_to_gap n numbers revisions
  raised_counts n [] revisions = refl
  raised_counts n (m ∷ numbers) [] = refl
  raised_counts n (m ∷ numbers) (changes ∷ revisions) =
      let more = raised_counts (suc n) numbers revisions in
      let plain = raised_plain (changes ∷ revisions) in
      λ i. ((m == n) && more i) || (go_up n (m ∷ numbers) && plain i)

-- the kept revisions, as they are loaded, are those of the lowered revisions
pub kept_loaded : (before : ℕ) (kept : KeptRevisions) (xs : List ℕ) → kept.numbers ≡ map (λ k. before + k) xs
    → kept_as_loaded before kept ≡ record { first = 0; numbers = 0 ∷ xs }
kept_loaded before kept xs are =
    ap (λ ks. record { first = 0; numbers = 0 ∷ ks }) (ap (map (λ number. number - before)) are ∙ lowered before xs)
