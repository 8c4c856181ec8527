-- Texts that are removed from a set: the texts that begin a path. These are the path's parts before a slash, the path
-- and the empty text.
use Rattle.dump_survey.proofs.Prelude.{◌≡◌, ◌≢◌, ℕ, ◌+◌, ◌<◌, ◌≤◌, Bool, true, false, not, ◌&&◌, ◌||◌, List, [], ◌∷◌, take, length, get_or, map, bytes_eq, cond, filter, refl, sym, ap, ap₂, ◌∙◌, inl, inr, arith, and-false, and-true, or-false, list_any, is_at, remove_key, slice_cmp, nat_cmp, or_cases, or_parts, both_ways, false_from_ne_true, nat_tests, is_eq-slice_cmp, bytes_eq-Decides, first_true, begins_path, AreWithin, cut_begins, none_begins, is_among, AreWithout}
use Rattle.dump_survey.proofs.ParentLemmas.{any_found}
use Rattle.std.proofs.Common.{nat_lt}
use borrow.Author.Count.{below_more}

-- a text that is removed from the keys of a set

others_stay : {V : Type 0} (items : V → List ℕ) (text other : List ℕ) (ks : List V) → bytes_eq other text ≡ false
    → is_among other (map items (remove_key (is_at (λ k. slice_cmp nat_cmp text (items k))) ks))
    ≡ is_among other (map items ks)
others_stay items text other [] apart = refl
others_stay {V} items text other (x ∷ xs) apart =
    by (others_stay items text other xs apart) (is_at (λ k. slice_cmp nat_cmp text (items k)) x) refl
  where
    rest : List V
    rest = remove_key (is_at (λ k. slice_cmp nat_cmp text (items k))) xs

    by : is_among other (map items (remove_key (is_at (λ k. slice_cmp nat_cmp text (items k))) xs))
        ≡ is_among other (map items xs)
        → (b : Bool) → is_at (λ k. slice_cmp nat_cmp text (items k)) x ≡ b
        → is_among other (map items (cond b xs
        (x ∷ remove_key (is_at (λ k. slice_cmp nat_cmp text (items k))) xs)))
        ≡ (bytes_eq other (items x) || is_among other (map items xs))
    by more true is =
        let same : text ≡ items x = (bytes_eq-Decides text (items x)).0 (sym (is_eq-slice_cmp text (items x)) ∙ is) in
        ap (λ b. b || is_among other (map items xs)) (sym apart ∙ ap (bytes_eq other) same)
    by more false is = ap (λ b. bytes_eq other (items x) || b) more

-- the text was removed, and the keys are the others
pub text_removed : {V : Type 0} (items : V → List ℕ) (text : List ℕ) (ks keys : List V)
    → keys ≡ remove_key (is_at (λ k. slice_cmp nat_cmp text (items k))) ks
    → list_any (is_at (λ k. slice_cmp nat_cmp text (items k))) keys ≡ false
    → AreWithout (λ other. bytes_eq other text) (map items ks) (map items keys)
text_removed {V} items text ks keys are gone other = by (bytes_eq other text) refl
  where
    by : (b : Bool) → bytes_eq other text ≡ b
        → is_among other (map items keys) ≡ (is_among other (map items ks) && not b)
    by true same =
        ap (λ t. is_among t (map items keys)) ((bytes_eq-Decides other text).0 same)
        ∙ (sym (any_found items text keys) ∙ (gone ∙ sym (and-false (is_among other (map items ks)))))
    by false apart =
        ap (λ (l : List V). is_among other (map items l)) are
        ∙ (others_stay items text other ks apart ∙ sym (and-true (is_among other (map items ks))))

-- the texts that remain are no longer than before
pub within_less : {V : Type 0} (items : V → List ℕ) (test : V → Bool) (longest : ℕ) (ks : List V)
    → AreWithin longest (map items ks) → AreWithin longest (map items (remove_key test ks))
within_less items test longest [] within = refl
within_less {V} items test longest (x ∷ xs) within =
    by (within_less items test longest xs (or_parts _ _ within).1) (test x)
  where
    by : AreWithin longest (map items (remove_key test xs)) → (b : Bool)
        → AreWithin longest (map items (cond b xs (x ∷ remove_key test xs)))
    by more true = (or_parts _ _ within).1
    by more false =
        ap (λ b. b || list_any (λ text. nat_lt longest (length text)) (map items (remove_key test xs)))
        (or_parts (nat_lt longest (length (items x))) _ within).0 ∙ more

-- the keys whose texts fail the test remain in the set

module _ {V : Type 0} (items : V → List ℕ) (test : List ℕ → Bool) where
  pub texts_filtered : (ks : List V)
      → AreWithout test (map items ks) (map items (filter (λ k. not (test (items k))) ks))
  texts_filtered [] text = refl
  texts_filtered (x ∷ xs) text = by (texts_filtered xs text) (test (items x)) refl (bytes_eq text (items x)) refl
    where
      rest : List V
      rest = filter (λ k. not (test (items k))) xs

      by : is_among text (map items rest) ≡ (is_among text (map items xs) && not (test text))
          → (t : Bool) → test (items x) ≡ t → (b : Bool) → bytes_eq text (items x) ≡ b
          → is_among text (map items (cond (not t) (x ∷ rest) rest))
          ≡ ((bytes_eq text (items x) || is_among text (map items xs)) && not (test text))
      by more true passes true same =
          let fails : test text ≡ true = ap test ((bytes_eq-Decides text (items x)).0 same) ∙ passes in
          more ∙ (ap (λ c. is_among text (map items xs) && not c) fails ∙ (and-false (is_among text (map items xs))
          ∙ (sym (and-false (bytes_eq text (items x) || is_among text (map items xs)))
          ∙ ap (λ c. (bytes_eq text (items x) || is_among text (map items xs)) && not c) (sym fails))))
      by more true passes false apart =
          more ∙ ap (λ b. (b || is_among text (map items xs)) && not (test text)) (sym apart)
      by more false fails true same =
          let stays : test text ≡ false = ap test ((bytes_eq-Decides text (items x)).0 same) ∙ fails in
          ap (λ b. b || is_among text (map items rest)) same
          ∙ sym (ap₂ (λ b c. (b || is_among text (map items xs)) && not c) same stays)
      by more false fails false apart =
          ap (λ b. b || is_among text (map items rest)) apart
          ∙ (more ∙ ap (λ b. (b || is_among text (map items xs)) && not (test text)) (sym apart))

  pub within_filtered : (longest : ℕ) (ks : List V) → AreWithin longest (map items ks)
      → AreWithin longest (map items (filter (λ k. not (test (items k))) ks))
  within_filtered longest [] within = refl
  within_filtered longest (x ∷ xs) within =
      by (within_filtered longest xs (or_parts _ _ within).1) (test (items x))
    where
      rest : List V
      rest = filter (λ k. not (test (items k))) xs

      by : AreWithin longest (map items rest) → (t : Bool)
          → AreWithin longest (map items (cond (not t) (x ∷ rest) rest))
      by more true = more
      by more false =
          ap (λ b. b || list_any (λ text. nat_lt longest (length text)) (map items rest))
          (or_parts (nat_lt longest (length (items x))) _ within).0 ∙ more

-- a text of the list is at most this long
pub among_within : (longest : ℕ) (texts : List (List ℕ)) (text : List ℕ) → AreWithin longest texts
    → is_among text texts ≡ true → length text ≤ longest
among_within longest [] text within is = absurd (let bad : false ≡ true = is in cc)
among_within longest (t ∷ texts) text within is =
    elim (or_cases (bytes_eq text t) (is_among text texts) is) [
      | inl here ↦ short t ((bytes_eq-Decides text t).0 here) (or_parts (nat_lt longest (length t)) _ within).0
      | inr there ↦ among_within longest texts text (or_parts (nat_lt longest (length t)) _ within).1 there
    ]
  where
    short : (other : List ℕ) → text ≡ other → nat_lt longest (length other) ≡ false → length text ≤ longest
    short other same low =
        let size : length text ≡ length other = ap length same in
        let fits : length other ≤ longest = grind (arith, nat_tests) in
        omega arith

-- what the texts that remain say about each text

module _ (test : List ℕ → Bool) (old new : List (List ℕ)) (without : AreWithout test old new) (text : List ℕ) where
  was_among : is_among text new ≡ true → is_among text old ≡ true
  was_among is = first_true (is_among text old) (not (test text)) (sym (without text) ∙ is)

  is_gone : test text ≡ true → is_among text new ≡ false
  is_gone is = without text ∙ (ap (λ b. is_among text old && not b) is ∙ and-false (is_among text old))

  has_stayed : test text ≡ false → is_among text new ≡ is_among text old
  has_stayed not_is = without text ∙ (ap (λ b. is_among text old && not b) not_is ∙ and-true (is_among text old))

  was_none : is_among text old ≡ false → is_among text new ≡ false
  was_none none = without text ∙ ap (λ b. b && not (test text)) none

itself : (text : List ℕ) → bytes_eq text text ≡ true
itself text = (bytes_eq-Decides text text).1 refl

-- a part of the path before a slash begins the path, and so does the path itself
front_begins : (path : List ℕ) (n : ℕ) → n < length path → get_or path n 0 ≡ 47 → begins_path (take n path) path ≡ true
front_begins path n low slash =
    sym (or-false (begins_path (take n path) path))
    ∙ cut_begins path n low slash (take n path ∷ []) (ap (λ b. b || false) (itself (take n path)))

-- a text that begins the path differs from one that doesn't
not_same : (path text other : List ℕ) → begins_path text path ≡ false → begins_path other path ≡ true
    → bytes_eq text other ≡ false
not_same path text other none begins = false_from_ne_true _
    (λ same. both_ways _ none (ap (λ t. begins_path t path) ((bytes_eq-Decides text other).0 same) ∙ begins))

-- the empty text, the path, and its parts before the slashes up to an index were removed
pub record HaveLeft (old : List (List ℕ)) (path : List ℕ) (place : ℕ) (new : List (List ℕ)) : Type 0 where
  pub fewer : (text : List ℕ) → is_among text new ≡ true → is_among text old ≡ true
  pub stay : (text : List ℕ) → begins_path text path ≡ false → is_among text new ≡ is_among text old
  pub no_empty : is_among [] new ≡ false
  pub no_whole : is_among path new ≡ false
  pub no_front : (k : ℕ) → k < place → get_or path k 0 ≡ 47 → is_among (take k path) new ≡ false

module _ (old : List (List ℕ)) (path : List ℕ) where
  module _ (place : ℕ) (mid : List (List ℕ)) (left : HaveLeft old path place mid) where
    pub front_left : (new : List (List ℕ)) → place < length path → get_or path place 0 ≡ 47
        → AreWithout (λ other. bytes_eq other (take place path)) mid new → HaveLeft old path (place + 1) new
    front_left new low slash without = record {
      fewer = λ text is. left.fewer text (was_among _ mid new without text is);
      stay = λ text none. has_stayed _ mid new without text
          (not_same path text (take place path) none (front_begins path place low slash)) ∙ left.stay text none;
      no_empty = was_none _ mid new without [] left.no_empty;
      no_whole = was_none _ mid new without path left.no_whole;
      no_front = below_more (λ k. get_or path k 0 ≡ 47 → is_among (take k path) new ≡ false) place
          (λ k below is. was_none _ mid new without (take k path) (left.no_front k below is))
          (λ is. is_gone _ mid new without (take place path) (itself (take place path)));
    }

    pub none_left : get_or path place 0 ≢ 47 → HaveLeft old path (place + 1) mid
    none_left other = record {
      fewer = left.fewer;
      stay = left.stay;
      no_empty = left.no_empty;
      no_whole = left.no_whole;
      no_front = below_more (λ k. get_or path k 0 ≡ 47 → is_among (take k path) mid ≡ false) place left.no_front
          (λ is. absurd (other is));
    }

    apart : (text other : List ℕ) → is_among text mid ≡ true → is_among other mid ≡ false → bytes_eq other text ≡ false
    apart text other is out = false_from_ne_true _
        (λ same. both_ways _ out (ap (λ t. is_among t mid) ((bytes_eq-Decides other text).0 same) ∙ is))

    -- so all texts that begin the path were removed, if no text reaches beyond the index
    pub all_left : ((text : List ℕ) (n : ℕ) → is_among text old ≡ true → n ≤ length text → n < length path → n < place)
        → AreWithout (λ text. begins_path text path) old mid
    all_left reach text = by (begins_path text path) refl
      where
        -- a text that remains doesn't begin the path
        begins_none : is_among text mid ≡ true → begins_path text path ≡ false
        begins_none is =
            (or_parts (begins_path text path) false (none_begins path place (length text)
            (λ n fits low. reach text n (left.fewer text is) fits low) (text ∷ [])
            (or-false (nat_lt (length text) (length text)) ∙ same_size (length text))
            (or-false (bytes_eq [] text) ∙ apart text [] is left.no_empty)
            (or-false (bytes_eq path text) ∙ apart text path is left.no_whole)
            (λ k low slash. or-false (bytes_eq (take k path) text) ∙ apart text (take k path) is
            (left.no_front k low slash)))).0
          where
            same_size : (n : ℕ) → nat_lt n n ≡ false
            same_size n = grind (arith, nat_tests)

        by : (b : Bool) → begins_path text path ≡ b → is_among text mid ≡ (is_among text old && not b)
        by true begins = false_from_ne_true _ (λ is. both_ways _ (begins_none is) begins)
            ∙ sym (and-false (is_among text old))
        by false none = left.stay text none ∙ sym (and-true (is_among text old))
