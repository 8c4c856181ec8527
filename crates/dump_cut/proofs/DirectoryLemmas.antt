-- The directories above paths, as determined by the texts of the paths.
use Rattle.std.proofs.Common.{◌≡◌, ℕ, ◌+◌, ◌<◌, ◌≤◌, Bool, true, false, not, ◌&&◌, ◌||◌, ◌==◌, List, [], ◌∷◌, length, take, get_or, nat_eq, nat_lt, bytes_eq, Bor, Some, refl, sym, ap, ap₂, ◌∙◌, subst, inl, inr, arith}
use Rattle.std.specs.List.{dedup, list_any}
use Rattle.std.specs.List.Sorted.{IsSorted, IsStrictlySortedBy}
use Rattle.std.specs.Cmp.{both_ways}
use Rattle.std.specs.Cmp.Lexicographic.{slice_cmp, on_texts, texts_ties}
use Rattle.std.specs.Ordering.{nat_cmp}
use Rattle.std.proofs.lemmas.List.Kept.{IsStrictlySortedBy-dedup}
use Rattle.std.proofs.lemmas.Bool.{and_parts, and_from, cases_lt, eq-eqb, eqb-true, false_from_ne_true, lt-ltb, ltb-true, or_cases, or_left, or_right}
use Rattle.std.proofs.lemmas.Slice.Eq.{bytes_eq-Decides}
use Rattle.dump_trees.specs.Paths.{below, names_of}
use Rattle.dump_trees.specs.Restriction.{is_root}
use Rattle.dump_trees.specs.steps.Siblings.{has_name_behind, is_above_included}
use Rattle.dump_index.specs.steps.Effects.{goes_on, stands_over}
use Rattle.dump_index.specs.steps.Touching.{rest_text}
use Rattle.dump_index.specs.steps.Names.{texts_of}
use Rattle.dump_index.proofs.ChildLemmas.{same_texts, strict_texts}
use Rattle.dump_index.proofs.FrontLemmas.{cut_goes_on, cut_length, goes_on_cut}
use Rattle.dump_index.proofs.RestLemmas.{rest_same, rest_over, rest_none, split_some}
use Rattle.dump_cut.specs.steps.ExcludedPaths.{paths_of}
use Rattle.dump_cut.specs.steps.ExcludedTexts.{is_text_below}
use Rattle.dump_cut.proofs.RangeLemmas.{below_goes_on}
use Rattle.std.proofs.Math.Bool.{and-false}

-- names that are sorted and without duplicates
pub once_ordered : (sorted once : List (Bor (List ℕ))) → IsSorted (λ one two. slice_cmp nat_cmp one.now two.now) sorted
    → once ≡ dedup same_texts sorted → IsStrictlySortedBy (slice_cmp nat_cmp) (texts_of once)
once_ordered sorted once up is =
    strict_texts once (subst
    (λ (ns : List (Bor (List ℕ))). IsStrictlySortedBy (λ one two. slice_cmp nat_cmp one.now two.now) ns) (sym is)
    (IsStrictlySortedBy-dedup (on_texts (λ (text : Bor (List ℕ)). text.now)) (λ one two. texts_ties one.now two.now) sorted up))

-- whether the text is the part of the path before a slash at an index below this one
abbrev pub is_front_within : ℕ → List ℕ → List ℕ → Bool
is_front_within k path front = goes_on front path && nat_lt (length front) k

same_flipped : (one other : List ℕ) → bytes_eq one other ≡ true → bytes_eq other one ≡ true
same_flipped one other is = (bytes_eq-Decides other one).1 (sym ((bytes_eq-Decides one other).0 is))

-- one more byte of the path, which is a slash
pub front_more : (path front : List ℕ) (k : ℕ) → k < length path → get_or path k 0 ≡ 47
    → (is_front_within k path front || bytes_eq (take k path) front) ≡ is_front_within (k + 1) path front
front_more path front k low slash = both_ways _ _ up down
  where
    up : (is_front_within k path front || bytes_eq (take k path) front) ≡ true → is_front_within (k + 1) path front ≡ true
    up is =
        elim (or_cases (is_front_within k path front) (bytes_eq (take k path) front) is) [
          | inl before ↦
              let parts = and_parts (goes_on front path) (nat_lt (length front) k) before in
              let less = ltb-true (length front) k parts.1 in
              and_from (goes_on front path) (nat_lt (length front) (k + 1)) parts.0 (lt-ltb (length front) (k + 1) (omega (arith, less)))
          | inr here ↦
              let same = same_flipped (take k path) front here in
              let size = cut_length front path k low same in
              and_from (goes_on front path) (nat_lt (length front) (k + 1))
              (cut_goes_on front path k low same (eq-eqb (get_or path k 0) 47 slash))
              (lt-ltb (length front) (k + 1) (omega (arith, size)))
        ]

    down : is_front_within (k + 1) path front ≡ true → (is_front_within k path front || bytes_eq (take k path) front) ≡ true
    down is =
        let parts = and_parts (goes_on front path) (nat_lt (length front) (k + 1)) is in
        let less = ltb-true (length front) (k + 1) parts.1 in
        let cut = goes_on_cut front path parts.0 in
        elim (cases_lt (length front) k) [
          | inl under ↦
              or_left (is_front_within k path front) (bytes_eq (take k path) front)
              (and_from (goes_on front path) (nat_lt (length front) k) parts.0 (lt-ltb (length front) k under))
          | inr upto ↦
              let same : length front ≡ k = omega (arith, less, upto) in
              or_right (is_front_within k path front) (bytes_eq (take k path) front)
              (same_flipped front (take k path) (subst (λ n. bytes_eq front (take n path) ≡ true) same cut.1))
        ]

-- one more byte that is no slash
pub front_same : (path front : List ℕ) (k : ℕ) → (get_or path k 0 ≡ 47 → ⊥)
    → is_front_within k path front ≡ is_front_within (k + 1) path front
front_same path front k other = both_ways _ _ up down
  where
    up : is_front_within k path front ≡ true → is_front_within (k + 1) path front ≡ true
    up is =
        let parts = and_parts (goes_on front path) (nat_lt (length front) k) is in
        let less = ltb-true (length front) k parts.1 in
        and_from (goes_on front path) (nat_lt (length front) (k + 1)) parts.0 (lt-ltb (length front) (k + 1) (omega (arith, less)))

    down : is_front_within (k + 1) path front ≡ true → is_front_within k path front ≡ true
    down is =
        let parts = and_parts (goes_on front path) (nat_lt (length front) (k + 1)) is in
        let less = ltb-true (length front) (k + 1) parts.1 in
        let cut = goes_on_cut front path parts.0 in
        elim (cases_lt (length front) k) [
          | inl under ↦ and_from (goes_on front path) (nat_lt (length front) k) parts.0 (lt-ltb (length front) k under)
          | inr upto ↦
              let same : length front ≡ k = omega (arith, less, upto) in
              absurd (other (eqb-true (get_or path k 0) 47 (subst (λ n. nat_eq (get_or path n 0) 47 ≡ true) same cut.2)))
        ]

-- all parts of the path
pub front_all : (path front : List ℕ) (k : ℕ) → length path ≤ k → is_front_within k path front ≡ goes_on front path
front_all path front k low = both_ways _ _ (λ is. (and_parts (goes_on front path) (nat_lt (length front) k) is).0) (λ is.
    let cut = goes_on_cut front path is in let less = cut.0 in
    and_from (goes_on front path) (nat_lt (length front) k) is (lt-ltb (length front) k (omega (arith, low, less))))

-- a directory is above paths if it is the root, or if a path's text begins with the directory's text and a slash

below_text : (top text : List ℕ) → has_name_behind (below (names_of top) (names_of text)) ≡ is_text_below top text
below_text top text = cases (bytes_eq top text) (stands_over text top) refl refl
  where
    cases : (same over : Bool) → bytes_eq top text ≡ same → stands_over text top ≡ over
        → has_name_behind (below (names_of top) (names_of text)) ≡ (over && not same)
    cases true over is how = ap has_name_behind (rest_same top text is) ∙ sym (and-false over)
    cases false true is how =
        ap has_name_behind (rest_over top text is how)
        ∙ ap (λ names. has_name_behind (Some names)) (split_some (rest_text top text)).2
    cases false false is how = ap has_name_behind (rest_none top text is how)

some_bytes : (b : ℕ) (text : List ℕ) → (length (b ∷ text) == 0) ≡ false
some_bytes b text = false_from_ne_true (length (b ∷ text) == 0) (λ is.
    let none : length (b ∷ text) ≡ 0 = eqb-true (length (b ∷ text)) 0 is in absurd (omega arith))

pub above_texts : (directory : List ℕ) (texts : List (List ℕ))
    → is_above_included (paths_of texts) (names_of directory)
    ≡ (bytes_eq [] directory || list_any (goes_on directory) texts)
above_texts [] texts = refl
above_texts (b ∷ directory) texts =
    ap (λ r. r || list_any (λ top. has_name_behind (below (names_of (b ∷ directory)) top)) (paths_of texts))
    (ap is_root (split_some (b ∷ directory)).2)
    ∙ some texts
  where
    some : (others : List (List ℕ))
        → list_any (λ top. has_name_behind (below (names_of (b ∷ directory)) top)) (paths_of others)
        ≡ list_any (goes_on (b ∷ directory)) others
    some [] = refl
    some (text ∷ others) = ap₂ (λ x y. x || y) (below_text (b ∷ directory) text ∙ below_goes_on (b ∷ directory) text (some_bytes b directory)) (some others)
