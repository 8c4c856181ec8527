-- What the items in a list weigh, if each number has a weight.
use Rattle.dump_lanes.proofs.Prelude.{◌≡◌, ℕ, zero, suc, ◌+◌, ◌<◌, ◌≤◌, ◌==◌, Bool, true, false, cond, List, [], ◌∷◌, ◌++◌, length, get_or, set, replicate, filter, count_by, sum_by, Option, None, option_to_list, sym, refl, ap, ◌∙◌, arith, map-id, add-one, concat, list_any, range_with_len, cases_eq, map-range_with_len_more, sum_by-cons, Entry, items_in_hands, ⊎_elim, or_cases, cases_Bool}
use Rattle.std.proofs.Common.{not}
use Rattle.std.proofs.lemmas.Bool.{eqb-true, eq-eqb, ne_eqb}
use Rattle.std.proofs.lemmas.List.Concat.{flat_map-append}
use Rattle.dump_lanes.specs.PoolWorld.{item_of, items_of}

-- what the numbers in a list weigh together
abbrev pub weigh : (ℕ → ℕ) → List ℕ → ℕ
weigh f [] = 0
weigh f (x ∷ xs) = f x + weigh f xs

-- one number alone weighs something
abbrev pub only : ℕ → ℕ → ℕ
only n m = cond (m == n) 1 0

-- each number weighs as much
abbrev pub each : ℕ → ℕ
each m = 1

-- a list joined to another weighs what both weigh
pub weigh-append : (f : ℕ → ℕ) (xs ys : List ℕ) → weigh f (xs ++ ys) ≡ weigh f xs + weigh f ys
weigh-append f [] ys = omega arith
weigh-append f (x ∷ xs) ys = let more = weigh-append f xs ys in omega arith

-- what a list weighs is a sum
pub weigh_is_sum : (f : ℕ → ℕ) (xs : List ℕ) → weigh f xs ≡ sum_by f xs
weigh_is_sum f [] = refl
weigh_is_sum f (x ∷ xs) = let more = weigh_is_sum f xs in omega (arith, sum_by-cons f x xs)

-- how often a number is in a list is what it weighs there alone
pub times_is : (n : ℕ) (xs : List ℕ) → count_by (λ m. m == n) xs ≡ weigh (only n) xs
times_is n xs = sym (weigh_is_sum (only n) xs)

-- a list is as long as it weighs where each number weighs one
pub length_is : (xs : List ℕ) → length xs ≡ weigh each xs
length_is [] = refl
length_is (x ∷ xs) = let more = length_is xs in omega arith

-- where one number alone weighs something, it weighs one
pub only_itself : (n : ℕ) → only n n ≡ 1
only_itself n = ap (λ b. cond b 1 0) (eq-eqb n n refl)

-- where one number alone weighs something, another weighs nothing
pub only_other : (n m : ℕ) → (m ≡ n → ⊥) → only n m ≡ 0
only_other n m h = ap (λ b. cond b 1 0) (ne_eqb m n h)

-- entries
pub items_of-append : (es fs : List Entry) → items_of (es ++ fs) ≡ items_of es ++ items_of fs
items_of-append es fs = flat_map-append item_of es fs

-- the items of entries joined to others weigh what the items of both weigh
pub weigh_entries : (f : ℕ → ℕ) (es fs : List Entry) → weigh f (items_of (es ++ fs)) ≡ weigh f (items_of es) + weigh f
    (items_of fs)
weigh_entries f es fs = ap (weigh f) (items_of-append es fs) ∙ weigh-append f (items_of es) (items_of fs)

-- hands
abbrev pub weigh_hand : (ℕ → ℕ) → Option Entry → ℕ
weigh_hand f hand = weigh f (items_of (option_to_list hand))

-- after a change of one hand, the weight of the items in hands rises by that of the new hand and falls by that of the
-- old
pub hands_set : (f : ℕ → ℕ) (hands : List (Option Entry)) (k : ℕ) (hand : Option Entry) → k < length hands
    → weigh f (items_in_hands (set hands k hand)) + weigh_hand f (get_or hands k None) ≡ weigh f
    (items_in_hands hands) + weigh_hand f hand
hands_set f [] k hand lt = absurd (omega arith)
hands_set f (h ∷ hands) zero hand lt = omega (arith, weigh-append)
hands_set f (h ∷ hands) (suc k) hand lt =
    let more = hands_set f hands k hand (omega arith) in omega (arith, weigh-append)

-- there are no items in empty hands
pub no_hands : (n : ℕ) → items_in_hands (replicate n None) ≡ []
no_hands zero = refl
no_hands (suc n) = no_hands n

-- slots
pub slots_set : (f : ℕ → ℕ) (slots : List (List ℕ)) (k : ℕ) (slot : List ℕ) → k < length slots
    → weigh f (concat (set slots k slot)) + weigh f (get_or slots k []) ≡ weigh f (concat slots) + weigh f slot
slots_set f [] k slot lt = absurd (omega arith)
slots_set f (s ∷ slots) zero slot lt = omega (arith, weigh-append)
slots_set f (s ∷ slots) (suc k) slot lt =
    let more = slots_set f slots k slot (omega arith) in omega (arith, weigh-append)

-- no slot weighs more than all slots together
pub slot_le : (f : ℕ → ℕ) (slots : List (List ℕ)) (k : ℕ) → weigh f (get_or slots k []) ≤ weigh f (concat slots)
slot_le f [] k = omega arith
slot_le f (s ∷ slots) zero = omega (arith, weigh-append f s (concat slots))
slot_le f (s ∷ slots) (suc k) = let more = slot_le f slots k in omega (arith, weigh-append f s (concat slots))

-- there are no items in empty slots
pub no_slots : (n : ℕ) → concat (replicate n []) ≡ []
no_slots zero = refl
no_slots (suc n) = no_slots n

-- if a number that alone has a weight is in a list, the list weighs something
pub weighs : (n : ℕ) (xs : List ℕ) → list_any (λ m. m == n) xs ≡ true → 0 < weigh (only n) xs
weighs n [] e = cc
weighs n (x ∷ xs) e =
    ⊎_elim (λ (h : (x == n) ≡ true). let here : only n x ≡ 1 = ap (λ (b : Bool). cond b 1 0) h in omega arith)
    (λ (h : list_any (λ m. m == n) xs ≡ true). let more = weighs n xs h in omega arith)
    (or_cases (x == n) (list_any (λ m. m == n) xs) e)

-- a list without its numbers n
abbrev pub without : ℕ → List ℕ → List ℕ
without n xs = filter (λ m. not (m == n)) xs

-- a number that is n is removed, and another is kept
without_itself : (f : ℕ → ℕ) (n x : ℕ) (xs : List ℕ) → (x == n) ≡ true
    → weigh f (without n (x ∷ xs)) ≡ weigh f (without n xs)
without_itself f n x xs h = ap (λ (b : Bool). weigh f (cond (not b) (x ∷ without n xs) (without n xs))) h

without_other : (f : ℕ → ℕ) (n x : ℕ) (xs : List ℕ) → (x == n) ≡ false
    → weigh f (without n (x ∷ xs)) ≡ f x + weigh f (without n xs)
without_other f n x xs h = ap (λ (b : Bool). weigh f (cond (not b) (x ∷ without n xs) (without n xs))) h

without_none : (f : ℕ → ℕ) (n : ℕ) (xs : List ℕ) → weigh (only n) xs ≡ 0 → weigh f (without n xs) ≡ weigh f xs
without_none f n [] e = refl
without_none f n (x ∷ xs) e =
    ⊎_elim (λ (h : (x == n) ≡ true).
    let here : only n x ≡ 1 = ap (λ (b : Bool). cond b 1 0) h in absurd (omega arith))
    (λ (h : (x == n) ≡ false).
    let more = without_none f n xs (omega arith) in omega (arith, without_other f n x xs h)) (cases_Bool (x == n))

-- if it is in the list once, exactly its own weight is lost
pub without_one : (f : ℕ → ℕ) (n : ℕ) (xs : List ℕ) → weigh (only n) xs ≡ 1 → weigh f (without n xs) + f n ≡ weigh f xs
without_one f n [] e = absurd (omega arith)
without_one f n (x ∷ xs) e =
    ⊎_elim (λ (h : (x == n) ≡ true).
    let here : only n x ≡ 1 = ap (λ (b : Bool). cond b 1 0) h in
    let same : f x ≡ f n = ap f (eqb-true x n h) in
    let more = without_none f n xs (omega arith) in omega (arith, without_itself f n x xs h))
    (λ (h : (x == n) ≡ false).
    let here : only n x ≡ 0 = ap (λ (b : Bool). cond b 1 0) h in
    let more = without_one f n xs (omega arith) in omega (arith, without_other f n x xs h)) (cases_Bool (x == n))

-- a list without its numbers n weighs no more than with them
pub without_le : (f : ℕ → ℕ) (n : ℕ) (xs : List ℕ) → weigh f (without n xs) ≤ weigh f xs
without_le f n [] = omega arith
without_le f n (x ∷ xs) =
    let more = without_le f n xs in
    ⊎_elim (λ (h : (x == n) ≡ true). omega (arith, without_itself f n x xs h))
    (λ (h : (x == n) ≡ false). omega (arith, without_other f n x xs h)) (cases_Bool (x == n))

-- the numbers below n
pub range_next : (n : ℕ) → range_with_len 0 (n + 1) ≡ range_with_len 0 n ++ n ∷ []
range_next n =
    let more = map-range_with_len_more (λ (x : ℕ). x) 0 n n (omega arith) in
    sym (map-id (range_with_len 0 (n + 1))) ∙ (more ∙ ap (λ (l : List ℕ). l ++ n ∷ []) (map-id (range_with_len 0 n)))

-- the numbers up to n weigh what those below n weigh, and what n weighs
pub weigh_range : (f : ℕ → ℕ) (n : ℕ) → weigh f (range_with_len 0 (n + 1)) ≡ weigh f (range_with_len 0 n) + f n
weigh_range f n = omega (arith, ap (weigh f) (range_next n), weigh-append f (range_with_len 0 n) (n ∷ []))

weigh_range_at : (f : ℕ → ℕ) (n : ℕ) → weigh f (range_with_len 0 (suc n)) ≡ weigh f (range_with_len 0 n) + f n
weigh_range_at f n = ap (λ (k : ℕ). weigh f (range_with_len 0 k)) (sym (add-one n)) ∙ weigh_range f n

-- a number isn't among the numbers below one that isn't greater
pub above_range : (n c : ℕ) → c ≤ n → weigh (only n) (range_with_len 0 c) ≡ 0
above_range n zero le = refl
above_range n (suc c) le =
    let before : weigh (only n) (range_with_len 0 c) ≡ 0 = above_range n c (omega arith) in
    let last : only n c ≡ 0 = only_other n c (λ e. omega arith) in
    let more : weigh (only n) (range_with_len 0 (suc c)) ≡ weigh (only n)
    (range_with_len 0 c) + only n c = weigh_range_at (only n) c in
    omega arith

-- a number occurs once among the numbers below a greater one
pub within_range : (n c : ℕ) → n < c → weigh (only n) (range_with_len 0 c) ≡ 1
within_range n zero lt = absurd (omega arith)
within_range n (suc c) lt =
    let more : weigh (only n) (range_with_len 0 (suc c)) ≡ weigh (only n) (range_with_len 0 c) + only n c =
    weigh_range_at (only n) c in
    ⊎_elim (λ (e : c ≡ n).
    let last : only n c ≡ 1 = ap (only n) e ∙ only_itself n in omega (arith, above_range n c))
    (λ (ne : c ≡ n → ⊥).
    let before = within_range n c (omega arith) in
    let last = only_other n c ne in omega arith) (cases_eq c n)
