-- The end marks: each comes after the items of its worker, after each event.
use Rattle.dump_lanes.proofs.Prelude.{◌≡◌, ℕ, zero, suc, ◌+◌, ◌<◌, ◌≤◌, Bool, true, false, cond, List, [], ◌∷◌, ◌++◌, length, get_or, set, replicate, Option, None, option_to_list, refl, ap, ◌∙◌, arith, Entry, items_in_hands, marks_in_hands}
use Rattle.std.proofs.Common.{append-nil}
use Rattle.dump_lanes.specs.PoolWorld.{items_of}
use Rattle.dump_lanes.specs.PoolProgress.{marks}
use Rattle.dump_lanes.proofs.core.Weights.{items_of-append}

-- how many workers took their end marks
abbrev bit : Bool → ℕ
bit b = cond b 1 0

-- how many of these workers took their end marks
abbrev pub count_taken : List Bool → ℕ
count_taken [] = 0
count_taken (t ∷ taken) = bit t + count_taken taken

-- no item comes after a mark
abbrev pub AreItemsFirst : List Entry → Type 0
AreItemsFirst [] = Unit {0}
AreItemsFirst (Entry.Item n ∷ es) = AreItemsFirst es
AreItemsFirst (Entry.Mark ∷ es) = items_of es ≡ []

-- a mark comes after each item
abbrev pub AreMarkedAfter : List Entry → Type 0
AreMarkedAfter [] = Unit {0}
AreMarkedAfter (Entry.Item n ∷ es) = (0 < marks es) × AreMarkedAfter es
AreMarkedAfter (Entry.Mark ∷ es) = AreMarkedAfter es

-- a worker that took its end mark has no item in hand
abbrev pub OwnLast : List Bool → List (Option Entry) → Type 0
OwnLast taken hands =
    (k : ℕ) → get_or taken k false ≡ true → items_of (option_to_list (get_or hands k None)) ≡ []

-- entries joined to others have the end marks of both
pub marks-append : (es fs : List Entry) → marks (es ++ fs) ≡ marks es + marks fs
marks-append [] fs = omega arith
marks-append (Entry.Item n ∷ es) fs = marks-append es fs
marks-append (Entry.Mark ∷ es) fs = let more = marks-append es fs in omega arith

-- an item joins where there is no mark
pub item_joins : (es : List Entry) (n : ℕ) → marks es ≡ 0 → AreItemsFirst (es ++ Entry.Item n ∷ [])
item_joins [] n e = tt
item_joins (Entry.Item m ∷ es) n e = item_joins es n e
item_joins (Entry.Mark ∷ es) n e = absurd (omega arith)

-- no item comes after a mark, where an end mark joins such entries
pub mark_joins : (es : List Entry) → AreItemsFirst es → AreItemsFirst (es ++ Entry.Mark ∷ [])
mark_joins [] h = refl
mark_joins (Entry.Item m ∷ es) h = mark_joins es h
mark_joins (Entry.Mark ∷ es) h = items_of-append es (Entry.Mark ∷ []) ∙ (append-nil (items_of es) ∙ h)

-- after a mark no item is in the queue
pub closes : (es : List Entry) → AreMarkedAfter (es ++ Entry.Mark ∷ [])
closes [] = tt
closes (Entry.Item n ∷ es) = (omega (arith, marks-append es (Entry.Mark ∷ [])), closes es)
closes (Entry.Mark ∷ es) = closes es

-- and where all marks are gone, so are all items
pub none_left : (es : List Entry) → AreMarkedAfter es → marks es ≡ 0 → items_of es ≡ []
none_left [] h e = refl
none_left (Entry.Item n ∷ es) h e = absurd (omega (arith, h.0))
none_left (Entry.Mark ∷ es) h e = absurd (omega arith)

-- after a change of one hand, the number of end marks in hands rises by those of the new hand and falls by those of
-- the old
pub hand_set : (hands : List (Option Entry)) (k : ℕ) (hand : Option Entry) → k < length hands
    → marks_in_hands (set hands k hand) + marks (option_to_list (get_or hands k None)) ≡ marks_in_hands hands + marks
    (option_to_list hand)
hand_set [] k hand lt = absurd (omega arith)
hand_set (h ∷ hands) zero hand lt = omega arith
hand_set (h ∷ hands) (suc k) hand lt = let more = hand_set hands k hand (omega arith) in omega arith

-- one more worker took its mark
pub taken_set : (taken : List Bool) (k : ℕ) → k < length taken → get_or taken k false ≡ false
    → count_taken (set taken k true) ≡ count_taken taken + 1
taken_set [] k lt e = absurd (omega arith)
taken_set (t ∷ taken) zero lt e = let none : bit t ≡ 0 = ap bit e in omega arith
taken_set (t ∷ taken) (suc k) lt e = let more = taken_set taken k (omega arith) e in omega arith

taken_within : (taken : List Bool) → count_taken taken ≤ length taken
taken_within [] = omega arith
taken_within (true ∷ taken) = let more = taken_within taken in omega arith
taken_within (false ∷ taken) = let more = taken_within taken in omega arith

-- where one took none, not all took theirs
pub not_all : (taken : List Bool) (k : ℕ) → k < length taken → get_or taken k false ≡ false
    → count_taken taken < length taken
not_all [] k lt e = absurd (omega arith)
not_all (t ∷ taken) zero lt e = let none : bit t ≡ 0 = ap bit e in omega (arith, taken_within taken)
not_all (true ∷ taken) (suc k) lt e = let more = not_all taken k (omega arith) e in omega arith
not_all (false ∷ taken) (suc k) lt e = let more = not_all taken k (omega arith) e in omega arith

-- if all took theirs and none has an item in addition, no hand has an item
pub no_item_in_hands : (hands : List (Option Entry)) (taken : List Bool) → length hands ≡ length taken
    → count_taken taken ≡ length taken → OwnLast taken hands → items_in_hands hands ≡ []
no_item_in_hands [] taken l all own = refl
no_item_in_hands (h ∷ hands) [] l all own = absurd (omega arith)
no_item_in_hands (h ∷ hands) (true ∷ taken) l all own =
    let rest : items_in_hands hands ≡ [] = no_item_in_hands hands taken (omega arith) (omega arith)
    (λ k. own (suc k)) in
    ap (λ (l : List ℕ). l ++ items_in_hands hands) (own zero refl) ∙ rest
no_item_in_hands (h ∷ hands) (false ∷ taken) l all own = absurd (omega (arith, taken_within taken))

-- there are no end marks in empty hands
pub no_marks_in_hands : (n : ℕ) → marks_in_hands (replicate n None) ≡ 0
no_marks_in_hands zero = refl
no_marks_in_hands (suc n) = let more = no_marks_in_hands n in omega arith

-- where no worker took its end mark, none is counted
pub none_taken : (n : ℕ) → count_taken (replicate n false) ≡ 0
none_taken zero = refl
none_taken (suc n) = let more = none_taken n in omega arith

-- a place of a list of the same entries has that entry, as has a place after it
pub get_or_replicate : {A : Type 0} (n k : ℕ) (x : A) → get_or (replicate n x) k x ≡ x
get_or_replicate zero k x = refl
get_or_replicate (suc n) zero x = refl
get_or_replicate (suc n) (suc k) x = get_or_replicate n k x
