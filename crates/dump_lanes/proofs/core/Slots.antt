-- Each item in a slot has the slot's number as its remainder, after each event; so no two share one.
use Rattle.dump_lanes.proofs.Prelude.{◌≡◌, ◌⊎◌, inl, inr, ℕ, ◌+◌, ◌<◌, ◌≤◌, ◌%◌, ◌==◌, Bool, true, false, cond, List, [], ◌∷◌, ◌++◌, length, get_or, set, replicate, sym, ap, ◌∙◌, arith, cases_eq, cases_lt, PoolSize, World, opening, slot_of, Event, is_enabled, after_event, ⊎_elim, refl}
use Rattle.std.proofs.Common.{IsTrue, get_or-set_same, get_or-set_other, eqb-true}
use Rattle.atomic_table.proofs.Lists.{one_turn}
use Rattle.dump_lanes.proofs.core.FirstEntry.{by_job, by_done, by_piece}
use Rattle.dump_lanes.proofs.core.Marks.{get_or_replicate}
use Rattle.dump_lanes.proofs.core.Weights.{weigh, only, without, weigh-append, only_itself, without_le}
use Rattle.dump_lanes.proofs.core.Places.{IsSized, slot_within}

-- what is in a slot has that slot
abbrev pub ArePlaced : ℕ → List (List ℕ) → Type 0
ArePlaced window slots = (i m : ℕ) → 0 < weigh (only m) (get_or slots i []) → m % window ≡ i

-- each item in a slot of the state has that slot
abbrev pub IsPlaced : PoolSize → World → Type 0
IsPlaced size w = ArePlaced size.window w.slots

set_at : (window : ℕ) (slots : List (List ℕ)) (j : ℕ) (slot : List ℕ) → j < length slots → ArePlaced window slots
    → ((m : ℕ) → 0 < weigh (only m) slot → m % window ≡ j)
    → (i m : ℕ) → (i ≡ j) ⊎ (i ≡ j → ⊥) → 0 < weigh (only m) (get_or (set slots j slot) i []) → m % window ≡ i
set_at window slots j slot lt h new i m (inl e) here =
    let same : get_or (set slots j slot) i [] ≡ slot =
    ap (λ (k : ℕ). get_or (set slots j slot) k []) e ∙ get_or-set_same slots j slot [] lt in
    let weight : weigh (only m) (get_or (set slots j slot) i []) ≡ weigh (only m) slot = ap (weigh (only m)) same in
    new m (omega arith) ∙ sym e
set_at window slots j slot lt h new i m (inr ne) here =
    let weight : weigh (only m) (get_or (set slots j slot) i []) ≡ weigh (only m) (get_or slots i []) =
    ap (weigh (only m)) (get_or-set_other slots j i slot [] ne) in
    h i m (omega arith)

set_placed : (window : ℕ) (slots : List (List ℕ)) (j : ℕ) (slot : List ℕ) → j < length slots → ArePlaced window slots
    → ((m : ℕ) → 0 < weigh (only m) slot → m % window ≡ j) → ArePlaced window (set slots j slot)
set_placed window slots j slot lt h new i m here = set_at window slots j slot lt h new i m (cases_eq i j) here

weighs_only : (n m : ℕ) (b : Bool) → (n == m) ≡ b → 0 < only m n → n ≡ m
weighs_only n m true e here = eqb-true n m e
weighs_only n m false e here = let none : only m n ≡ 0 = ap (λ (b : Bool). cond b 1 0) e in absurd (omega arith)

-- an item that arrives at its slot
joins_at : (window : ℕ) (slot : List ℕ) (n m : ℕ) → (0 < weigh (only m) slot → m % window ≡ n % window)
    → (0 < weigh (only m) slot) ⊎ (weigh (only m) slot ≤ 0) → 0 < weigh (only m) (slot ++ n ∷ [])
    → m % window ≡ n % window
joins_at window slot n m old (inl before) here = old before
joins_at window slot n m old (inr none) here =
    let more : weigh (only m) (slot ++ n ∷ []) ≡ weigh (only m) slot + weigh (only m) (n ∷ []) = weigh-append
    (only m) slot (n ∷ []) in
    ap (λ (k : ℕ). k % window) (sym (weighs_only n m (n == m) refl (omega arith)))

-- after an event that may happen each item in a slot has that slot
pub placed_kept : (size : PoolSize) (w : World) (event : Event) → IsTrue (is_enabled size w event) → IsSized size w
    → IsPlaced size w → IsPlaced size (after_event size w event)
placed_kept size w (Event.Take k) e s h = by_job (IsPlaced size) size w k w.jobs h (λ n rest. h) (λ rest. h)
placed_kept size w Event.Arrive e s h =
    by_done (IsPlaced size) size w w.dones h
    (λ n rest. set_placed size.window w.slots (n % size.window) (slot_of size w n ++ n ∷ [])
    (slot_within size w n s) h
    (λ m here. joins_at size.window (slot_of size w n) n m (h (n % size.window) m)
    (cases_lt 0 (weigh (only m) (slot_of size w n))) here)) (λ rest. h)
placed_kept size w Event.Release e s h =
    set_placed size.window w.slots (w.released % size.window) (without w.released (slot_of size w w.released))
    (slot_within size w w.released s) h
    (λ m here. h (w.released % size.window) m (omega
    (arith, without_le (only m) w.released (slot_of size w w.released))))
placed_kept size w Event.Write e s h = by_piece (IsPlaced size) size w w.lane h (λ n rest. h)
placed_kept size w event e s h = h

-- at first there is no item in a slot that hasn't that slot
pub placed_first : (size : PoolSize) → IsPlaced size (opening size)
placed_first size i m here =
    let none : weigh (only m) (get_or (replicate size.window []) i []) ≡ 0 = ap (weigh (only m))
    (get_or_replicate size.window i []) in
    absurd (omega arith)

-- two numbers of one window that have one slot are one number
pub near : (window low high m n : ℕ) → low ≤ m → low ≤ n → m < high → n < high → high ≤ low + window
    → m % window ≡ n % window → m ≡ n
near window low high m n a b c d e f =
    ⊎_elim (λ (lt : m < n). one_turn m n window (omega arith) (omega arith) f)
    (λ (le : n ≤ m). sym (one_turn n m window le (omega arith) (sym f))) (cases_lt m n)

-- a list with one number alone, once, is no longer than one
pub is_short : (xs : List ℕ) → ((m n : ℕ) → 0 < weigh (only m) xs → 0 < weigh (only n) xs → m ≡ n)
    → ((m : ℕ) → weigh (only m) xs ≤ 1) → length xs ≤ 1
is_short [] one most = omega arith
is_short (x ∷ []) one most = omega arith
is_short (x ∷ y ∷ rest) one most =
    let first : only x x ≡ 1 = only_itself x in
    let second : only y y ≡ 1 = only_itself y in
    let same : y ≡ x = one y x (omega arith) (omega arith) in
    let again : only x y ≡ 1 = ap (only x) same ∙ first in
    absurd (omega (arith, most x))
