-- Texts, window by window.
use Rattle.svndiff.proofs.Prelude.{List, None, Option, Some, [], ap, arith, bytes_eq, bytes_eq-Decides, drop, drop-take, length, refl, suc, sym, take, true, zero, ℕ, ◌++◌, ◌+◌, ◌-◌, ◌<◌, ◌∙◌, ◌∷◌, ◌≡◌, ◌≤◌}
use Rattle.svndiff.specs.Svndiff.{Source, Window, patch, slid, text_from, window_at}
use Rattle.svndiff.specs.declared.error.NotApplied.{NotApplied}
use Rattle.svndiff.specs.declared.error.NotApplied.TheVariants as errors
use Rattle.svndiff.specs.declared.windows.Window as rust_window
use Rattle.svndiff.specs.steps.Readings.{Says, between, target_from}

-- a window that is read, has its source view, and makes its target
pub one_window : (most : ℕ) (made bs rest target : List ℕ) (s seen : Source) (w : Window) → length bs ≤ most
    → length rest < length bs → window_at bs ≡ Some (w, rest) → slid w.offset w.source_size s ≡ Some seen
    → target_from (take w.source_size seen.held) w.target_size w.instructions w.new_data ≡ Some target
    → (left : ℕ) × (length rest ≤ left) × (text_from left (made ++ target) seen rest ≡ text_from most made s bs)
one_window most made [] rest target s seen w few shorter read sees makes = absurd (omega (arith, shorter))
one_window zero made (b ∷ bs) rest target s seen w few shorter read sees makes = absurd (omega (arith, few))
one_window (suc most) made (b ∷ bs) rest target s seen w few shorter read sees makes =
    (most, omega (arith, few, shorter), rw (read, sees, makes) refl)

-- one that can't be read
pub unread_window : (most : ℕ) (made bs : List ℕ) (s : Source) → 0 < length bs → window_at bs ≡ None
    → text_from most made s bs ≡ None
unread_window most made [] s some unread = absurd (omega (arith, some))
unread_window zero made (b ∷ bs) s some unread = refl
unread_window (suc most) made (b ∷ bs) s some unread = rw unread refl

-- one that doesn't have its source view
pub unseen_window : (most : ℕ) (made bs rest : List ℕ) (s : Source) (w : Window) → 0 < length bs
    → window_at bs ≡ Some (w, rest) → slid w.offset w.source_size s ≡ None → text_from most made s bs ≡ None
unseen_window most made [] rest s w some read lost = absurd (omega (arith, some))
unseen_window zero made (b ∷ bs) rest s w some read lost = refl
unseen_window (suc most) made (b ∷ bs) rest s w some read lost = rw (read, lost) refl

-- one that doesn't make its target
pub unmade_window : (most : ℕ) (made bs rest : List ℕ) (s seen : Source) (w : Window) → 0 < length bs
    → window_at bs ≡ Some (w, rest) → slid w.offset w.source_size s ≡ Some seen
    → target_from (take w.source_size seen.held) w.target_size w.instructions w.new_data ≡ None → text_from most made s bs ≡ None
unmade_window most made [] rest s seen w some read sees lost = absurd (omega (arith, some))
unmade_window zero made (b ∷ bs) rest s seen w some read sees lost = refl
unmade_window (suc most) made (b ∷ bs) rest s seen w some read sees lost = rw (read, sees, lost) refl

-- the bytes from a place on, of those up to another
pub up_to : (xs : List ℕ) (from to : ℕ) → from ≤ to → drop from (take to xs) ≡ between xs from to
up_to xs from to order =
    let whole : from + (to - from) ≡ to = omega arith in
    ap (λ n. drop from (take n xs)) (sym whole) ∙ drop-take from (to - from) xs

-- an error is as right about a text that isn't there if another isn't
pub says_on : (e : NotApplied) (one other : Option (List ℕ)) → (one ≡ None → other ≡ None) → Says e one → Says e other
says_on errors.Memory one other lost says = tt
says_on (errors.Broken defect place) one other lost says = lost says

-- the target of a window, from its parts in a delta
pub target_stated : (delta view : List ℕ) (w : rust_window.Window) (seen : Source) → w.instructions ≤ w.new_data
    → view ≡ take w.source_size seen.held
    → target_from view w.target_size (drop w.instructions (take w.new_data delta)) (between delta w.new_data w.after)
    ≡ target_from (take w.source_size seen.held) w.target_size (between delta w.instructions w.new_data) (between delta w.new_data w.after)
target_stated delta view w seen order sees =
    ap (λ (v : List ℕ). target_from v w.target_size (drop w.instructions (take w.new_data delta)) (between delta w.new_data w.after)) sees
    ∙ ap (λ (ins : List ℕ). target_from (take w.source_size seen.held) w.target_size ins (between delta w.new_data w.after))
    (up_to delta w.instructions w.new_data order)

-- a delta that begins as it has to
pub begun : (delta base head : List ℕ) → head ≡ take 4 delta → bytes_eq head (83 ∷ 86 ∷ 78 ∷ 0 ∷ []) ≡ true
    → (length head ≡ 4) × (text_from (length delta) [] record { offset = 0; held = []; unread = base } (drop 4 delta) ≡ patch delta base)
begun delta base head is same =
    let magic : head ≡ 83 ∷ 86 ∷ 78 ∷ 0 ∷ [] = (bytes_eq-Decides head (83 ∷ 86 ∷ 78 ∷ 0 ∷ [])).0 same in
    let test : bytes_eq (take 4 delta) (83 ∷ 86 ∷ 78 ∷ 0 ∷ []) ≡ true = rw (← is) same in (
      ap length magic,
      rw test refl,
    )
