-- Targets, byte by byte and instruction by instruction.
use Rattle.svndiff.proofs.Prelude.{List, None, Some, [], ap, arith, drop, drop-append-le, get_or, get_or-drop, get_or_read, length, nat_tests, none-some, refl, slice_index, suc, sym, true, zero, ℕ, ◌++◌, ◌+◌, ◌-◌, ◌<◌, ◌==◌, ◌∙◌, ◌∷◌, ◌≡◌, ◌≤◌}
use Rattle.svndiff.specs.Svndiff.{Instruction, Target, copied_on, instruction_at, is_applicable, applied, target_by}

-- one byte more is copied
pub copied_more : (size next offset : ℕ) (made : List ℕ) → next < size
    → copied_on (size - next) (offset + next) made
    ≡ copied_on (size - (next + 1)) (offset + (next + 1)) (made ++ slice_index made (offset + next) ∷ [])
copied_more size next offset made more =
    let left : size - next ≡ suc (size - (next + 1)) = omega arith in
    let behind : (offset + next) + 1 ≡ offset + (next + 1) = omega arith in
    rw left (ap (λ n. copied_on (size - (next + 1)) n (made ++ slice_index made (offset + next) ∷ [])) behind)

-- the same in a text, of which the target is the end
pub copied_in : (size next offset start byte : ℕ) (text : List ℕ) → next < size → start + offset + next < length text
    → byte ≡ get_or text (start + offset + next) byte
    → copied_on (size - (next + 1)) (offset + (next + 1)) (drop start (text ++ byte ∷ []))
    ≡ copied_on (size - next) (offset + next) (drop start text)
copied_in size next offset start byte text more within is =
    let order : start ≤ length text = omega arith in
    let place : start + (offset + next) ≡ start + offset + next = omega arith in
    let same : byte ≡ slice_index (drop start text) (offset + next) =
    get_or_read text (start + offset + next) byte within is 0 ∙ sym (get_or-drop start text (offset + next) 0 ∙ ap (λ n. get_or text n 0) place) in
    rw (drop-append-le start text (byte ∷ []) order)
    (ap (λ b. copied_on (size - (next + 1)) (offset + (next + 1)) (drop start text ++ b ∷ [])) same
    ∙ sym (copied_more size next offset (drop start text) more))

-- the targets of what follows an instruction, at most so many of them
abbrev pub Follows : (most : ℕ) (view : List ℕ) (all : ℕ) (bs rest : List ℕ) (t after : Target) → Type 0
Follows most view all bs rest t after =
    (left : ℕ) × (length rest ≤ left) × (target_by left view all rest after ≡ target_by most view all bs t)

-- an instruction that is applied
pub one_applied : (most : ℕ) (view : List ℕ) (all : ℕ) (bs rest : List ℕ) (i : Instruction) (t after : Target)
    → length bs ≤ most → length rest < length bs → instruction_at bs ≡ Some (i, rest) → is_applicable view all i t ≡ true
    → after ≡ applied view i t → Follows most view all bs rest t after
one_applied most view all [] rest i t after few shorter read can is = absurd (none-some _ read)
one_applied zero view all (b ∷ bs) rest i t after few shorter read can is = absurd (omega (arith, few))
one_applied (suc most) view all (b ∷ bs) rest i t after few shorter read can is =
    (most, omega (arith, few, shorter), rw (read, can, is) refl)

-- one that can't be read
pub one_unread : (most : ℕ) (view : List ℕ) (all : ℕ) (bs : List ℕ) (t : Target) → 0 < length bs → instruction_at bs ≡ None
    → target_by most view all bs t ≡ None
one_unread most view all [] t some unread = absurd (omega (arith, some))
one_unread zero view all (b ∷ bs) t some unread = refl
one_unread (suc most) view all (b ∷ bs) t some unread = rw unread refl

-- nothing is left to read: the target is made, or it is not as stated
pub all_done : (most : ℕ) (view : List ℕ) (all : ℕ) (bs : List ℕ) (t : Target) → length bs ≡ 0 → length t.made ≡ all
    → length t.unused ≡ 0 → target_by most view all bs t ≡ Some t.made
all_done most view all [] t none full used =
    let one : (length t.made == all) ≡ true = grind (arith, nat_tests, full) in
    let other : (length t.unused == 0) ≡ true = grind (arith, nat_tests, used) in
    rw (one, other) refl
all_done most view all (b ∷ bs) t none full used = absurd (omega (arith, none))
