-- A text that is changed in its middle.
use Rattle.svndiff.proofs.Prelude.{Bool, List, Option, Some, [], add_assoc, ap, append_assoc, arith, drop, drop_all, drop_at, false, length, length-append, nat_le, nat_lt, nat_tests, refl, sym, take, take_all, take_at, true, ℕ, ◌%◌, ◌&&◌, ◌*◌, ◌++◌, ◌+◌, ◌-◌, ◌/◌, ◌<◌, ◌==◌, ◌^◌, ◌||◌, ◌∙◌, ◌∷◌, ◌≡◌, ◌≤◌}
use Rattle.svndiff.specs.Svndiff.{Instruction, Source, Target, Window, go_on, instruction_at, is_applicable, number_from, applied, slid, window_at, window_with}
use Rattle.svndiff.specs.steps.Readings.{target_from}
use Rattle.svndiff.proofs.TargetLemmas.{all_done, one_applied}
use Rattle.svndiff.proofs.TextLemmas.{one_window}
use Rattle.svndiff.specs.DeltaLaws.{MiddlesAreReplaced, new_bytes, source_copy, three_bytes}

-- one step of a number, of a byte that isn't the last, and of the last one
step_on : (read value b high : ℕ) (bs : List ℕ) → read < 10 → (value * 128 + b) % 2 ^ 64 ≡ high → b < 128
    → number_from read value ((128 + b) ∷ bs) ≡ number_from (read + 1) high bs
step_on read value b high bs few is small =
    let one : nat_lt read 10 ≡ true = grind (arith, nat_tests, few) in
    let two : nat_lt (128 + b) 128 ≡ false = grind (arith, nat_tests) in
    let low : (128 + b) % 128 ≡ b = omega arith in
    rw (one, two, low, is) refl

step_end : (read value b high : ℕ) (bs : List ℕ) → read < 10 → (value * 128 + b) % 2 ^ 64 ≡ high → b < 128
    → number_from read value (b ∷ bs) ≡ Some (high, bs)
step_end read value b high bs few is small =
    let one : nat_lt read 10 ≡ true = grind (arith, nat_tests, few) in
    let two : nat_lt b 128 ≡ true = grind (arith, nat_tests, small) in
    let low : b % 128 ≡ b = omega arith in
    rw (one, two, low, is) refl

-- the number that three bytes spell
pub three_read : (n : ℕ) (bs : List ℕ) → n < 2097152 → number_from 0 0 (three_bytes n ++ bs) ≡ Some (n, bs)
three_read n bs small =
    step_on 0 0 (n / 16384) (n / 16384) _ (omega arith) (omega arith) (omega arith)
    ∙ step_on 1 (n / 16384) (n / 128 % 128) (n / 128) _ (omega arith) (omega arith) (omega arith)
    ∙ step_end 2 (n / 128) (n % 128) n bs (omega arith) (omega arith) (omega arith)

-- the parts of a window's head, one after the other
abbrev fifth : (offset source_size target_size size : ℕ) → List ℕ → Option (Window × List ℕ)
fifth offset source_size target_size size bs = go_on (number_from 0 0 bs) (λ news rest. window_with offset source_size target_size size news rest)

abbrev fourth : (offset source_size target_size : ℕ) → List ℕ → Option (Window × List ℕ)
fourth offset source_size target_size bs = go_on (number_from 0 0 bs) (fifth offset source_size target_size)

abbrev third : (offset source_size : ℕ) → List ℕ → Option (Window × List ℕ)
third offset source_size bs = go_on (number_from 0 0 bs) (fourth offset source_size)

abbrev second : (offset : ℕ) → List ℕ → Option (Window × List ℕ)
second offset bs = go_on (number_from 0 0 bs) (third offset)

-- what follows a number in three bytes
goes_on : {X : Type 0} (n : ℕ) (bs : List ℕ) (next : ℕ → List ℕ → Option X) → n < 2097152
    → go_on (number_from 0 0 (three_bytes n ++ bs)) next ≡ next n bs
goes_on n bs next small = ap (λ (read : Option (ℕ × List ℕ)). go_on read next) (three_read n bs small)

-- a head of such numbers
head_read : (offset source_size target_size size news : ℕ) (bs : List ℕ) → offset < 2097152 → source_size < 2097152 → target_size < 2097152
    → size < 2097152 → news < 2097152
    → window_at (three_bytes offset ++ (three_bytes source_size ++ (three_bytes target_size ++ (three_bytes size ++ (three_bytes news ++ bs)))))
    ≡ window_with offset source_size target_size size news bs
head_read offset source_size target_size size news bs one two three four five =
    goes_on offset (three_bytes source_size ++ (three_bytes target_size ++ (three_bytes size ++ (three_bytes news ++ bs)))) second one
    ∙ goes_on source_size (three_bytes target_size ++ (three_bytes size ++ (three_bytes news ++ bs))) (third offset) two
    ∙ goes_on target_size (three_bytes size ++ (three_bytes news ++ bs)) (fourth offset source_size) three
    ∙ goes_on size (three_bytes news ++ bs) (fifth offset source_size target_size) four
    ∙ goes_on news bs (window_with offset source_size target_size size) five

-- a window of which nothing is left
window_read : (ins new : List ℕ) (source_size target_size size : ℕ) → length ins ≡ size → source_size ≤ 102400 → target_size ≤ 102400
    → window_with 0 source_size target_size size (length new) (ins ++ new)
    ≡ Some (record { offset = 0; source_size = source_size; target_size = target_size; instructions = ins; new_data = new }, [])
window_read ins new source_size target_size size is one two =
    let a : nat_le source_size 102400 ≡ true = grind (arith, nat_tests, one) in
    let b : nat_le target_size 102400 ≡ true = grind (arith, nat_tests, two) in
    let all : size + length new ≤ length (ins ++ new) = omega (arith, length-append ins new) in
    let c : nat_le (size + length new) (length (ins ++ new)) ≡ true = grind (arith, nat_tests, all) in
    rw (
      a,
      b,
      c,
      take_at ins new size is,
      drop_at ins new size is,
      take_all (length new) new (omega arith),
      drop_all (length new) new (omega arith),
    ) refl

-- a view of the whole old text
seen_whole : (old : List ℕ) → slid 0 (length old) record { offset = 0; held = []; unread = old }
    ≡ Some record { offset = 0; held = old; unread = [] }
seen_whole old =
    let none : length old - 0 ≡ length old = omega arith in
    let fits : ((length old == 0) || nat_le 0 (length old)) ≡ true = grind (arith, nat_tests) in
    let all : nat_le (length old) (length old) ≡ true = grind (arith, nat_tests) in
    rw (none, fits, all, take_all (length old) old (omega arith), drop_all (length old) old (omega arith)) refl

-- a copy from the source view, and new data
copy_read : (size offset : ℕ) (rest : List ℕ) → size < 2097152 → offset < 2097152
    → instruction_at (source_copy size offset ++ rest) ≡ Some (Instruction.FromSource size offset, rest)
copy_read size offset rest one two =
    goes_on size (three_bytes offset ++ rest)
    (λ n bs. go_on (number_from 0 0 bs) (λ at others. Some (Instruction.FromSource n at, others))) one
    ∙ goes_on offset rest (λ at others. Some (Instruction.FromSource size at, others)) two

new_read : (size : ℕ) (rest : List ℕ) → size < 2097152
    → instruction_at (new_bytes size ++ rest) ≡ Some (Instruction.New size, rest)
new_read size rest one = goes_on size rest (λ n others. Some (Instruction.New n, others)) one

-- a test of three parts
both : (a b c : Bool) → a ≡ true → b ≡ true → c ≡ true → ((a && b) && c) ≡ true
both a b c one two three = rw (one, two, three) refl

-- the instructions of a change in the middle
abbrev middle_ins : (first gone last news : ℕ) → List ℕ
middle_ins first gone last news = source_copy first 0 ++ (new_bytes news ++ source_copy last (first + gone))

-- what they make
middle_target : (front middle new end : List ℕ) → 0 < length front → 0 < length new → 0 < length end
    → length front + length middle + length end ≤ 102400 → length front + length new + length end ≤ 102400
    → target_from (front ++ (middle ++ end)) (length front + length new + length end)
    (middle_ins (length front) (length middle) (length end) (length new)) new
    ≡ Some (front ++ (new ++ end))
middle_target front middle new end one two three old_fits new_fits =
    let view : List ℕ = front ++ (middle ++ end) in
    let all : ℕ = length front + length new + length end in
    let last : List ℕ = source_copy (length end) (length front + length middle) in
    let behind : List ℕ = new_bytes (length new) ++ last in
    let whole : length view ≡ length front + (length middle + length end) =
    length-append front (middle ++ end) ∙ ap (λ n. length front + n) (length-append middle end) in
    let t0 : Target = record { made = []; unused = new } in
    let t1 : Target = record { made = front; unused = new } in
    let t2 : Target = record { made = front ++ new; unused = [] } in
    let t3 : Target = record { made = (front ++ new) ++ end; unused = [] } in
    let can1 : is_applicable view all (Instruction.FromSource (length front) 0) t0 ≡ true =
    both (nat_lt 0 (length front)) (nat_le (0 + length front) all) (nat_le (0 + length front) (length view))
    (grind (arith, nat_tests, one)) (grind (arith, nat_tests)) (grind (arith, nat_tests, whole)) in
    let is1 : t1 ≡ applied view (Instruction.FromSource (length front) 0) t0 =
    ap (λ (made : List ℕ). record { made = made; unused = new }) (sym (take_at front (middle ++ end) (length front) refl)) in
    let can2 : is_applicable view all (Instruction.New (length new)) t1 ≡ true =
    both (nat_lt 0 (length new)) (nat_le (length front + length new) all) (nat_le (length new) (length new))
    (grind (arith, nat_tests, two)) (grind (arith, nat_tests)) (grind (arith, nat_tests)) in
    let is2 : t2 ≡ applied view (Instruction.New (length new)) t1 =
    rw (take_all (length new) new (omega arith), drop_all (length new) new (omega arith)) refl in
    let so_far : length (front ++ new) ≡ length front + length new = length-append front new in
    let can3 : is_applicable view all (Instruction.FromSource (length end) (length front + length middle)) t2 ≡ true =
    both (nat_lt 0 (length end)) (nat_le (length (front ++ new) + length end) all)
    (nat_le (length front + length middle + length end) (length view))
    (grind (arith, nat_tests, three)) (grind (arith, nat_tests, so_far)) (grind (arith, nat_tests, whole)) in
    let ends : drop (length front + length middle) view ≡ end =
    ap (drop (length front + length middle)) (sym (append_assoc front middle end))
    ∙ drop_at (front ++ middle) end (length front + length middle) (length-append front middle) in
    let is3 : t3 ≡ applied view (Instruction.FromSource (length end) (length front + length middle)) t2 =
    rw (ends, take_all (length end) end (omega arith)) refl in
    let (m1, few1, same1) = one_applied 18 view all (middle_ins (length front) (length middle) (length end) (length new)) behind
    (Instruction.FromSource (length front) 0) t0 t1 (omega arith) (omega arith)
    (copy_read (length front) 0 behind (omega arith) (omega arith)) can1 is1 in
    let (m2, few2, same2) = one_applied m1 view all behind last (Instruction.New (length new)) t1 t2 few1 (omega arith)
    (new_read (length new) last (omega arith)) can2 is2 in
    let (m3, few3, same3) = one_applied m2 view all last [] (Instruction.FromSource (length end) (length front + length middle)) t2 t3
    few2 (omega arith) (copy_read (length end) (length front + length middle) [] (omega arith) (omega arith)) can3 is3 in
    let made : length ((front ++ new) ++ end) ≡ all = length-append (front ++ new) end ∙ ap (λ n. n + length end) so_far in
    sym (same3 ∙ same2 ∙ same1) ∙ all_done m3 view all [] t3 refl made refl
    ∙ ap (λ (xs : List ℕ). Some xs) (append_assoc front new end)

pub middles_are : MiddlesAreReplaced
middles_are front middle new end one two three old_fits new_fits =
    let old : List ℕ = front ++ (middle ++ end) in
    let size : length old ≡ length front + length middle + length end =
    length-append front (middle ++ end) ∙ ap (λ n. length front + n) (length-append middle end)
    ∙ sym (add_assoc (length front) (length middle) (length end)) in
    let ins : List ℕ = middle_ins (length front) (length middle) (length end) (length new) in
    let makes : ℕ = length front + length new + length end in
    let bs : List ℕ = three_bytes 0 ++ (three_bytes (length front + length middle + length end) ++ (three_bytes makes
    ++ (three_bytes 18 ++ (three_bytes (length new) ++ (ins ++ new))))) in
    let w : Window = record { offset = 0; source_size = length front + length middle + length end; target_size = makes; instructions = ins; new_data = new } in
    let read : window_at bs ≡ Some (w, []) =
    head_read 0 (length front + length middle + length end) makes 18 (length new) (ins ++ new) (omega arith) (omega arith)
    (omega arith) (omega arith) (omega arith)
    ∙ window_read ins new (length front + length middle + length end) makes 18 refl old_fits new_fits in
    let s0 : Source = record { offset = 0; held = []; unread = old } in
    let seen : Source = record { offset = 0; held = old; unread = [] } in
    let sees : slid 0 (length front + length middle + length end) s0 ≡ Some seen =
    ap (λ n. slid 0 n s0) (sym size) ∙ seen_whole old in
    let target : target_from (take (length front + length middle + length end) old) makes ins new ≡ Some (front ++ (new ++ end)) =
    ap (λ (v : List ℕ). target_from v makes ins new)
    (take_all (length front + length middle + length end) old (omega (arith, size)))
    ∙ middle_target front middle new end one two three old_fits new_fits in
    let (left, few, same) = one_window (length (83 ∷ 86 ∷ 78 ∷ 0 ∷ bs)) [] bs [] (front ++ (new ++ end)) s0 seen w (omega arith) (omega arith) read sees target in
    sym same
