-- Digits, one more at a time.
use Rattle.dump_text.proofs.Prelude.{◌≡◌, ℕ, ◌+◌, ◌-◌, ◌*◌, ◌/◌, ◌%◌, ◌<◌, ◌≤◌, ◌^◌, true, List, [], ◌∷◌, ◌++◌, take, drop, set, length, get_or, decimal, refl, sym, ap, ◌∙◌, arith, suc, list_all, is_ascii_digit, digit_value, digits_value, digits_value_more, list_all_more, drop-set, decimal_step, decimal_digit, pow-succ'}
use Rattle.std.proofs.lemmas.List.{append_assoc}

pub digit_is : (c : ℕ) → is_ascii_digit c ≡ true → digit_value c ≡ c - 48
digit_is c h = grind arith

-- a number with one more digit is ten times itself and the digit
pub value_more : (bytes : List ℕ) (i c : ℕ) → i < length bytes → get_or bytes i 0 ≡ c → is_ascii_digit c ≡ true
    → digits_value 10 (take i bytes) * 10 + (c - 48) ≡ digits_value 10 (take (i + 1) bytes)
value_more bytes i c below is digit =
    let one = digits_value_more 10 bytes i below in
    sym (one ∙ ap (λ n. digits_value 10 (take i bytes) * 10 + digit_value n) is
    ∙ ap (λ n. digits_value 10 (take i bytes) * 10 + n) (digit_is c digit))

-- digits and one more are digits
pub digits_more : (bytes : List ℕ) (i c : ℕ) → i < length bytes → get_or bytes i 0 ≡ c → is_ascii_digit c ≡ true
    → list_all is_ascii_digit (take i bytes) ≡ true → list_all is_ascii_digit (take (i + 1) bytes) ≡ true
digits_more bytes i c below is digit before =
    let more = list_all_more is_ascii_digit bytes i 0 below in
    more ∙ rw (before, is, digit) refl

-- a number of this many digits, with one more, stays below the next power of ten
pub small_more : (v d i : ℕ) → v < 10 ^ i → d ≤ 9 → v * 10 + d < 10 ^ (i + 1)
small_more v d i small one = let e : 10 ^ (suc i) ≡ 10 * 10 ^ i = pow-succ' 10 i in grind (arith, e)

-- without its last digit a number has one digit less
pub tenth : (n k : ℕ) → n < 10 ^ (k + 1) → 0 < k → n / 10 < 10 ^ k
tenth n k small some = let e : 10 ^ (suc k) ≡ 10 * 10 ^ k = pow-succ' 10 k in grind (arith, e)

-- a number of one digit is below ten
pub one_digit : (n k : ℕ) → n < 10 ^ (k + 1) → k ≤ 0 → n < 10
one_digit n k small none = let e : k + 1 ≡ 1 = omega arith in let f : 10 ^ (k + 1) ≡ 10 = ap
    (λ (m : ℕ). 10 ^ m) e in omega arith

-- one more digit of a number is written in front of those that are already written
pub spelled_more : (n left start : ℕ) (bytes : List ℕ) → 10 ≤ left → left < 2 ^ 64 → start < length bytes
    → decimal n ≡ decimal left ++ drop (start + 1) bytes
    → decimal n ≡ decimal (left / 10) ++ drop start (set bytes start (48 + left % 10))
spelled_more n left start bytes ten bound below before =
    before ∙ ap (λ t. t ++ drop (start + 1) bytes) (decimal_step left ten bound)
    ∙ append_assoc (decimal (left / 10)) ((48 + left % 10) ∷ []) (drop (start + 1) bytes)
    ∙ ap (λ t. decimal (left / 10) ++ t) (sym (drop-set bytes start (48 + left % 10) below))

-- the last one is
pub spelled_last : (n left start : ℕ) (bytes : List ℕ) → left < 10 → start < length bytes
    → decimal n ≡ decimal left ++ drop (start + 1) bytes
    → drop start (set bytes start (48 + left % 10)) ≡ decimal n
spelled_last n left start bytes one below before =
    let rest : left % 10 ≡ left = omega arith in
    drop-set bytes start (48 + left % 10) below
    ∙ ap (λ d. (48 + d) ∷ drop (start + 1) bytes) rest
    ∙ ap (λ t. t ++ drop (start + 1) bytes) (sym (decimal_digit left one))
    ∙ sym before

-- a digit is at most nine
pub digit_small : (c : ℕ) → is_ascii_digit c ≡ true → c - 48 ≤ 9
digit_small c h = grind arith
