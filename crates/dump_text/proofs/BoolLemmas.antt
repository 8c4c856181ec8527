-- Both, either and not, and when numbers are equal.
use Rattle.std.proofs.Common.{◌≡◌, ℕ, ◌<◌, ◌==◌, arith, Bool, true, false, not, ◌&&◌, ◌||◌, refl}

-- where both hold, the first holds
pub first_true : (a b : Bool) → (a && b) ≡ true → a ≡ true
first_true true b h = refl
first_true false b h = cc

-- where both hold, the second holds
pub second_true : (a b : Bool) → (a && b) ≡ true → b ≡ true
second_true true b h = h
second_true false b h = cc

-- where neither holds, the first doesn't
pub first_false : (a b : Bool) → (a || b) ≡ false → a ≡ false
first_false true b h = h
first_false false b h = refl

-- where neither holds, the second doesn't
pub second_false : (a b : Bool) → (a || b) ≡ false → b ≡ false
second_false true b h = cc
second_false false b h = h

-- nothing is both true and false
pub absurd_bool : (b : Bool) → b ≡ true → b ≡ false → ⊥
absurd_bool b t f = cc

-- false isn't true
pub false_true : false ≡ true → ⊥
false_true bad = cc

-- a number is equal to itself
pub equals_itself : (n : ℕ) → (n == n) ≡ true
equals_itself n = grind arith

-- numbers of which neither is below the other are one
pub neither_below : (m n : ℕ) → (m < n → ⊥) → (n < m → ⊥) → m ≡ n
neither_below m n p q = grind arith
