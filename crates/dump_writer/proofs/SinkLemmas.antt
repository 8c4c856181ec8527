-- Lemmas on bytes that are taken in turn, and on their count.
use Rattle.std.proofs.Common.{◌≡◌, ℕ, ◌+◌, ◌-◌, ◌^◌, ◌≤◌, ◌++◌, min, List, Option, length, take, drop, arith, length-append, length-drop, sym, ap, ◌∙◌, subst}
use Rattle.std.proofs.lemmas.List.{take-append-drop, take-take, drop-take, length-take, take_rest}
use Rattle.std.specs.Io.KnownBytes.{Appends, GrowsBy}
use Rattle.std.proofs.KnownBytes.{Appends-trans}

-- the first bytes, and then some of the others
pub take-add : (n m : ℕ) (xs : List ℕ) → take (n + m) xs ≡ take n xs ++ take m (drop n xs)
take-add n m xs =
    sym (take-append-drop n (take (n + m) xs)) ∙ ap (λ t. t ++ drop n (take (n + m) xs))
    (take-take n (n + m) xs (omega arith))
    ∙ ap (λ t. take n xs ++ t) (drop-take n m xs)

-- the first bytes were taken, and then some of the others
pub Appends-take_add : (a b c : Option (List ℕ)) (n m : ℕ) (xs : List ℕ) → n ≤ length xs
    → m ≤ length (take (length xs - n) (drop n xs)) → Appends a b (take n xs)
    → Appends b c (take m (take (length xs - n) (drop n xs)))
    → (n + m ≤ length xs) × Appends a c (take (n + m) xs)
Appends-take_add a b c n m xs inside most first second = (
  omega (arith, length-drop n xs, rw take_rest at most),
  subst (Appends a c) (sym (take-add n m xs)) (Appends-trans a b c _ _ first (rw take_rest at second)),
)

-- a count of bytes grows by those that were taken, and stops at the greatest number
pub GrowsBy-more : (a b c : Option (List ℕ)) (n m k : ℕ) (xs : List ℕ) → m ≤ length xs → k ≡ min (n + m) (2 ^ 64 - 1)
    → GrowsBy a b n → Appends b c (take m xs) → GrowsBy a c k
GrowsBy-more a b c n m k xs inside sum grown more = (
  grown.0 ++ take m xs,
  Appends-trans a b c _ _ grown.1 more,
  omega
      (arith, sum, grown.2, length-append grown.0 (take m xs), length-take m xs),
)
