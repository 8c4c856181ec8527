-- Numbers of a delta.
use Rattle.svndiff.proofs.Prelude.{List, None, [], arith, false, nat_lt, nat_tests, refl, ℕ, ◌∷◌, ◌≡◌, ◌≤◌}
use Rattle.svndiff.specs.Svndiff.{number_from}

-- after ten bytes no number ends
pub too_long : (read value : ℕ) (bs : List ℕ) → 10 ≤ read → number_from read value bs ≡ None
too_long read value [] many = refl
too_long read value (b ∷ bs) many =
    let is : nat_lt read 10 ≡ false = grind (arith, nat_tests, many) in
    rw is
