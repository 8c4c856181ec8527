-- A text is cut at the first of some byte, or has none.
use Rattle.dump_text.proofs.Prelude.{◌≡◌, ℕ, Bool, true, false, ◌==◌, List, [], ◌∷◌, ◌++◌, refl, ap, eqb-true, has_byte}

-- a text up to the first of these bytes, or without any
pub data Split (b : ℕ) (text : List ℕ) : Type 0 where
  Cut : (front rest : List ℕ) → text ≡ front ++ b ∷ rest → has_byte b front ≡ false → Split b text
  Lacks : has_byte b text ≡ false → Split b text

-- each text has a first place of the byte, or lacks it
pub split : (b : ℕ) (text : List ℕ) → Split b text
split b [] = Lacks refl
split b (c ∷ text) = add b c text (split b text) (c == b) refl
  where
    add : (b c : ℕ) (text : List ℕ) → Split b text → (t : Bool) → (c == b) ≡ t → Split b (c ∷ text)
    add b c text more true is = Cut [] text (let e = eqb-true c b is in cc) refl
    add b c text (Cut front rest cut none) false is = Cut (c ∷ front) rest (ap (λ t. c ∷ t) cut) (rw is none)
    add b c text (Lacks none) false is = Lacks (rw is none)
