-- A prefix and a slash at the front of a path.
use Rattle.dump_rules.proofs.Prelude.{◌≡◌, ℕ, Bool, ◌&&◌, ◌||◌, List, [], ◌∷◌, ◌++◌, take, drop, length, map, nat_eq, bytes_eq, refl, sym, ap, ◌∙◌, arith, starts_with, list_any, and-true, and_assoc, has_slash_first}

eq_sym : (a b : ℕ) → nat_eq a b ≡ nat_eq b a
eq_sym a b = grind arith

-- a path begins with a prefix and a slash where it begins with the prefix and a slash comes next
pub slash_behind : (prefix path : List ℕ)
    → starts_with nat_eq path (prefix ++ 47 ∷ []) ≡
    (bytes_eq (take (length prefix) path) prefix && has_slash_first (drop (length prefix) path))
slash_behind [] [] = refl
slash_behind [] (b ∷ path) = and-true (nat_eq 47 b) ∙ eq_sym 47 b
slash_behind (a ∷ prefix) [] = refl
slash_behind (a ∷ prefix) (b ∷ path) =
    ap (λ t. nat_eq a b && t) (slash_behind prefix path)
    ∙ ap (λ t. t && (bytes_eq (take (length prefix) path) prefix && has_slash_first (drop (length prefix) path)))
    (eq_sym a b)
    ∙ sym (and_assoc (nat_eq b a) (bytes_eq (take (length prefix) path) prefix) _)

-- a mapped list has an element that passes if the list has one whose image passes
pub any_mapped : {X Y : Type 0} (f : X → Y) (p : Y → Bool) (xs : List X) → list_any p (map f xs) ≡ list_any
    (λ x. p (f x)) xs
any_mapped f p [] = refl
any_mapped f p (x ∷ xs) = ap (λ b. p (f x) || b) (any_mapped f p xs)
