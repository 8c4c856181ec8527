-- Parent directories are in parent directories only.
use Rattle.dump_trees.proofs.Prelude.{◌≡◌, not, cond, nat_eq, refl, sym, ap, ◌∙◌, subst, inl, inr, append_assoc, list_any, starts_with, and_parts, and_from, or_cases, or_left, or_right, Side, Include, Exclude, bare_prefix, Settings, side_keeps, NodePath, path_text, Node, HasDirectories, is_directory_node, is_above, is_above_some, is_given, given}
use Rattle.std.proofs.Common.{ℕ, Bool, true, false, ◌&&◌, List, [], ◌∷◌, ◌++◌, Some, None}
use Rattle.dump_trees.proofs.paths.KeptPaths.{path_text-append, matched, matched_below}

-- a text that starts with a front and more starts with the front
starts_less : (text front more : List ℕ) → starts_with nat_eq text (front ++ more) ≡ true
    → starts_with nat_eq text front ≡ true
starts_less [] [] more is = refl
starts_less (b ∷ text) [] more is = refl
starts_less [] (c ∷ front) more is = is
starts_less (b ∷ text) (c ∷ front) more is =
    let parts = and_parts (nat_eq c b) (starts_with nat_eq text (front ++ more)) is in
    and_from (nat_eq c b) (starts_with nat_eq text front) parts.0 (starts_less text front more parts.1)

-- a path above one that is above a prefix is above the prefix
above_less : (prefix : List ℕ) (top : NodePath) (name : List ℕ) (rest : NodePath)
    → is_above (top ++ name ∷ rest) prefix ≡ true → is_above top prefix ≡ true
above_less prefix top name rest is =
    starts_less (47 ∷ bare_prefix prefix) (path_text top ++ 47 ∷ []) behind
    (subst (λ t. starts_with nat_eq (47 ∷ bare_prefix prefix) t ≡ true) same is)
  where
    behind : List ℕ
    behind = (name ++ path_text rest) ++ 47 ∷ []

    same : path_text (top ++ name ∷ rest) ++ 47 ∷ [] ≡ (path_text top ++ 47 ∷ []) ++ behind
    same = ap (λ t. t ++ 47 ∷ []) (path_text-append top (name ∷ rest))
        ∙ (append_assoc (path_text top) (47 ∷ name ++ path_text rest) (47 ∷ [])
        ∙ sym (append_assoc (path_text top) (47 ∷ []) behind))

some_less : (prefixes : List (List ℕ)) (top : NodePath) (name : List ℕ) (rest : NodePath)
    → list_any (λ prefix. is_above (top ++ name ∷ rest) prefix) prefixes ≡ true
    → list_any (λ prefix. is_above top prefix) prefixes ≡ true
some_less [] top name rest is = is
some_less (prefix ∷ prefixes) top name rest is =
    elim (or_cases (is_above (top ++ name ∷ rest) prefix)
    (list_any (λ other. is_above (top ++ name ∷ rest) other) prefixes) is) [
      | inl here ↦ or_left _ _ (above_less prefix top name rest here)
      | inr there ↦ or_right (is_above top prefix) _ (some_less prefixes top name rest there)
    ]

given_above : (side : Side) (prefixes : List (List ℕ)) (top : NodePath) (name : List ℕ) (rest : NodePath)
    → (not (side_keeps side (matched prefixes (top ++ name ∷ rest)))
    && is_above_some side prefixes (top ++ name ∷ rest))
    ≡ true
    → (not (side_keeps side (matched prefixes top)) && is_above_some side prefixes top) ≡ true
given_above Exclude prefixes top name rest is =
    absurd (let bad : false ≡ true = (and_parts (not (not (matched prefixes (top ++ name ∷ rest)))) false is).1 in cc)
given_above Include prefixes top name rest is =
    and_from (not (matched prefixes top)) (list_any (λ prefix. is_above top prefix) prefixes)
    (cases (matched prefixes top) refl) (some_less prefixes top name rest parts.1)
  where
    parts : (not (matched prefixes (top ++ name ∷ rest)) ≡ true)
        × (list_any (λ prefix. is_above (top ++ name ∷ rest) prefix) prefixes ≡ true)
    parts = and_parts (not (matched prefixes (top ++ name ∷ rest)))
        (list_any (λ prefix. is_above (top ++ name ∷ rest) prefix) prefixes) is

    cases : (b : Bool) → matched prefixes top ≡ b → not (matched prefixes top) ≡ true
    cases true kept =
        absurd (let bad : false ≡ true = sym (ap not (matched_below prefixes top (name ∷ rest) kept)) ∙ parts.0 in cc)
    cases false left = ap not left

top_given : (settings : Settings) (top : NodePath) (name : List ℕ) (rest : NodePath)
    → is_given settings (top ++ name ∷ rest) ≡ true → is_given settings top ≡ true
top_given settings [] name rest is = refl
top_given settings (first ∷ top) name rest is =
    given_above settings.side settings.prefixes (first ∷ top) name rest is

-- each parent directory but the root is in parent directories only
pub given_directories : (settings : Settings) → HasDirectories (given settings)
given_directories settings top name rest node at =
    ap (λ b. is_directory_node (cond b (Some (Node.Directory [])) None))
    (top_given settings top name rest (is_there (is_given settings (top ++ name ∷ rest)) at))
  where
    is_there : (b : Bool) → cond b (Some (Node.Directory [])) None ≡ Some node → b ≡ true
    is_there true at = refl
    is_there false at = absurd (let bad : None ≡ Some node = at in cc)
