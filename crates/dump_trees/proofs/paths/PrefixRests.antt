-- The text of a prefix, split into a path above it and a rest.
use Rattle.dump_trees.proofs.Prelude.{◌≡◌, drop, nat_eq, refl, sym, ap, ap₂, ◌∙◌, subst, inl, inr, append-nil, append_assoc, list_any, starts_with, and_parts, or_cases, or_left, or_right, eqb-true, bare_prefix, bare_path, begins_path, matches_path, NodePath, path_text, is_above, rest_of_prefix}
use Rattle.std.proofs.Common.{ℕ, true, false, List, [], ◌∷◌, ◌++◌, length}
use Rattle.dump_trees.proofs.paths.KeptPaths.{reaches, reaches_more, grows, path_text-append}

-- the empty text, or a text that begins with a slash
abbrev pub IsEnd : List ℕ → Type 0
IsEnd [] = Rattle.std.specs.Prelude.⊤
IsEnd (c ∷ text) = c ≡ 47

-- what reaches a text is its front
reaches_rest : (prefix path : List ℕ) → reaches prefix path ≡ true → (rest : List ℕ) × (path ≡ prefix ++ rest)
    × IsEnd rest
reaches_rest [] [] is = ([], refl, tt)
reaches_rest [] (c ∷ path) is = (c ∷ path, refl, sym (eqb-true 47 c (and_parts (nat_eq 47 c) true is).0))
reaches_rest (b ∷ prefix) [] is = absurd (let bad : false ≡ true = is in cc)
reaches_rest (b ∷ prefix) (c ∷ path) is =
    let parts = and_parts (nat_eq c b) (reaches prefix path) (sym (reaches_more b c prefix path) ∙ is) in
    let rest = reaches_rest prefix path parts.1 in
    (rest.0, ap₂ (λ d text. d ∷ text) (eqb-true c b parts.0) rest.1, rest.2)

starts_rest : (text front : List ℕ) → starts_with nat_eq text front ≡ true → (rest : List ℕ) × (text ≡ front ++ rest)
starts_rest text [] is = (text, refl)
starts_rest [] (c ∷ front) is = absurd (let bad : false ≡ true = is in cc)
starts_rest (b ∷ text) (c ∷ front) is =
    let parts = and_parts (nat_eq c b) (starts_with nat_eq text front) is in
    let rest = starts_rest text front parts.1 in
    (rest.0, ap₂ (λ d t. d ∷ t) (sym (eqb-true c b parts.0)) rest.1)

drop_front : (front rest : List ℕ) → drop (length front) (front ++ rest) ≡ rest
drop_front [] rest = refl
drop_front (b ∷ front) rest = drop_front front rest

-- what follows the same list is the same
pub same_rest : {A : Type 0} (front some others : List A) → front ++ some ≡ front ++ others → some ≡ others
same_rest [] some others is = is
same_rest (b ∷ front) some others is =
    same_rest front some others (let both : b ∷ (front ++ some) ≡ b ∷ (front ++ others) = is in cc)

-- a prefix below a path is the path, a slash and more
pub above_rest : (path : NodePath) (prefix : List ℕ) → is_above path prefix ≡ true
    → (rest : List ℕ) × (47 ∷ bare_prefix prefix ≡ path_text path ++ 47 ∷ rest)
above_rest path prefix is =
    let rest = starts_rest (47 ∷ bare_prefix prefix) (path_text path ++ 47 ∷ []) is in
    (rest.0, rest.1 ∙ append_assoc (path_text path) (47 ∷ []) rest.0)

-- that rest is what is looked up
pub rest_is : (path : NodePath) (prefix rest : List ℕ) → 47 ∷ bare_prefix prefix ≡ path_text path ++ 47 ∷ rest
    → rest_of_prefix path prefix ≡ 47 ∷ rest
rest_is path prefix rest is = ap (drop (length (path_text path))) is ∙ drop_front (path_text path) (47 ∷ rest)

-- a prefix that begins a path is its front
begun_rest : (path : NodePath) (b : ℕ) (prefix : List ℕ) → begins_path (b ∷ prefix) (bare_path (path_text path)) ≡ true
    → (rest : List ℕ) × (path_text path ≡ (47 ∷ b ∷ prefix) ++ rest) × IsEnd rest
begun_rest [] b prefix is = absurd (let bad : false ≡ true = is in cc)
begun_rest (name ∷ path) b prefix is =
    let rest = reaches_rest (b ∷ prefix) (name ++ path_text path) is in
    (rest.0, ap (λ text. 47 ∷ text) rest.1, rest.2)

-- what follows a path in a prefix follows the path that the prefix begins
pub both_rests : (path more : NodePath) (bare rest : List ℕ) → begins_path bare (bare_path (path_text path)) ≡ false
    → begins_path bare (bare_path (path_text (path ++ more))) ≡ true → 47 ∷ bare ≡ path_text path ++ 47 ∷ rest
    → (end : List ℕ) × (path_text more ≡ (47 ∷ rest) ++ end) × IsEnd end
both_rests path more [] rest left begun at = absurd (let bad : true ≡ false = left in cc)
both_rests path more (b ∷ bare) rest left begun at =
    let found = begun_rest (path ++ more) b bare begun in (
      found.0,
      same_rest (path_text path) (path_text more) ((47 ∷ rest) ++ found.0)
          (sym (path_text-append path more) ∙ (found.1 ∙ (ap (λ text. text ++ found.0) at
          ∙ append_assoc (path_text path) (47 ∷ rest) found.0))),
      found.2,
    )

-- a prefix that begins a text begins each longer text
begins_longer : (bare text end : List ℕ) → IsEnd end → begins_path bare text ≡ true
    → begins_path bare (text ++ end) ≡ true
begins_longer [] text end is begun = refl
begins_longer (b ∷ bare) text [] is begun =
    subst (λ t. begins_path (b ∷ bare) t ≡ true) (sym (append-nil text)) begun
begins_longer (b ∷ bare) text (c ∷ end) is begun =
    subst (λ d. begins_path (b ∷ bare) (text ++ d ∷ end) ≡ true) (sym is) (grows (b ∷ bare) text end begun)

matches_longer : (path : NodePath) (prefix rest end : List ℕ) → IsEnd end
    → matches_path prefix (path_text path ++ 47 ∷ rest) ≡ true
    → matches_path prefix (path_text path ++ ((47 ∷ rest) ++ end)) ≡ true
matches_longer [] prefix rest end is some = begins_longer (bare_prefix prefix) rest end is some
matches_longer (name ∷ path) prefix rest end is some =
    subst (λ text. begins_path (bare_prefix prefix) text ≡ true)
    (append_assoc (name ++ path_text path) (47 ∷ rest) end)
    (begins_longer (bare_prefix prefix) ((name ++ path_text path) ++ 47 ∷ rest) end is some)

-- if some prefix matches a text, one matches each longer text
pub any_longer : (path : NodePath) (rest end : List ℕ) → IsEnd end → (prefixes : List (List ℕ))
    → list_any (λ prefix. matches_path prefix (path_text path ++ 47 ∷ rest)) prefixes ≡ true
    → list_any (λ prefix. matches_path prefix (path_text path ++ ((47 ∷ rest) ++ end))) prefixes ≡ true
any_longer path rest end is [] some = some
any_longer path rest end is (prefix ∷ prefixes) some =
    let long = path_text path ++ ((47 ∷ rest) ++ end) in
    elim (or_cases (matches_path prefix (path_text path ++ 47 ∷ rest))
    (list_any (λ other. matches_path other (path_text path ++ 47 ∷ rest)) prefixes) some) [
      | inl here ↦ or_left (matches_path prefix long) (list_any (λ other. matches_path other long) prefixes)
          (matches_longer path prefix rest end is here)
      | inr there ↦ or_right (matches_path prefix long) (list_any (λ other. matches_path other long) prefixes)
          (any_longer path rest end is prefixes there)
    ]
