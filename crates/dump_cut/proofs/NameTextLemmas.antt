-- Names that are joined to a path.
use Rattle.std.proofs.Common.{◌≡◌, ℕ, zero, suc, ◌+◌, ◌<◌, Bool, true, false, cond, List, [], ◌∷◌, ◌++◌, ◌==◌, length, take, filter, get_or, sym, ap, ◌∙◌, arith}
use Rattle.std.proofs.lemmas.Bool.{and_parts}
use Rattle.std.proofs.lemmas.List.{take_more}
use Rattle.std.proofs.lemmas.List.Elements.{filter-append}
use Rattle.std.specs.List.{list_all}
use Rattle.dump_trees.specs.Paths.{is_name, names_of}
use Rattle.dump_trees.specs.Siblings.{is_node_name}
use Rattle.dump_trees.proofs.paths.CanonicalLemmas.{split_joined, split_name}
use Rattle.dump_trees.proofs.paths.PathNames.{split}
use Rattle.dump_trees.proofs.paths.PrefixPaths.{has_no_slash}

-- a name isn't empty, and has no slash
name_parts : (name : List ℕ) → is_node_name name ≡ true → has_no_slash name ≡ true
name_parts name is = (and_parts _ (has_no_slash name) (and_parts (is_name name) _ is).0).1

one_name : (name : List ℕ) → is_node_name name ≡ true → names_of name ≡ name ∷ []
one_name [] is = absurd (let bad : false ≡ true = is in cc)
one_name (b ∷ name) is = split_name (b ∷ name) (name_parts (b ∷ name) is)

-- the names of a text to which a name is added
pub first_pushed : (text name : List ℕ) → (length text == 0) ≡ true → is_node_name name ≡ true
    → names_of (text ++ name) ≡ names_of text ++ name ∷ []
first_pushed [] name none is = one_name name is
first_pushed (b ∷ text) name none is =
    let some : (length (b ∷ text) == 0) ≡ false = grind arith in
    absurd (let bad : false ≡ true = sym some ∙ none in cc)

pub next_pushed : (text name : List ℕ) → (length text == 0) ≡ false → is_node_name name ≡ true
    → names_of ((text ++ 47 ∷ []) ++ name) ≡ names_of text ++ name ∷ []
next_pushed [] name some is = absurd (let bad : true ≡ false = some in cc)
next_pushed (b ∷ text) name some is =
    ap names_of (Rattle.std.proofs.Common.append_assoc (b ∷ text) (47 ∷ []) name)
    ∙ split_joined (b ∷ text) name ∙ ap (λ names. split (b ∷ text) ++ names) (split_name name (name_parts name is))

-- one more name, in the list of the names that pass a test
pub filter_more : (test : List ℕ → Bool) (names : List (List ℕ)) (n : ℕ) (name : List ℕ) (kept : Bool)
    → n < length names → name ≡ get_or names n name → test name ≡ kept
    → filter test (take (n + 1) names) ≡ filter test (take n names) ++ cond kept (name ∷ []) []
filter_more test names n name kept low is passes =
    ap (filter test) (take_more names n name low ∙ ap (λ x. take n names ++ x ∷ []) (sym is))
    ∙ filter-append test (take n names) (name ∷ [])
    ∙ ap (λ b. filter test (take n names) ++ cond b (name ∷ []) []) passes

-- each of some names has no slash
pub name_at : (names : List (List ℕ)) (n : ℕ) (name : List ℕ) → list_all has_no_slash names ≡ true → n < length names
    → name ≡ get_or names n name → has_no_slash name ≡ true
name_at names n name all low is = ap has_no_slash is ∙ at names n name all low
  where
    at : (names : List (List ℕ)) (n : ℕ) (d : List ℕ) → list_all has_no_slash names ≡ true → n < length names
        → has_no_slash (get_or names n d) ≡ true
    at [] n d all low = let bad : ⊥ = omega (arith, low) in absurd bad
    at (first ∷ names) zero d all low = (and_parts (has_no_slash first) (list_all has_no_slash names) all).0
    at (first ∷ names) (suc n) d all low =
        at names n d (and_parts (has_no_slash first) (list_all has_no_slash names) all).1 (omega (arith, low))
