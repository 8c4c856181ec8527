-- The path that a prefix names in canonical form.
use Rattle.dump_trees.proofs.Prelude.{◌≡◌, not, cond, nat_eq, refl, ap, ◌∙◌, filter, onto_first, and_parts, and_from, not-true, NodePath, path_text, path_of, names_of}
use Rattle.std.proofs.Common.{ℕ, Bool, true, false, List, [], ◌∷◌, ◌++◌}
use Rattle.dump_trees.specs.Siblings.{is_node_name, has_node_names}
use Rattle.dump_trees.specs.CanonicalPaths.{canonical_path}
use Rattle.dump_trees.specs.steps.CanonicalPaths.{CanonicalPathsHaveNames, ShortPathsAreCanonical}
use Rattle.dump_trees.proofs.paths.PathNames.{split, split_text}
use Rattle.dump_trees.proofs.paths.PrefixPaths.{has_no_slash}
use Rattle.dump_trees.proofs.paths.SiblingLemmas.{short_names}

-- joined texts

onto_joined : (b : ℕ) (names others : NodePath) (text : List ℕ) → path_text names ≡ 47 ∷ text
    → onto_first b (names ++ others) ≡ onto_first b names ++ others
onto_joined b [] others text is = absurd (let bad : [] ≡ 47 ∷ text = is in cc)
onto_joined b (name ∷ names) others text is = refl

pub split_joined : (front behind : List ℕ) → split (front ++ 47 ∷ behind) ≡ split front ++ split behind
split_joined [] behind = refl
split_joined (b ∷ front) behind = cases (nat_eq b 47) (split_joined front behind)
  where
    cases : (t : Bool) → split (front ++ 47 ∷ behind) ≡ split front ++ split behind
        → cond t ([] ∷ split (front ++ 47 ∷ behind)) (onto_first b (split (front ++ 47 ∷ behind)))
        ≡ cond t ([] ∷ split front) (onto_first b (split front)) ++ split behind
    cases true rest = ap (λ names. [] ∷ names) rest
    cases false rest = ap (onto_first b) rest ∙ onto_joined b (split front) (split behind) front (split_text front)

-- names

-- a text without a slash has one name, which is the text
pub split_name : (name : List ℕ) → has_no_slash name ≡ true → split name ≡ name ∷ []
split_name [] none = refl
split_name (b ∷ name) none =
    let parts = and_parts (not (nat_eq b 47)) (has_no_slash name) none in
    ap (λ t. cond t ([] ∷ split name) (onto_first b (split name))) (not-true _ parts.0)
    ∙ ap (onto_first b) (split_name name parts.1)

-- what remains after a test passes it
pub filtered_pass : (names : NodePath) → has_node_names (filter is_node_name names) ≡ true
filtered_pass [] = refl
filtered_pass (name ∷ names) = cases (is_node_name name) refl (filtered_pass names)
  where
    cases : (b : Bool) → is_node_name name ≡ b → has_node_names (filter is_node_name names) ≡ true
        → has_node_names (cond b (name ∷ filter is_node_name names) (filter is_node_name names)) ≡ true
    cases true is rest = and_from _ _ is rest
    cases false is rest = rest

-- names that pass the test stay
pub passing_stay : (names : NodePath) → has_node_names names ≡ true → filter is_node_name names ≡ names
passing_stay [] are = refl
passing_stay (name ∷ names) are =
    let parts = and_parts (is_node_name name) (has_node_names names) are in
    ap (λ b. cond b (name ∷ filter is_node_name names) (filter is_node_name names)) parts.0
    ∙ ap (λ rest. name ∷ rest) (passing_stay names parts.1)

pub canonical_have_names : CanonicalPathsHaveNames
canonical_have_names [] = refl
canonical_have_names (prefix ∷ prefixes) =
    and_from _ _ (filtered_pass (split prefix)) (canonical_have_names prefixes)

-- texts

-- the canonical path has the names of the text's path that pass the test
read_filtered : (text : List ℕ) → canonical_path text ≡ filter is_node_name (path_of text)
read_filtered [] = refl
read_filtered (b ∷ text) = cases (nat_eq b 47) refl
  where
    behind : (rest : List ℕ) → filter is_node_name (split rest) ≡ filter is_node_name (names_of rest)
    behind [] = refl
    behind (c ∷ rest) = refl

    cases : (t : Bool) → nat_eq b 47 ≡ t → filter is_node_name (split (b ∷ text)) ≡ filter is_node_name (names_of (cond t text (b ∷ text)))
    cases true is = ap (λ t. filter is_node_name (cond t ([] ∷ split text) (onto_first b (split text)))) is ∙ behind text
    cases false is = refl

pub short_are_canonical : ShortPathsAreCanonical
short_are_canonical text short = read_filtered text ∙ passing_stay (path_of text) (short_names text short)
