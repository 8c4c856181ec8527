-- The path that a prefix names.
use Rattle.dump_trees.proofs.Prelude.{◌≡◌, not, cond, bytes_eq, nat_eq, nat_lt, refl, sym, ap, ap₂, ◌∙◌, subst, append-nil, append_assoc, list_all, onto_first, starts_with, and_parts, and_from, not-true, not_from_false, bare_prefix, bare_path, begins_path, matches_path, NodePath, path_text, path_of, names_of, is_name, below}
use Rattle.std.proofs.Common.{ℕ, Bool, true, false, ◌&&◌, List, [], ◌∷◌, ◌++◌, length, reverse, Option, None, is_some}
use Rattle.std.proofs.lemmas.List.{reverse-append, reverse-reverse}
use Rattle.dump_rules.specs.Prefix.{without_leading_slashes, without_trailing_slashes}
use Rattle.dump_trees.specs.Siblings.{is_within}
use Rattle.dump_trees.proofs.paths.KeptPaths.{reaches, reaches_more, eq_sym}
use Rattle.dump_trees.proofs.paths.PathNames.{split, split_text, text_read}

-- names without slashes

abbrev pub has_no_slash : List ℕ → Bool
has_no_slash name = list_all (λ b. not (nat_eq b 47)) name

same_end : (b c : ℕ) (r s : Bool) → r ≡ s → (nat_eq c b && r) ≡ (nat_eq b c && s)
same_end b c r s same = ap₂ (λ t u. t && u) (eq_sym c b) same

both_cond : {A : Type 0} (a b : Bool) (o : Option A)
    → (a && is_some (cond b o None)) ≡ is_some (cond (a && b) o None)
both_cond true b o = refl
both_cond false b o = refl

-- a text of names reaches another one exactly if the one path is at or above the other
pub reaches_names : (name other : List ℕ) (top path : NodePath) → has_no_slash name ≡ true
    → has_no_slash other ≡ true → list_all has_no_slash top ≡ true → list_all has_no_slash path ≡ true
    → reaches (name ++ path_text top) (other ++ path_text path)
    ≡ is_some (cond (bytes_eq name other) (below top path) None)
reaches_names [] [] [] [] n o t p = refl
reaches_names [] [] [] (next ∷ path) n o t p = refl
reaches_names [] [] (first ∷ top) [] n o t p = refl
reaches_names [] [] (first ∷ top) (next ∷ path) n o t p =
    let tops = and_parts (has_no_slash first) (list_all has_no_slash top) t in
    let paths = and_parts (has_no_slash next) (list_all has_no_slash path) p in
    reaches_more 47 47 (first ++ path_text top) (next ++ path_text path)
    ∙ reaches_names first next top path tops.0 paths.0 tops.1 paths.1
reaches_names [] (c ∷ other) [] path n o t p =
    let parts = and_parts (not (nat_eq c 47)) (has_no_slash other) o in
    ap (λ b. b && starts_with nat_eq (other ++ path_text path) []) (eq_sym 47 c ∙ not-true _ parts.0)
reaches_names [] (c ∷ other) (first ∷ top) path n o t p =
    let parts = and_parts (not (nat_eq c 47)) (has_no_slash other) o in
    reaches_more 47 c (first ++ path_text top) (other ++ path_text path)
    ∙ ap (λ b. b && reaches (first ++ path_text top) (other ++ path_text path)) (not-true _ parts.0)
reaches_names (b ∷ name) [] top [] n o t p = refl
reaches_names (b ∷ name) [] top (next ∷ path) n o t p =
    let parts = and_parts (not (nat_eq b 47)) (has_no_slash name) n in
    reaches_more b 47 (name ++ path_text top) (next ++ path_text path)
    ∙ ap (λ s. s && reaches (name ++ path_text top) (next ++ path_text path)) (eq_sym 47 b ∙ not-true _ parts.0)
reaches_names (b ∷ name) (c ∷ other) top path n o t p =
    let names = and_parts (not (nat_eq b 47)) (has_no_slash name) n in
    let others = and_parts (not (nat_eq c 47)) (has_no_slash other) o in
    reaches_more b c (name ++ path_text top) (other ++ path_text path)
    ∙ (same_end b c _ _ (reaches_names name other top path names.1 others.1 t p)
    ∙ both_cond (nat_eq b c) (bytes_eq name other) (below top path))

-- the names of a text have no slash
pub split_names : (text : List ℕ) → list_all has_no_slash (split text) ≡ true
split_names [] = refl
split_names (b ∷ text) = cases (split_names text) (nat_eq b 47) refl
  where
    onto : nat_eq b 47 ≡ false → (names : NodePath) → list_all has_no_slash names ≡ true
        → list_all has_no_slash (onto_first b names) ≡ true
    onto is [] are = and_from _ _ (and_from _ _ (not_from_false _ is) refl) refl
    onto is (name ∷ names) are =
        let parts = and_parts (has_no_slash name) (list_all has_no_slash names) are in
        and_from _ _ (and_from _ _ (not_from_false _ is) parts.0) parts.1

    cases : list_all has_no_slash (split text) ≡ true → (t : Bool) → nat_eq b 47 ≡ t
        → list_all has_no_slash (cond t ([] ∷ split text) (onto_first b (split text))) ≡ true
    cases behind true is = behind
    cases behind false is = onto is (split text) behind

-- bare prefixes

-- without its first bytes, a text whose last byte is no slash still ends with that byte
leading_last : (text : List ℕ) (b : ℕ) → nat_eq b 47 ≡ false
    → (front : List ℕ) × (without_leading_slashes (text ++ b ∷ []) ≡ front ++ b ∷ [])
leading_last [] b is = ([], ap (λ t. cond t [] (b ∷ [])) is)
leading_last (c ∷ text) b is = cases (nat_eq c 47) (leading_last text b is)
  where
    cases : (t : Bool) → (front : List ℕ) × (without_leading_slashes (text ++ b ∷ []) ≡ front ++ b ∷ [])
        → (front : List ℕ) × (cond t (without_leading_slashes (text ++ b ∷ [])) (c ∷ text ++ b ∷ []) ≡ front ++ b ∷ [])
    cases true rest = rest
    cases false rest = (c ∷ text, refl)

-- a text that doesn't begin with a slash doesn't either without the slashes at its end
trailing_first : (b : ℕ) (text : List ℕ) → nat_eq b 47 ≡ false
    → (rest : List ℕ) × (without_trailing_slashes (b ∷ text) ≡ b ∷ rest)
trailing_first b text is =
    let turned : reverse (b ∷ text) ≡ reverse text ++ b ∷ [] = reverse-append (b ∷ []) text in
    let left = leading_last (reverse text) b is in
    (reverse left.0, ap (λ t. reverse (without_leading_slashes t)) turned ∙ (ap reverse left.1 ∙ reverse-append left.0 (b ∷ [])))

-- the empty text, or a text that doesn't begin with a slash
abbrev IsBare : List ℕ → Type 0
IsBare text = bare_path text ≡ text

leading_bare : (text : List ℕ) → IsBare (without_trailing_slashes (without_leading_slashes text))
leading_bare [] = refl
leading_bare (b ∷ text) = cases (nat_eq b 47) refl (leading_bare text)
  where
    cases : (t : Bool) → nat_eq b 47 ≡ t → IsBare (without_trailing_slashes (without_leading_slashes text))
        → IsBare (without_trailing_slashes (cond t (without_leading_slashes text) (b ∷ text)))
    cases true is rest = rest
    cases false is rest =
        let first = trailing_first b text is in
        subst IsBare (sym first.1) (ap (λ t. cond t first.0 (b ∷ first.0)) is)

-- a bare prefix doesn't begin with a slash
pub bare_first : (prefix : List ℕ) → bare_path (bare_prefix prefix) ≡ bare_prefix prefix
bare_first prefix = leading_bare prefix

begins_names : (bare : List ℕ) (path : NodePath) → list_all has_no_slash path ≡ true
    → begins_path bare (bare_path (path_text path)) ≡ is_within (names_of bare) path
begins_names [] path are = refl
begins_names (b ∷ bare) path are = cases (split (b ∷ bare)) (split_text (b ∷ bare)) (split_names (b ∷ bare)) path are
  where
    cases : (top : NodePath) → path_text top ≡ 47 ∷ b ∷ bare → list_all has_no_slash top ≡ true
        → (path : NodePath) → list_all has_no_slash path ≡ true
        → reaches (b ∷ bare) (bare_path (path_text path)) ≡ is_within top path
    cases [] is none path are = absurd (let bad : [] ≡ 47 ∷ b ∷ bare = is in cc)
    cases (name ∷ top) is none [] are = refl
    cases (name ∷ top) is none (next ∷ path) are =
        let same : name ++ path_text top ≡ b ∷ bare = (let both : 47 ∷ (name ++ path_text top) ≡ 47 ∷ b ∷ bare = is in cc) in
        let tops = and_parts (has_no_slash name) (list_all has_no_slash top) none in
        let paths = and_parts (has_no_slash next) (list_all has_no_slash path) are in
        ap (λ t. reaches t (next ++ path_text path)) (sym same)
        ∙ reaches_names name next top path tops.0 paths.0 tops.1 paths.1

-- a prefix matches the path exactly if the prefix names the path, or a path above it
pub matches_names : (prefix : List ℕ) (path : NodePath) → list_all has_no_slash path ≡ true
    → matches_path prefix (path_text path) ≡ is_within (path_of (bare_prefix prefix)) path
matches_names prefix path are =
    begins_names (bare_prefix prefix) path are ∙ ap (λ t. is_within (names_of t) path) (sym (bare_first prefix))

-- the text of a path

ends_name : (b : ℕ) (name : List ℕ) → has_no_slash (b ∷ name) ≡ true
    → (front : List ℕ) × (last : ℕ) × (b ∷ name ≡ front ++ last ∷ []) × (nat_eq last 47 ≡ false)
ends_name b [] are = ([], b, refl, not-true _ (and_parts (not (nat_eq b 47)) true are).0)
ends_name b (c ∷ name) are =
    let (front, last, same, differs) = ends_name c name (and_parts (not (nat_eq b 47)) (has_no_slash (c ∷ name)) are).1 in
    (b ∷ front, last, ap (λ t. b ∷ t) same, differs)

-- the text of a path that isn't the root doesn't end with a slash
ends_path : (name : List ℕ) (path : NodePath) → list_all is_name (name ∷ path) ≡ true
    → (front : List ℕ) × (last : ℕ) × (name ++ path_text path ≡ front ++ last ∷ []) × (nat_eq last 47 ≡ false)
ends_path [] path are = absurd (let bad : false ≡ true = are in cc)
ends_path (b ∷ name) [] are =
    let parts = and_parts (is_name (b ∷ name)) true are in
    let its = and_parts (nat_lt 0 (length (b ∷ name))) (has_no_slash (b ∷ name)) parts.0 in
    let (front, last, same, differs) = ends_name b name its.1 in
    (front, last, append-nil (b ∷ name) ∙ same, differs)
ends_path (b ∷ name) (next ∷ path) are =
    let parts = and_parts (is_name (b ∷ name)) (list_all is_name (next ∷ path)) are in
    let (front, last, same, differs) = ends_path next path parts.1 in (
      (b ∷ name) ++ 47 ∷ front,
      last,
      ap (λ t. (b ∷ name) ++ 47 ∷ t) same ∙ sym (append_assoc (b ∷ name) (47 ∷ front) (last ∷ [])),
      differs,
    )

-- so it is the same text without the slashes at its end
trailing_same : (front : List ℕ) (last : ℕ) → nat_eq last 47 ≡ false
    → without_trailing_slashes (front ++ last ∷ []) ≡ front ++ last ∷ []
trailing_same front last is =
    let turned : reverse (front ++ last ∷ []) ≡ last ∷ reverse front = reverse-append front (last ∷ []) in
    ap (λ t. reverse (without_leading_slashes t)) turned
    ∙ (ap (λ t. reverse (cond t (without_leading_slashes (reverse front)) (last ∷ reverse front))) is
    ∙ (ap reverse (sym turned) ∙ reverse-reverse (front ++ last ∷ [])))

-- the text of a path, as a prefix, names the path
pub text_names : (path : NodePath) → list_all is_name path ≡ true → path_of (bare_prefix (path_text path)) ≡ path
text_names [] are = refl
text_names ([] ∷ path) are = absurd (let bad : false ≡ true = are in cc)
text_names ((b ∷ name) ∷ path) are =
    let parts = and_parts (is_name (b ∷ name)) (list_all is_name path) are in
    let its = and_parts (nat_lt 0 (length (b ∷ name))) (has_no_slash (b ∷ name)) parts.0 in
    let no = not-true _ (and_parts (not (nat_eq b 47)) (has_no_slash name) its.1).0 in
    let (front, last, same, no_last) = ends_path (b ∷ name) path are in
    let text = name ++ path_text path in
    let bare : bare_prefix (path_text ((b ∷ name) ∷ path)) ≡ b ∷ text =
    ap (λ t. without_trailing_slashes (cond t (without_leading_slashes text) (b ∷ text))) no
    ∙ (ap without_trailing_slashes same ∙ (trailing_same front last no_last ∙ sym same)) in
    ap path_of bare ∙ (ap (λ t. names_of (cond t text (b ∷ text))) no ∙ text_read ((b ∷ name) ∷ path) are)
