-- A value has at most one new value.
use Rattle.dump_rules.proofs.Prelude.{◌≡◌, ℕ, Bool, true, false, MatchBool, List, [], ◌∷◌, refl, sym, ap, ◌∙◌, subst, AllZip, Settings, KeptRevisions, Range, MergeLine, IsMergeLine, IsMergeinfo, mergeinfo_text, IsSameMap, IsRenumberedMap, IsNewLine, IsNewMergeinfo, staying_lines, nonempty_lines}
use Rattle.dump_rules.proofs.new_values.Unique.{runs_once}
use Rattle.dump_rules.proofs.new_values.ValueLemmas.{line_parts, texts_are}

line_eq : (a b : MergeLine) → a.path ≡ b.path → a.ranges ≡ b.ranges → a ≡ b
line_eq a b path ranges = λ i. record { path = path i; ranges = ranges i }

-- two lists that a relation zips with one list are the same, if it relates each element of that list to only one
zip_once : {A B : Type 0} (R : A → B → Type 0) → ((x : A) (y z : B) → R x y → R x z → y ≡ z) → (xs : List A)
    (ys zs : List B) → AllZip R xs ys → AllZip R xs zs → ys ≡ zs
zip_once R one [] [] [] all_y all_z = refl
zip_once R one [] [] zs all_y all_z = absurd all_z
zip_once R one (x ∷ xs) (y ∷ ys) (z ∷ zs) all_y all_z =
    λ i. one x y z all_y.0 all_z.0 i ∷ zip_once R one xs ys zs all_y.1 all_z.1 i
zip_once R one (x ∷ xs) (y ∷ ys) [] all_y all_z = absurd all_z
zip_once R one xs ys zs all_y all_z = absurd all_y

-- the lines of a value

one_line : (text : List ℕ) (a b : MergeLine) → IsMergeLine text a → IsMergeLine text b → a ≡ b
one_line text a b is_a is_b =
    let first = line_parts text a is_a in
    let second = line_parts text b is_b in
    line_eq a b (sym first.path ∙ second.path) (sym first.ranges ∙ second.ranges)

pub one_reading : (value : List ℕ) (a b : List MergeLine) → IsMergeinfo value a → IsMergeinfo value b → a ≡ b
one_reading value a b is_a is_b =
    let same : is_a.0 ≡ is_b.0 = sym (texts_are is_a.0 a is_a.1 value is_a.2)
    ∙ texts_are is_b.0 b is_b.1 value is_b.2 in
    zip_once IsMergeLine one_line is_b.0 a b
    (subst (λ (texts : List (List ℕ)). AllZip IsMergeLine texts a) same is_a.1) is_b.1

-- their new lines

one_map : (renumber : Bool) (kept : KeptRevisions) (old a b : List Range)
    → MatchBool renumber (IsRenumberedMap kept old a) (IsSameMap old a)
    → MatchBool renumber (IsRenumberedMap kept old b) (IsSameMap old b) → IsSameMap a b
one_map true kept old a b map_a map_b kind number =
    (λ h. (map_a kind number).1 ((map_b kind number).0 h), λ h. (map_b kind number).1 ((map_a kind number).0 h))
one_map false kept old a b map_a map_b kind number =
    (λ h. (map_a kind number).1 ((map_b kind number).0 h), λ h. (map_b kind number).1 ((map_a kind number).0 h))

one_new_line : (settings : Settings) (kept : KeptRevisions) (old a b : MergeLine) → IsNewLine settings kept old a
    → IsNewLine settings kept old b → a ≡ b
one_new_line settings kept old a b is_a is_b =
    line_eq a b (is_a.path ∙ sym is_b.path)
    (runs_once a.ranges b.ranges is_a.runs is_b.runs
    (one_map settings.renumber kept old.ranges a.ranges b.ranges is_a.numbers is_b.numbers))

-- a value has at most one new value
pub one_new_value : (settings : Settings) (kept : KeptRevisions) (value a b : List ℕ)
    → IsNewMergeinfo settings kept value a → IsNewMergeinfo settings kept value b → a ≡ b
one_new_value settings kept value a b (lines_a, new_a, is_a, all_a, written_a)
    (lines_b, new_b, is_b, all_b, written_b) =
    let same = one_reading value lines_a lines_b is_a is_b in
    let new_same = zip_once (IsNewLine settings kept) (one_new_line settings kept)
    (staying_lines settings lines_b) new_a new_b (subst (λ (lines : List MergeLine). AllZip (IsNewLine settings kept)
    (staying_lines settings lines) new_a) same all_a) all_b in
    written_a ∙ ap (λ (lines : List MergeLine). mergeinfo_text (nonempty_lines lines)) new_same ∙ sym written_b
