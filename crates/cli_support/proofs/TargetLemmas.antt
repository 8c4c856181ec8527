-- The lines of a text, and the blanks at their ends.
use Rattle.std.proofs.Common.{◌≡◌, ◌∙◌, ◌&&◌, ◌<◌, ◌≤◌, ◌++◌, ℕ, true, false, zero, suc, List, [], ◌∷◌, length, map, take, refl, subst, sym, ap, arith, inl, inr, slice_index}
use Rattle.std.proofs.lemmas.Bool.{cases_Bool, ne_eqb}
use Rattle.std.specs.Prelude.{if◌then◌else◌}
use Rattle.std.specs.List.{AllZip, slice_index_or}
use Rattle.clap.specs.Walk.{is_empty}
use Rattle.cli_support.specs.Targets.{before_blanks, begun_by, is_blank, is_line_end, lines_in_text}

-- the lines, with a text in front of the first one
abbrev pub joined : List ℕ → List (List ℕ) → List (List ℕ)
joined text [] = text ∷ []
joined text (line ∷ lines) = (text ++ line) ∷ lines

only_begun : (byte : ℕ) (lines : List (List ℕ)) → joined [] (begun_by byte lines) ≡ begun_by byte lines
only_begun byte [] = refl
only_begun byte (line ∷ lines) = refl

-- a text that isn't empty has a line
pub some_line : (text : List ℕ) → 0 < length text → joined [] (lines_in_text text) ≡ lines_in_text text
some_line [] less = absurd (omega arith)
some_line (byte ∷ text) less = elim (cases_Bool (is_line_end byte)) [
  | inl is ↦ rw is refl
  | inr other ↦ rw other (only_begun byte (lines_in_text text))
]

is_filled : {X : Type 0} (x : X) (xs : List X) → is_empty (x ∷ xs) ≡ false
is_filled x xs = ne_eqb _ _ (λ e. omega (arith, e))

-- a blank at the end
blank_at : (line : List ℕ) (n : ℕ) → n < length line → is_blank (slice_index line n) ≡ true
    → before_blanks (take (suc n) line) ≡ before_blanks (take n line)
blank_at [] n less is = absurd (omega arith)
blank_at (byte ∷ line) zero less is = rw is refl
blank_at (byte ∷ line) (suc n) less is =
    ap (λ r. if is_blank byte && is_empty r then [] else byte ∷ r) (blank_at line n (omega arith) is)

pub blank_goes : (line : List ℕ) (count last : ℕ) → count ≡ suc last → last < length line
    → is_blank (slice_index line last) ≡ true → before_blanks (take count line) ≡ before_blanks (take last line)
blank_goes line count last e less is =
    ap (λ n. before_blanks (take n line)) e ∙ blank_at line last less is

-- a byte at the end that is no blank
other_at : (line : List ℕ) (n : ℕ) → n < length line → is_blank (slice_index line n) ≡ false
    → before_blanks (take (suc n) line) ≡ take (suc n) line
other_at [] n less other = absurd (omega arith)
other_at (byte ∷ line) zero less other = rw other refl
other_at (byte ∷ []) (suc n) less other = absurd (omega arith)
other_at (byte ∷ next ∷ line) (suc n) less other =
    ap (λ r. if is_blank byte && is_empty r then [] else byte ∷ r) (other_at (next ∷ line) n (omega arith) other)
    ∙ elim (cases_Bool (is_blank byte)) [
      | inl is ↦ rw is (rw (is_filled next (take n line)) refl)
      | inr not_blank ↦ rw not_blank refl
    ]

pub other_stays : (line : List ℕ) (count last : ℕ) → count ≡ suc last → last < length line
    → is_blank (slice_index line last) ≡ false → before_blanks (take count line) ≡ take count line
other_stays line count last e less other =
    subst (λ n. before_blanks (take n line) ≡ take n line) (sym e) (other_at line last less other)

-- one more item in both lists
zip_more : {A B X Y : Type 0} (R : A → B → Type 0) (f : X → A) (h : Y → B) (xs : List X) (i : ℕ) (d : X)
    (ys : List Y) (y : Y) → i < length xs → AllZip R (map f (take i xs)) (map h ys) → R (f (slice_index_or xs i d)) (h y)
    → AllZip R (map f (take (suc i) xs)) (map h (ys ++ y ∷ []))
zip_more R f h [] i d ys y less all one = absurd (omega arith)
zip_more R f h (x ∷ xs) zero d [] y less all one = (one, tt)
zip_more R f h (x ∷ xs) zero d (z ∷ ys) y less all one = absurd all
zip_more R f h (x ∷ xs) (suc i) d [] y less all one = absurd all
zip_more R f h (x ∷ xs) (suc i) d (z ∷ ys) y less all one =
    (all.0, zip_more R f h xs i d ys y (omega arith) all.1 one)

pub zip_next : {A B X Y : Type 0} (R : A → B → Type 0) (f : X → A) (h : Y → B) (xs : List X) (i next : ℕ) (d : X)
    (ys : List Y) (y : Y) → next ≡ suc i → i < length xs → AllZip R (map f (take i xs)) (map h ys)
    → R (f (slice_index_or xs i d)) (h y) → AllZip R (map f (take next xs)) (map h (ys ++ y ∷ []))
zip_next R f h xs i next d ys y is less all one =
    subst (λ n. AllZip R (map f (take n xs)) (map h (ys ++ y ∷ []))) (sym is) (zip_more R f h xs i d ys y less all one)
