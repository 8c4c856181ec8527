-- The last colon of a line.
use Rattle.std.proofs.Common.{◌≡◌, ℕ, ◌+◌, ◌-◌, Bool, true, false, ◌||◌, List, [], ◌∷◌, ◌++◌, length, take, refl, sym, ap, ◌∙◌, arith, append_assoc}
use Rattle.std.specs.Prelude.{◌==◌}
use Rattle.std.proofs.lemmas.Bool.{eqb-true}
use Rattle.std.proofs.lemmas.List.{take_at}
use Rattle.dump_text.specs.HeaderLine.{has_byte}
use Rattle.dump_rules.specs.steps.ReadMergeinfo.{colon_end}
use Rattle.dump_rules.specs.steps.RewrittenLines.{line_path}
use Rattle.dump_rules.proofs.reading.MergeinfoLemmas.{colon_end_is}

-- the line is a text, its last colon and the rest
abbrev pub HasLastColon : List ℕ → Type 0
HasLastColon line = (text ranges : List ℕ) × (line ≡ (text ++ 58 ∷ []) ++ ranges) × (has_byte 58 ranges ≡ false)

-- each line with a colon has this form
pub last_colon : (line : List ℕ) → has_byte 58 line ≡ true → HasLastColon line
last_colon [] some = absurd (let bad : false ≡ true = some in cc)
last_colon (c ∷ line) some = cases (has_byte 58 line) refl (last_colon line)
  where
    colon : has_byte 58 line ≡ false → (b : Bool) → (c == 58) ≡ b → (c == 58) ≡ true
    colon none true is = is
    colon none false is = absurd (let bad : true ≡ false = sym some ∙ (ap (λ b. b || has_byte 58 line) is ∙ none) in cc)

    cases : (b : Bool) → has_byte 58 line ≡ b → (has_byte 58 line ≡ true → HasLastColon line) → HasLastColon (c ∷ line)
    cases true is later =
        let (text, ranges, parted, last) = later is in (c ∷ text, ranges, ap (λ l. c ∷ l) parted, last)
    cases false is later =
        ([], line, ap (λ b. b ∷ line) (eqb-true c 58 (colon is (c == 58) refl)), is)

-- its path is the text before the last colon
pub path_of_parted : (line text ranges : List ℕ) → line ≡ (text ++ 58 ∷ []) ++ ranges → has_byte 58 ranges ≡ false
    → line_path line ≡ text
path_of_parted line text ranges parted last =
    let place : colon_end line ≡ length text + 1 = ap colon_end parted ∙ colon_end_is text ranges last in
    let before : colon_end line - 1 ≡ length text = omega (arith, place) in
    ap (λ n. take n line) before
    ∙ (ap (take (length text)) (parted ∙ append_assoc text (58 ∷ []) ranges) ∙ take_at text (58 ∷ ranges) (length text) refl)
