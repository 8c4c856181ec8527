-- Where the value of a line is in its dump.
use Rattle.dump_text.proofs.Prelude.{◌≡◌, ℕ, ◌+◌, ◌-◌, ◌<◌, ◌==◌, false, List, [], ◌∷◌, ◌++◌, take, drop, length, refl, sym, ap, ◌∙◌, arith, length-append, Some, before_first, take_at, drop_at, take_all, ne_eqb, has_byte, IsFirstLine, IsCutAtColon, IsSpanOf}
use Rattle.std.proofs.Common.{append_assoc}
use Rattle.dump_text.proofs.ScanLemmas.{nowhere, position_at, back_lacks}

-- what is before the first LF of a text is its first line, if an LF ends that line
pub line_before : (whole rest : List ℕ) → has_byte 10 whole ≡ false
    → before_first (λ b. b == 10) (whole ++ 10 ∷ rest) ≡ whole
line_before whole rest none =
    ap (λ n. take n (whole ++ 10 ∷ rest)) (position_at 10 whole rest none) ∙ take_at whole (10 ∷ rest) _ refl

-- and it is the whole text, if the text has no LF
pub line_whole : (text : List ℕ) → has_byte 10 text ≡ false → before_first (λ b. b == 10) text ≡ text
line_whole text none = let at = nowhere 10 text none in take_all _ text (omega arith)

-- the dump that ends with a value, an LF and other bytes is longer than these
pub front_size : (dump value behind front : List ℕ) → dump ≡ front ++ (value ++ 10 ∷ behind)
    → length dump ≡ length front + (length value + (1 + length behind))
front_size dump value behind front is =
    ap length is ∙ length-append front (value ++ 10 ∷ behind)
    ∙ ap (λ n. length front + n) (length-append value (10 ∷ behind) ∙ omega arith)

-- what follows a front that isn't empty, up to an LF, is the value at its place
pub value_there : (dump value behind front : List ℕ) (byte after : ℕ) → has_byte 10 value ≡ false → 0 < length front
    → dump ≡ front ++ (value ++ 10 ∷ behind) → byte ≡ length front → after ≡ byte + length value
    → IsSpanOf dump (record { place = record { byte = byte }; after = after }) (Some value)
value_there dump value behind front byte after none some is at to =
    let there : (byte == 0) ≡ false = ne_eqb byte 0 (λ zero. absurd (omega arith)) in
    let rest : drop byte dump ≡ value ++ 10 ∷ behind =
    ap (drop byte) is ∙ drop_at front (value ++ 10 ∷ behind) byte (sym at) in
    let size = front_size dump value behind front is in
    record {
      stands = rw there (ap (λ t. Some (before_first (λ b. b == 10) t)) rest ∙ ap Some (line_before value behind none));
      ends = rw there (ap Some (ap (take (after - byte)) rest ∙ take_at value (10 ∷ behind) _ (omega arith)));
      rises = omega arith;
      inside = omega arith;
    }

-- no LF is in the value of a line
pub value_lacks : (whole name value : List ℕ) → has_byte 10 whole ≡ false → IsCutAtColon whole name value
    → has_byte 10 value ≡ false
value_lacks whole name value none cut =
    back_lacks 10 (name ++ 58 ∷ 32 ∷ []) value
    (ap (has_byte 10) (append_assoc name (58 ∷ 32 ∷ []) value ∙ sym cut.spelled) ∙ none)

-- the value of a line after some lines is in the dump after a front that isn't empty
pub value_behind_front : (dump text rest whole others name value front lines : List ℕ) → dump ≡ front ++ text
    → text ≡ lines ++ rest → IsFirstLine rest whole others → IsCutAtColon whole name value
    → (before : List ℕ) × (0 < length before) × (dump ≡ before ++ (value ++ 10 ∷ others))
value_behind_front dump text rest whole others name value front lines ends is first cut =
    let colon : List ℕ = name ++ 58 ∷ 32 ∷ [] in
    let left = value ++ 10 ∷ others in
    let line : rest ≡ colon ++ left =
    first.cut ∙ ap (λ t. t ++ 10 ∷ others) cut.spelled ∙ append_assoc name (58 ∷ 32 ∷ value) (10 ∷ others)
    ∙ sym (append_assoc name (58 ∷ 32 ∷ []) left) in (
      front ++ (lines ++ colon),
      (let all = length-append front (lines ++ colon) in
          let some = length-append lines colon in
          let named = length-append name (58 ∷ 32 ∷ []) in
          omega arith),
      ends ∙ ap (λ t. front ++ t) (is ∙ ap (λ t. lines ++ t) line ∙ sym (append_assoc lines colon left))
          ∙ sym (append_assoc front (lines ++ colon) left),
    )
