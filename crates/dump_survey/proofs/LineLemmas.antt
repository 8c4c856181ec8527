-- The lines of the findings, one after the other.
use Rattle.dump_survey.proofs.Prelude.{◌≡◌, ◌==◌, ℕ, true, false, List, [], ◌∷◌, ◌++◌, flat_map, cond, refl, sym, ap, ◌∙◌, append-nil, append_assoc, Result, Ok, Err, concat, OnOk, DumpFinding, DumpFindings, and_parts, arith, false_from_ne_true, list_all, ne_eqb, has_dump_finding}
use borrow.Author.Tests.{leb-true, ltb-true}
use Rattle.std.proofs.Common.{nat_le, nat_lt}
use Rattle.dump_survey.specs.Lines.{is_control_pair, shown_byte, shown_text}
use Rattle.dump_survey.specs.steps.LineViews.{is_printable}

-- the lines of the findings in the dump as a whole, each if it is found
abbrev pub lines_if : (DumpFinding → List ℕ) → DumpFindings → List DumpFinding → List ℕ
lines_if line found fs = flat_map (λ f. cond (has_dump_finding found f) (line f) []) fs

-- the parts are added one after the other
abbrev pub AreAdded : List ℕ → List (List ℕ) → List ℕ → Type 0
AreAdded old [] new = new ≡ old
AreAdded old (part ∷ parts) new = (mid : List ℕ) × (mid ≡ old ++ part) × AreAdded mid parts new

pub all_added : (old new : List ℕ) (parts : List (List ℕ)) → AreAdded old parts new → new ≡ old ++ concat parts
all_added old new [] is = is ∙ sym (append-nil old)
all_added old new (part ∷ parts) (mid, first, more) = all_added mid new parts more
    ∙ (ap (λ l. l ++ concat parts) first ∙ append_assoc old part (concat parts))

-- what follows if memory doesn't run out
pub map_ok : {X E A B : Type 0} (r : Result X E) → (A → B) → OnOk r A → OnOk r B
map_ok (Ok x) so is = so is
map_ok (Err e) so is = tt

-- a text of printable characters is shown as it is
printable_byte : (b : ℕ) → is_printable b ≡ true → shown_byte b ≡ b ∷ []
unfolding shown_byte
printable_byte b is =
    let parts = and_parts (nat_le 32 b) (nat_lt b 127) is in
    let low = leb-true 32 b parts.0 in
    let high = ltb-true b 127 parts.1 in
    let control : nat_lt b 32 ≡ false =
    false_from_ne_true (nat_lt b 32) (λ less. let under = ltb-true b 32 less in absurd (omega arith)) in
    let other : (b == 127) ≡ false = ne_eqb b 127 (λ e. omega (arith, e)) in
    rw control (rw other refl)

no_pair : (first second : ℕ) → is_printable first ≡ true → is_control_pair first second ≡ false
no_pair first second is =
    let high = ltb-true first 127 (and_parts (nat_le 32 first) (nat_lt first 127) is).1 in
    let other : (first == 194) ≡ false = ne_eqb first 194 (λ e. omega (arith, e)) in
    rw other refl

pub printable_shown : (text : List ℕ) → list_all is_printable text ≡ true → shown_text text ≡ text
printable_shown [] all = refl
printable_shown (b ∷ []) all = printable_byte b (and_parts (is_printable b) true all).0
printable_shown (b ∷ c ∷ text) all =
    let parts = and_parts (is_printable b) (list_all is_printable (c ∷ text)) all in
    rw (no_pair b c parts.0) (rw (printable_byte b parts.0) (ap (λ rest. b ∷ rest) (printable_shown (c ∷ text) parts.1)))
