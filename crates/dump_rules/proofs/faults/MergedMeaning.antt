-- What values of mergeinfo say together: whether each is mergeinfo, a source is missing, a number is foreign.
use Rattle.dump_rules.proofs.Prelude.{◌≡◌, ℕ, ◌-◌, ◌^◌, ◌<◌, Bool, true, false, not, ◌&&◌, ◌||◌, nat_lt, min, max, List, [], ◌∷◌, refl, sym, ap, ◌∙◌, arith, Some, None, Option, IfSome, is_some, list_all, list_any, nat_tests, inl, inr, cases_Bool, le-ltb, and-false, and-or_distrib_left, and-true, or-false, or_assoc, Bounds, Merged, Settings, keeps_path, Range, range_of, range_parts, line_reads, lines_read, value_reads, without_lf, line_list, line_path, text_lines, line_misses, range_foreign, part_foreign, list_foreign, line_foreign, value_misses, value_foreign, widened, widened_by, parts_bounds, list_bounds, is_outside, no_bounds, line_said, lines_merged, text_merged}
use Rattle.dump_rules.proofs.reading.BlockLemmas.{crossed}

-- the bounds of numbers

below_greater : (now a b : ℕ) → nat_lt now (max a b) ≡ (nat_lt now a || nat_lt now b)
below_greater now a b = grind (arith, nat_tests)

lesser_below : (a b first : ℕ) → nat_lt (min a b) first ≡ (nat_lt a first || nat_lt b first)
lesser_below a b first = grind (arith, nat_tests)

two_of_each : (a b c d k : Bool) → ((a || b) || (k && (c || d))) ≡ ((a || (k && c)) || (b || (k && d)))
two_of_each a b c d k = ap (λ t. (a || b) || t) (and-or_distrib_left k c d) ∙ crossed a b (k && c) (k && d)

-- truth values

none : (a r : Bool) → a ≡ (a || (r && false))
none a r = sym (ap (λ t. a || t) (and-false r) ∙ or-false a)

spread : (a r x y : Bool) → ((a || (r && x)) || (r && y)) ≡ (a || (r && (x || y)))
spread a r x y = or_assoc a (r && x) (r && y) ∙ ap (λ t. a || t) (sym (and-or_distrib_left r x y))

module _ (s : Settings) (first now : ℕ) where
  outside_widened : (b : Bounds) (r : Range)
      → is_outside s first now (widened b r) ≡ (is_outside s first now b || range_foreign s first now r)
  outside_widened b r =
      rw (below_greater now b.greatest r.to, lesser_below b.least r.from first)
      (two_of_each (nat_lt now b.greatest) (nat_lt now r.to) (nat_lt b.least first) (nat_lt r.from first)
      (not s.skip_missing))

  outside_part : (bounds : Bounds) (o : Option Range)
      → is_outside s first now (widened_by bounds o) ≡ (is_outside s first now bounds || part_foreign s first now o)
  outside_part bounds None = sym (or-false (is_outside s first now bounds))
  outside_part bounds (Some r) = outside_widened bounds r

  outside_parts : (bounds : Bounds) (parts : List (List ℕ)) → is_outside s first now (parts_bounds bounds parts)
      ≡ (is_outside s first now bounds || list_any (λ part. part_foreign s first now (range_of part)) parts)
  outside_parts bounds [] = sym (or-false (is_outside s first now bounds))
  outside_parts bounds (part ∷ parts) =
      outside_parts (widened_by bounds (range_of part)) parts
      ∙ ap (λ b. b || list_any (λ p. part_foreign s first now (range_of p)) parts) (outside_part bounds (range_of part))
      ∙ or_assoc (is_outside s first now bounds) (part_foreign s first now (range_of part))
      (list_any (λ p. part_foreign s first now (range_of p)) parts)

  outside_list : (bounds : Bounds) (list : List ℕ) → is_outside s first now (list_bounds bounds list)
      ≡ (is_outside s first now bounds || list_foreign s first now list)
  outside_list bounds [] = sym (or-false (is_outside s first now bounds))
  outside_list bounds (b ∷ list) = outside_parts bounds (range_parts (b ∷ list))

  outside_line : (said : Merged) (line : List ℕ) → is_outside s first now (line_said s said line).numbers
      ≡ (is_outside s first now said.numbers || (s.renumber && line_foreign s first now line))
  outside_line said line = by_kept (keeps_path s (line_path line)) refl s.renumber refl
    where
      by_kept : (k : Bool) → keeps_path s (line_path line) ≡ k → (r : Bool) → s.renumber ≡ r
          → is_outside s first now (line_said s said line).numbers
          ≡ (is_outside s first now said.numbers || (s.renumber && line_foreign s first now line))
      by_kept true e true f = rw (e, f) (outside_list said.numbers (line_list line))
      by_kept true e false f = rw (e, f) (sym (or-false (is_outside s first now said.numbers)))
      by_kept false e r f = rw e (none (is_outside s first now said.numbers) s.renumber)

  outside_lines : (said last : Merged) (lines : List (List ℕ)) → lines_merged s said lines ≡ Some last
      → is_outside s first now last.numbers
      ≡ (is_outside s first now said.numbers || (s.renumber && list_any (line_foreign s first now) lines))
  outside_lines said last [] is =
      ap (λ (o : Option Merged). outside_of o) (sym is) ∙ none (is_outside s first now said.numbers) s.renumber
    where
      outside_of : Option Merged → Bool
      outside_of None = false
      outside_of (Some m) = is_outside s first now m.numbers
  outside_lines said last (line ∷ lines) is = elim (cases_Bool (line_reads line)) [
    | inl e ↦
        outside_lines (line_said s said line) last lines (rw e at is)
        ∙ ap (λ b. b || (s.renumber && list_any (line_foreign s first now) lines)) (outside_line said line)
        ∙ spread (is_outside s first now said.numbers) s.renumber (line_foreign s first now line)
        (list_any (line_foreign s first now) lines)
    | inr e ↦ let bad : Path (Option Merged) None (Some last) = rw e at is in cc
  ]

  -- a value's numbers are outside bounds if those of the earlier values are, or one of its own is
  pub outside_value : (said last : Merged) (value : List ℕ) → text_merged s said value ≡ Some last
      → is_outside s first now last.numbers ≡ (is_outside s first now said.numbers || value_foreign s first now value)
  outside_value said last value is = outside_lines said last (text_lines (without_lf value)) is

module _ (s : Settings) where
  missed_line : (said : Merged) (line : List ℕ)
      → (line_said s said line).misses ≡ (said.misses || (not s.skip_missing && line_misses s line))
  missed_line said line = by_kept (keeps_path s (line_path line)) refl s.renumber refl
    where
      by_kept : (k : Bool) → keeps_path s (line_path line) ≡ k → (r : Bool) → s.renumber ≡ r
          → (line_said s said line).misses ≡ (said.misses || (not s.skip_missing && line_misses s line))
      by_kept true e true f = rw (e, f) (none said.misses (not s.skip_missing))
      by_kept true e false f = rw (e, f) (none said.misses (not s.skip_missing))
      by_kept false e r f = rw e (ap (λ t. said.misses || t) (sym (and-true (not s.skip_missing))))

  missed_lines : (said last : Merged) (lines : List (List ℕ)) → lines_merged s said lines ≡ Some last
      → last.misses ≡ (said.misses || (not s.skip_missing && list_any (line_misses s) lines))
  missed_lines said last [] is = ap misses_of (sym is) ∙ none said.misses (not s.skip_missing)
    where
      misses_of : Option Merged → Bool
      misses_of None = false
      misses_of (Some m) = m.misses
  missed_lines said last (line ∷ lines) is = elim (cases_Bool (line_reads line)) [
    | inl e ↦
        missed_lines (line_said s said line) last lines (rw e at is)
        ∙ ap (λ b. b || (not s.skip_missing && list_any (line_misses s) lines)) (missed_line said line)
        ∙ spread said.misses (not s.skip_missing) (line_misses s line) (list_any (line_misses s) lines)
    | inr e ↦ let bad : Path (Option Merged) None (Some last) = rw e at is in cc
  ]

  -- a source is missing if one was missing before, or one is in this value
  pub missed_value : (said last : Merged) (value : List ℕ) → text_merged s said value ≡ Some last
      → last.misses ≡ (said.misses || value_misses s value)
  missed_value said last value is = missed_lines said last (text_lines (without_lf value)) is

  read_lines : (said : Merged) (lines : List (List ℕ)) → is_some (lines_merged s said lines) ≡ list_all line_reads lines
  read_lines said [] = refl
  read_lines said (line ∷ lines) = elim (cases_Bool (line_reads line)) [
    | inl e ↦ rw e (read_lines (line_said s said line) lines)
    | inr e ↦ rw e refl
  ]

  read_text : (said : Merged) (text : List ℕ) → is_some (lines_merged s said (text_lines text)) ≡ lines_read text
  read_text said [] = refl
  read_text said (b ∷ text) = read_lines said (text_lines (b ∷ text))

  -- there is a result for a value if it is mergeinfo
  pub read_value : (said : Merged) (value : List ℕ) → is_some (text_merged s said value) ≡ value_reads value
  read_value said value = read_text said (without_lf value)

-- what a value says, as far as it is mergeinfo
pub said_sources : (s : Settings) (said : Merged) (value : List ℕ) (made : Option Merged)
    → made ≡ text_merged s said value
    → IfSome made (λ m. m.misses ≡ (said.misses || value_misses s value))
said_sources s said value None is = tt
said_sources s said value (Some m) is = missed_value s said m value (sym is)

-- with one more value, a number is outside if one was before or the value has a foreign one
pub said_numbers : (s : Settings) (first now : ℕ) (said : Merged) (value : List ℕ) (made : Option Merged)
    → made ≡ text_merged s said value
    → IfSome made (λ m. is_outside s first now m.numbers ≡
    (is_outside s first now said.numbers || value_foreign s first now value))
said_numbers s first now said value None is = tt
said_numbers s first now said value (Some m) is = outside_value s first now said m value (sym is)

-- no number lies outside of no bounds
pub none_outside : (s : Settings) (first now : ℕ) → first < 2 ^ 64 → is_outside s first now no_bounds ≡ false
none_outside s first now fits =
    rw (le-ltb now 0 (omega arith), le-ltb (2 ^ 64 - 1) first (omega arith)) (and-false (not s.skip_missing))
