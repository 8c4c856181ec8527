-- Mergeinfo, read line by line.
use Rattle.std.specs.Prelude.{ℕ, ◌-◌, Bool, true, ◌&&◌, not, ◌==◌, nat_lt, List, [], ◌∷◌, take, drop, length, codes, bytes_eq, if◌then◌else◌}
use Rattle.std.specs.List.{list_all, slice_split, suffix_len}
use Rattle.dump_rules.specs.steps.ReadRanges.{list_reads}

-- the place after the last colon; 0 if there is none
abbrev pub colon_end : List ℕ → ℕ
colon_end line = length line - suffix_len (λ b. not (b == 58)) line

-- whether the text is a line: a path that isn't empty, a colon, and a range list without contradictions
abbrev pub line_reads : List ℕ → Bool
line_reads line = nat_lt 1 (colon_end line) && list_reads (drop (colon_end line) line)

-- the value without an LF at its end
abbrev pub without_lf : List ℕ → List ℕ
without_lf value =
    if bytes_eq (drop (length value - 1) value) (codes "\n") then take (length value - 1) value else value

-- whether the text is empty, or lines with LFs between them
abbrev pub lines_read : List ℕ → Bool
lines_read [] = true
lines_read (b ∷ text) = list_all line_reads (slice_split (λ c. c == 10) (b ∷ text))

-- the same of a value, with an LF at its end or without
abbrev pub value_reads : List ℕ → Bool
value_reads value = lines_read (without_lf value)
