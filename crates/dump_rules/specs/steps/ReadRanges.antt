-- Range lists, read part by part.
use Rattle.std.specs.Prelude.{ℕ, ◌+◌, ◌-◌, Bool, true, false, ◌&&◌, not, ◌==◌, nat_lt, nat_le, max, List, [], ◌∷◌, take, drop, length, Option, Some, None, option_and_then, position, codes, bytes_eq, if◌then◌else◌}
use Rattle.std.specs.List.{list_all, list_any, slice_split}
use Rattle.dump_text.specs.Number.{number_of}
use Rattle.dump_rules.specs.declared.ranges.Span.{Span}
use Rattle.dump_rules.specs.declared.ranges.HighestNumbers.{HighestNumbers}
use Rattle.dump_rules.specs.RangeList.{Range}

-- a span as a range
abbrev pub span_range : Span → Range
span_range s = record { from = s.from; to = s.to; inheritable = s.inheritable }

-- whether the text ends in a star
abbrev pub ends_in_star : List ℕ → Bool
ends_in_star text = bytes_eq (drop (length text - 1) text) (codes "*")

-- the text without a star at its end
abbrev pub without_star : List ℕ → List ℕ
without_star text = if ends_in_star text then take (length text - 1) text else text

-- two numbers that are both there
abbrev pub both : Option ℕ → Option ℕ → Option (ℕ × ℕ)
both None to = None
both (Some from) None = None
both (Some from) (Some to) = Some (from, to)

-- the two ends of a range with a dash at this place, or of a number without a dash
abbrev pub ends_at : Option ℕ → List ℕ → Option (ℕ × ℕ)
ends_at None text = both (number_of text) (number_of text)
ends_at (Some k) text = both (number_of (take k text)) (number_of (drop (k + 1) text))

-- the two ends of a range, which is given without its star
abbrev pub ends_of : List ℕ → Option (ℕ × ℕ)
ends_of text = ends_at (position (λ b. b == 45) text) text

-- the range between two ends, if they are in order
abbrev pub range_between : Option (ℕ × ℕ) → Bool → Option Range
range_between None kind = None
range_between (Some ends) kind =
    if nat_le 1 ends.0 && nat_le ends.0 ends.1
    then Some (record { from = ends.0; to = ends.1; inheritable = kind })
    else None

-- the range with this text, if it is one
abbrev pub range_of : List ℕ → Option Range
range_of text = range_between (ends_of (without_star text)) (not (ends_in_star text))

-- the parts of a range list
abbrev pub range_parts : List ℕ → List (List ℕ)
range_parts list = slice_split (λ b. b == 44) list

-- whether the two kinds are different
abbrev pub is_other : Bool → Bool → Bool
is_other true kind = not kind
is_other false kind = kind

-- whether the ranges have a number in common and are of different kinds
abbrev pub contradicts : Range → Range → Bool
contradicts r s = is_other r.inheritable s.inheritable && nat_le r.from s.to && nat_le s.from r.to

-- whether a part is a range that contradicts this one
abbrev pub part_contradicts : Range → Option Range → Bool
part_contradicts r None = false
part_contradicts r (Some s) = contradicts r s

-- whether a part is a range that none of the parts contradicts
abbrev pub part_agrees : List (List ℕ) → Option Range → Bool
part_agrees parts None = false
part_agrees parts (Some r) = not (list_any (λ part. part_contradicts r (range_of part)) parts)

-- whether the text is a range list without contradictions
abbrev pub list_reads : List ℕ → Bool
list_reads [] = true
list_reads (b ∷ list) =
    list_all (λ part. part_agrees (range_parts (b ∷ list)) (range_of part)) (range_parts (b ∷ list))

-- the highest numbers with those of a range, which has to begin above those of the other kind
abbrev pub raised : HighestNumbers → Range → Option HighestNumbers
raised highest r =
    if r.inheritable
    then (if nat_lt highest.starred r.from
    then Some (record { inheritable = max highest.inheritable r.to; starred = highest.starred })
    else None)
    else (if nat_lt highest.inheritable r.from
    then Some (record { inheritable = highest.inheritable; starred = max highest.starred r.to })
    else None)

-- the same of a part, which has to be a range
abbrev pub raised_by : HighestNumbers → Option Range → Option HighestNumbers
raised_by highest None = None
raised_by highest (Some r) = raised highest r

-- the highest numbers after all parts, where each begins above those of the other kind before it
abbrev pub highest_numbers : HighestNumbers → List (List ℕ) → Option HighestNumbers
highest_numbers highest [] = Some highest
highest_numbers highest (part ∷ parts) = option_and_then (λ next. highest_numbers next parts) (raised_by highest (range_of part))
