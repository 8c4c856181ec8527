-- Ranges in the order of their lower ends, joined into runs.
use Rattle.std.specs.Prelude.{ℕ, ◌+◌, ◌≤◌, Bool, ◌&&◌, not, nat_le, max, List, [], ◌∷◌, Option, Some, None, if◌then◌else◌}
use Rattle.dump_rules.specs.RangeList.{Range}
use Rattle.dump_rules.specs.steps.ReadRanges.{is_other, range_of, range_parts}

-- whether the ranges are of one kind, and the second begins in the first or directly after it
abbrev pub touches : Range → Range → Bool
touches r s = not (is_other r.inheritable s.inheritable) && nat_le s.from (r.to + 1)

-- the range up to this number, or to its own end if that is higher
abbrev pub reaching : Range → ℕ → Range
reaching r to = record { from = r.from; to = max r.to to; inheritable = r.inheritable }

-- the range and those after it; each is joined to the one before if the two touch
abbrev pub joined_from : Range → List Range → List Range
joined_from r [] = r ∷ []
joined_from r (s ∷ rest) = if touches r s then joined_from (reaching r s.to) rest else r ∷ joined_from s rest

-- the ranges; each is joined to the one before if the two touch
abbrev pub joined : List Range → List Range
joined [] = []
joined (r ∷ rest) = joined_from r rest

-- the range inserted into a list that is sorted by lower ends
abbrev pub ordered_into : Range → List Range → List Range
ordered_into r [] = r ∷ []
ordered_into r (s ∷ rest) = if nat_le r.from s.from then r ∷ s ∷ rest else s ∷ ordered_into r rest

-- the ranges sorted by their lower ends
abbrev pub ordered : List Range → List Range
ordered [] = []
ordered (r ∷ rest) = ordered_into r (ordered rest)

-- the runs of the map that the ranges mean
abbrev pub runs_of : List Range → List Range
runs_of ranges = joined (ordered ranges)

-- each range has at least one number
abbrev pub HaveNumbers : List Range → Type 0
HaveNumbers [] = Unit {0}
HaveNumbers (r ∷ rest) = (r.from ≤ r.to) × HaveNumbers rest

-- a range, if there is one, in front of others
abbrev pub with_range : Option Range → List Range → List Range
with_range None ranges = ranges
with_range (Some r) ranges = r ∷ ranges

-- the ranges among these parts
abbrev pub ranges_of : List (List ℕ) → List Range
ranges_of [] = []
ranges_of (part ∷ parts) = with_range (range_of part) (ranges_of parts)

-- the ranges in a text
abbrev pub list_ranges : List ℕ → List Range
list_ranges [] = []
list_ranges (b ∷ list) = ranges_of (range_parts (b ∷ list))
