-- Ranges of old numbers as ranges of new ones.
use Rattle.std.specs.Prelude.{ℕ, ◌+◌, ◌-◌, Bool, nat_lt, nat_le, count_by, List, [], ◌∷◌, Option, Some, None, if◌then◌else◌}
use Rattle.dump_rules.specs.RangeList.{Range}
use Rattle.dump_rules.specs.steps.ReadRanges.{range_of, range_parts}
use Rattle.dump_rules.specs.Renumbering.{KeptRevisions}
use Rattle.dump_rules.specs.steps.Runs.{with_range}

-- the new numbers of the kept revisions in a range, if there are any
abbrev pub new_range : KeptRevisions → Range → Option Range
new_range kept r =
    if nat_lt (count_by (λ k. nat_lt k r.from) kept.numbers) (count_by (λ k. nat_le k r.to) kept.numbers)
    then Some (record {
      from = kept.first + count_by (λ k. nat_lt k r.from) kept.numbers;
      to = kept.first + (count_by (λ k. nat_le k r.to) kept.numbers - 1);
      inheritable = r.inheritable;
    })
    else None

-- the new range of a range, with renumbering or without
abbrev pub kept_range : Bool → KeptRevisions → Range → Option Range
kept_range renumber kept r = if renumber then new_range kept r else Some r

-- the same of the ranges
abbrev pub new_ranges : Bool → KeptRevisions → List Range → List Range
new_ranges renumber kept [] = []
new_ranges renumber kept (r ∷ rest) = with_range (kept_range renumber kept r) (new_ranges renumber kept rest)

-- the same of a part
abbrev pub part_range : Bool → KeptRevisions → Option Range → Option Range
part_range renumber kept None = None
part_range renumber kept (Some r) = kept_range renumber kept r

-- the same of a list of parts
abbrev pub parts_ranges : Bool → KeptRevisions → List (List ℕ) → List Range
parts_ranges renumber kept [] = []
parts_ranges renumber kept (part ∷ parts) =
    with_range (part_range renumber kept (range_of part)) (parts_ranges renumber kept parts)

-- the same of a range list
abbrev pub list_new : Bool → KeptRevisions → List ℕ → List Range
list_new renumber kept [] = []
list_new renumber kept (b ∷ list) = parts_ranges renumber kept (range_parts (b ∷ list))
