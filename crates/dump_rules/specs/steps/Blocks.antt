-- How range lists are searched for contradictions, block by block.
use Rattle.std.specs.Prelude.{◌≡◌, ℕ, ◌+◌, ◌<◌, ◌≤◌, Bool, false, ◌&&◌, ◌||◌, nat_le, max, List, [], ◌∷◌, length, take, Option, Some, None}
use Rattle.std.specs.List.{list_all, list_any}
use Rattle.std.specs.Borrow.{Bor}
use Rattle.std.specs.Option.{option_copied}
use Rattle.dump_rules.specs.declared.blocks.Ends.{Ends}
use Rattle.dump_rules.specs.RangeList.{Range}
use Rattle.dump_rules.specs.steps.ReadRanges.{is_other, range_of, range_parts, part_agrees, part_contradicts}

-- the parts of the rest of a list, if there is a rest
abbrev pub parts_left : Option (List ℕ) → List (List ℕ)
parts_left None = []
parts_left (Some list) = range_parts list

-- a number above the length of the rest, or 0 if there is no rest
abbrev pub left_size : Option (List ℕ) → ℕ
left_size None = 0
left_size (Some list) = length list + 1

-- whether each of these parts is a range that no part of the list contradicts
abbrev pub parts_agree : List (List ℕ) → List (List ℕ) → Bool
parts_agree all parts = list_all (λ part. part_agrees all (range_of part)) parts

-- whether a part is a range, and is of the other kind or isn't contradicted by any part of the list
abbrev pub kind_part_agrees : Bool → List (List ℕ) → Option Range → Bool
kind_part_agrees kind all None = false
kind_part_agrees kind all (Some r) = is_other kind r.inheritable || part_agrees all (Some r)

-- whether each of these parts is a range, and no part of the list contradicts those of this kind
abbrev pub kind_agrees : Bool → List (List ℕ) → List (List ℕ) → Bool
kind_agrees kind all parts = list_all (λ part. kind_part_agrees kind all (range_of part)) parts

-- the range with this kind and these ends
abbrev pub ends_range : Bool → Ends → Range
ends_range kind ends = record { from = ends.from; to = ends.to; inheritable = kind }

-- whether no part contradicts one of these ranges
abbrev pub block_agrees : Bool → List (List ℕ) → List Ends → Bool
block_agrees kind all block = list_all (λ ends. part_agrees all (Some (ends_range kind ends))) block

-- whether the part contradicts one of these ranges
abbrev pub block_contradicts : Bool → List Ends → Option Range → Bool
block_contradicts kind block part = list_any (λ ends. part_contradicts (ends_range kind ends) part) block

-- whether the range from one number to another has a number in common with these ends
abbrev pub meets : ℕ → ℕ → Ends → Bool
meets from to ends = nat_le ends.from to && nat_le from ends.to

-- the ranges with each upper end raised to the highest one up to there
abbrev pub raised_ends : ℕ → List Ends → List Ends
raised_ends highest [] = []
raised_ends highest (ends ∷ block) =
    record { from = ends.from; to = max highest ends.to } ∷ raised_ends (max highest ends.to) block

-- either the first parts of the list are ranges, the block has those of this kind, and the rest of the list is
-- shorter; or a part isn't a range
abbrev pub IsFilled : Bool → List ℕ → Option (ℕ × Option (Bor (List ℕ))) → List Ends → Type 0
IsFilled kind list None block = (all : List (List ℕ)) → kind_agrees kind all (range_parts list) ≡ false
IsFilled kind list (Some told) block = (told.0 ≤ length block)
    × (left_size (option_copied told.1) < left_size (Some list))
    × ((all : List (List ℕ)) → kind_agrees kind all (range_parts list)
    ≡ (block_agrees kind all (take told.0 block) && kind_agrees kind all (parts_left (option_copied told.1))))
