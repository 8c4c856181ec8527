-- What the filter asks of values of mergeinfo, read line by line: missing sources, and the bounds of their numbers.
use Rattle.std.specs.Prelude.{ℕ, ◌-◌, ◌^◌, Bool, false, not, ◌&&◌, ◌||◌, nat_lt, min, max, List, [], ◌∷◌, Option, Some, None, option_and_then, if◌then◌else◌}
use Rattle.dump_rules.specs.declared.merged.Bounds.{Bounds}
use Rattle.dump_rules.specs.declared.merged.Merged.{Merged}
use Rattle.dump_rules.specs.Settings.{Settings, keeps_path}
use Rattle.dump_rules.specs.RangeList.{Range}
use Rattle.dump_rules.specs.steps.ReadRanges.{range_of, range_parts}
use Rattle.dump_rules.specs.steps.ReadMergeinfo.{line_reads, without_lf}
use Rattle.dump_rules.specs.steps.RewrittenLines.{line_list, line_path, text_lines}

-- the bounds of no range
abbrev pub no_bounds : Bounds
no_bounds = record { least = 2 ^ 64 - 1; greatest = 0 }

-- the bounds with a range added
abbrev pub widened : Bounds → Range → Bounds
widened b r = record { least = min b.least r.from; greatest = max b.greatest r.to }

-- the bounds with a part of a list added, if it is a range
abbrev pub widened_by : Bounds → Option Range → Bounds
widened_by bounds None = bounds
widened_by bounds (Some r) = widened bounds r

-- the bounds with a list of parts added
abbrev pub parts_bounds : Bounds → List (List ℕ) → Bounds
parts_bounds bounds [] = bounds
parts_bounds bounds (part ∷ parts) = parts_bounds (widened_by bounds (range_of part)) parts

-- the bounds with a range list added
abbrev pub list_bounds : Bounds → List ℕ → Bounds
list_bounds bounds [] = bounds
list_bounds bounds (b ∷ list) = parts_bounds bounds (range_parts (b ∷ list))

-- whether a number between the bounds is above the present revision, or is below the first one and missing sources
-- aren't skipped
abbrev pub is_outside : Settings → ℕ → ℕ → Bounds → Bool
is_outside settings first now b = nat_lt now b.greatest || (not settings.skip_missing && nat_lt b.least first)

-- what no values say
abbrev pub nothing_merged : Merged
nothing_merged = record { misses = false; numbers = no_bounds }

-- what some values and this line say; the path of the line may be kept or not
abbrev pub line_said : Settings → Merged → List ℕ → Merged
line_said settings said line =
    if keeps_path settings (line_path line)
    then (if settings.renumber then record said { numbers = list_bounds said.numbers (line_list line) } else said)
    else record said { misses = said.misses || not settings.skip_missing }

-- what some values and this text say, which has to be a line
abbrev pub line_merged : Settings → Merged → List ℕ → Option Merged
line_merged settings said line = if line_reads line then Some (line_said settings said line) else None

-- what some values and these texts say, which have to be lines
abbrev pub lines_merged : Settings → Merged → List (List ℕ) → Option Merged
lines_merged settings said [] = Some said
lines_merged settings said (line ∷ lines) =
    option_and_then (λ next. lines_merged settings next lines) (line_merged settings said line)

-- what some values and this one say, which has to be mergeinfo
abbrev pub text_merged : Settings → Merged → List ℕ → Option Merged
text_merged settings said value = lines_merged settings said (text_lines (without_lf value))
