-- Mergeinfo, rewritten line by line.
use Rattle.std.specs.Prelude.{ℕ, ◌-◌, Bool, false, ◌&&◌, ◌||◌, not, ◌==◌, nat_lt, List, [], ◌∷◌, ◌++◌, take, drop, codes, Option, Some, None, if◌then◌else◌}
use Rattle.std.specs.List.{list_any, slice_split}
use Rattle.dump_rules.specs.Settings.{Settings, keeps_path}
use Rattle.dump_rules.specs.Renumbering.{KeptRevisions}
use Rattle.dump_rules.specs.RangeList.{Range, runs_text}
use Rattle.dump_rules.specs.steps.ReadRanges.{range_of, range_parts}
use Rattle.dump_rules.specs.steps.ReadMergeinfo.{colon_end, without_lf}
use Rattle.dump_rules.specs.steps.Runs.{runs_of}
use Rattle.dump_rules.specs.steps.NewRanges.{list_new}

-- the path of a line
abbrev pub line_path : List ℕ → List ℕ
line_path line = take (colon_end line - 1) line

-- the range list of a line
abbrev pub line_list : List ℕ → List ℕ
line_list line = drop (colon_end line) line

-- the lines of a text
abbrev pub text_lines : List ℕ → List (List ℕ)
text_lines [] = []
text_lines (b ∷ text) = slice_split (λ c. c == 10) (b ∷ text)

-- the output with an LF, unless it is empty
abbrev pub with_break : List ℕ → List ℕ
with_break [] = []
with_break (b ∷ out) = (b ∷ out) ++ codes "\n"

-- the output and a line of these runs, if there are any
abbrev pub with_runs : List ℕ → List ℕ → List Range → List ℕ
with_runs out path [] = out
with_runs out path (r ∷ runs) = with_break out ++ path ++ codes ":" ++ runs_text (r ∷ runs)

-- the output and what the filter makes of a line
abbrev pub with_new_line : Settings → KeptRevisions → List ℕ → List ℕ → List ℕ
with_new_line settings kept out line =
    if keeps_path settings (line_path line)
    then with_runs out (line_path line) (runs_of (list_new settings.renumber kept (line_list line)))
    else out

-- the output and what the filter makes of these lines
abbrev pub with_new_lines : Settings → KeptRevisions → List ℕ → List (List ℕ) → List ℕ
with_new_lines settings kept out [] = out
with_new_lines settings kept out (line ∷ lines) =
    with_new_lines settings kept (with_new_line settings kept out line) lines

-- whether the path of a line isn't kept
abbrev pub line_misses : Settings → List ℕ → Bool
line_misses settings line = not (keeps_path settings (line_path line))

-- whether missing sources aren't skipped, and a line of the text has a path that isn't kept
abbrev pub text_misses : Settings → List ℕ → Bool
text_misses settings text = not settings.skip_missing && list_any (line_misses settings) (text_lines text)

-- whether a range has a number above the present revision, or one below the first and missing sources aren't skipped
abbrev pub range_foreign : Settings → ℕ → ℕ → Range → Bool
range_foreign settings first now r = nat_lt now r.to || (not settings.skip_missing && nat_lt r.from first)

-- whether a part is such a range
abbrev pub part_foreign : Settings → ℕ → ℕ → Option Range → Bool
part_foreign settings first now None = false
part_foreign settings first now (Some r) = range_foreign settings first now r

-- whether a range list has such a range
abbrev pub list_foreign : Settings → ℕ → ℕ → List ℕ → Bool
list_foreign settings first now [] = false
list_foreign settings first now (b ∷ list) =
    list_any (λ part. part_foreign settings first now (range_of part)) (range_parts (b ∷ list))

-- whether the path of a line is kept, and the line has such a range
abbrev pub line_foreign : Settings → ℕ → ℕ → List ℕ → Bool
line_foreign settings first now line =
    keeps_path settings (line_path line) && list_foreign settings first now (line_list line)

-- whether revisions are renumbered, and the path of a line of the text is kept that has such a range
abbrev pub text_foreign : Settings → ℕ → ℕ → List ℕ → Bool
text_foreign settings first now text =
    settings.renumber && list_any (line_foreign settings first now) (text_lines text)

-- whether missing sources aren't skipped, and a line of the value has a path that isn't kept
abbrev pub value_misses : Settings → List ℕ → Bool
value_misses settings value = text_misses settings (without_lf value)

-- whether revisions are renumbered, and the path of a line of the value is kept that has such a range
abbrev pub value_foreign : Settings → ℕ → ℕ → List ℕ → Bool
value_foreign settings first now value = text_foreign settings first now (without_lf value)
