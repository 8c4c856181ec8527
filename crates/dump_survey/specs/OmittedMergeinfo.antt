-- How many lines of mergeinfo --skip-missing-merge-sources omits: the lines whose paths aren't kept. The filter itself
-- reports none of them.
use Rattle.std.specs.Prelude.{◌≡◌, ℕ, not, List, [], map, filter, length, sum, MatchBool, Option, Some, None, unwrap_or}
use Rattle.std.specs.List.{AllZip}
use Rattle.dump_text.specs.PropertyList.{Property}
use Rattle.dump_records.specs.RecordText.{DumpRecord}
use Rattle.dump_records.specs.DumpText.{Ending, HasRecords}
use Rattle.dump_rules.specs.Settings.{Settings, keeps_path}
use Rattle.dump_rules.specs.Mergeinfo.{MergeLine, IsMergeinfo, HasMergeLines}
use Rattle.dump_digest.specs.RecordParts.{is_kept_node, is_mergeinfo, value_of}
use Rattle.dump_history.specs.Findings.{IsReadBlock}

-- the value consists of these lines; None if it isn't mergeinfo
abbrev pub IsReadValue : List ℕ → Option (List MergeLine) → Type 0
IsReadValue value None = ¬ HasMergeLines value
IsReadValue value (Some lines) = IsMergeinfo value lines

-- the lines whose paths aren't kept
abbrev pub leaving_lines : Settings → List MergeLine → List MergeLine
leaving_lines settings lines = filter (λ (line : MergeLine). not (keeps_path settings line.path)) lines

-- this number of lines of the value is omitted; 0 if the value can't be read
abbrev pub AreOmittedFromValue : Settings → List ℕ → ℕ → Type 0
AreOmittedFromValue settings value count = (lines : Option (List MergeLine)) × IsReadValue value lines
    × (count ≡ length (leaving_lines settings (unwrap_or lines [])))

-- each element has a count, and this is the sum of the counts
abbrev pub AddUpTo : {X : Type 0} → (X → ℕ → Type 0) → List X → ℕ → Type 0
AddUpTo HasCount xs total = (counts : List ℕ) × AllZip HasCount xs counts × (total ≡ sum counts)

-- the values of mergeinfo among the properties; a name may occur more than once
abbrev pub mergeinfo_values : List Property → List (List ℕ)
mergeinfo_values ps = map value_of (filter is_mergeinfo ps)

-- this number of lines of the record's mergeinfo is omitted; 0 if its property block can't be read
abbrev pub AreOmittedFromProperties : Settings → DumpRecord → ℕ → Type 0
AreOmittedFromProperties settings r count = (ps : Option (List Property)) × IsReadBlock r ps
    × AddUpTo (AreOmittedFromValue settings) (mergeinfo_values (unwrap_or ps [])) count

-- this number of lines is omitted with the record; 0 if it isn't a kept node
abbrev pub AreOmittedFrom : Settings → DumpRecord → ℕ → Type 0
AreOmittedFrom settings r count =
    MatchBool (is_kept_node settings r) (AreOmittedFromProperties settings r count) (count ≡ 0)

-- this number of lines is omitted with all records of the dump
abbrev pub AreOmittedFromRecords : Settings → List ℕ → ℕ → Type 0
AreOmittedFromRecords settings dump count = (records : List DumpRecord) × (ending : Ending)
    × HasRecords dump records ending × AddUpTo (AreOmittedFrom settings) records count

-- this number of lines is omitted if the dump is filtered; without the option it is 0, since the filter stops at the
-- first such line
abbrev pub AreOmittedIn : Settings → List ℕ → ℕ → Type 0
AreOmittedIn settings dump count =
    MatchBool settings.skip_missing (AreOmittedFromRecords settings dump count) (count ≡ 0)
