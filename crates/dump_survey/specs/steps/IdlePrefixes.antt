-- The bare prefixes that are idle so far, as the surveyor keeps them.
use Rattle.std.specs.Prelude.{◌≡◌, ℕ, Bool, not, ◌&&◌, ◌||◌, List, Option, Some, None, map, option_map, bytes_eq, if◌then◌else◌}
use Rattle.std.specs.List.{list_any, filter_map}
use Rattle.dump_records.specs.RecordText.{DumpRecord}
use Rattle.dump_rules.specs.Prefix.{bare_prefix, bare_path, begins_path}
use Rattle.dump_digest.specs.RecordParts.{is_node, is_copy, node_path}
use Rattle.dump_history.specs.RecordChanges.{copy_path}
use Rattle.dump_history.specs.Findings.{makes_copy}
use Rattle.dump_survey.specs.declared.findings.prefix_findings.PrefixFinding.{PrefixFinding}
use Rattle.dump_survey.specs.declared.findings.prefix_findings.PrefixFinding.TheVariants.{NotCanonical, Idle}
use Rattle.dump_survey.specs.PrefixFindings.{PrefixReport, is_short_prefix}

-- whether the text is one of these texts
abbrev pub is_among : List ℕ → List (List ℕ) → Bool
is_among text texts = list_any (λ other. bytes_eq text other) texts

-- the new texts are the old ones without those that pass the test
abbrev pub AreWithout : (List ℕ → Bool) → List (List ℕ) → List (List ℕ) → Type 0
AreWithout test old new = (text : List ℕ) → is_among text new ≡ (is_among text old && not (test text))

-- whether the record is a node that has a path at or below the bare prefix, or is copied from such a path
abbrev pub is_begun_by : DumpRecord → List ℕ → Bool
is_begun_by r bare = is_node r
    && (begins_path bare (bare_path (node_path r)) || (is_copy r && begins_path bare (bare_path (copy_path r))))

-- whether the record is a copy to the bare prefix or to a path above it
abbrev pub is_below_copy : DumpRecord → List ℕ → Bool
is_below_copy r bare = is_node r && (makes_copy r && begins_path (bare_path (node_path r)) bare)

-- whether the record is one of these two
abbrev pub is_touched_by : DumpRecord → List ℕ → Bool
is_touched_by r bare = is_begun_by r bare || is_below_copy r bare

-- these are the bare forms of the prefixes that no record touches
abbrev pub AreIdle : List DumpRecord → List (List ℕ) → List (List ℕ) → Type 0
AreIdle records prefixes idle =
    AreWithout (λ bare. list_any (λ r. is_touched_by r bare) records) (map bare_prefix prefixes) idle

-- the finding in the prefix, if these are the idle ones
abbrev pub finding_by : List (List ℕ) → List ℕ → Option PrefixFinding
finding_by idle prefix =
    if is_short_prefix prefix then (if is_among (bare_prefix prefix) idle then Some Idle else None) else Some NotCanonical

-- what is reported of the prefix, if these are the idle ones
abbrev pub reported_by : List (List ℕ) → List ℕ → Option PrefixReport
reported_by idle prefix = option_map (λ finding. record { prefix = prefix; finding = finding }) (finding_by idle prefix)

-- what is reported of the prefixes, if these are the idle ones
abbrev pub prefixes_by : List (List ℕ) → List (List ℕ) → List PrefixReport
prefixes_by idle prefixes = filter_map (reported_by idle) prefixes
