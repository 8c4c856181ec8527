-- The findings in the prefixes of a call: prefixes with which the filter does nothing, or not what the user means.
use Rattle.std.specs.Prelude.{ℕ, Bool, not, ◌&&◌, ◌||◌, List, Option, Some, None, option_map, if◌then◌else◌}
use Rattle.std.specs.List.{list_any, filter_map}
use Rattle.dump_records.specs.RecordText.{DumpRecord}
use Rattle.dump_rules.specs.Prefix.{bare_prefix, bare_path, begins_path, matches_path}
use Rattle.dump_digest.specs.RecordParts.{is_node, is_copy, node_path}
use Rattle.dump_trees.specs.Paths.{is_short}
use Rattle.dump_history.specs.RecordChanges.{copy_path}
use Rattle.dump_history.specs.Findings.{makes_copy}
use Rattle.dump_survey.specs.declared.findings.prefix_findings.PrefixFinding.{PrefixFinding}
use Rattle.dump_survey.specs.declared.findings.prefix_findings.PrefixFinding.TheVariants.{NotCanonical, Idle}
use Rattle.dump_survey.specs.declared.findings.prefix_findings.ReportedPrefix.{ReportedPrefix}

-- whether the prefix is canonical, as `svnadmin load` makes paths canonical: after the slashes at both ends are
-- removed, no name is empty or a dot
abbrev pub is_short_prefix : List ℕ → Bool
is_short_prefix prefix = is_short (bare_prefix prefix)

-- whether the record is a node that has a path at or below the prefix, or is copied from such a path
abbrev pub is_matched_by : List ℕ → DumpRecord → Bool
is_matched_by prefix r =
    is_node r && (matches_path prefix (node_path r) || (is_copy r && matches_path prefix (copy_path r)))

-- whether the record is a copy to the prefix or to a path above it; the copy may bring what the prefix names
abbrev pub is_in_copy : List ℕ → DumpRecord → Bool
is_in_copy prefix r =
    is_node r && (makes_copy r && begins_path (bare_path (node_path r)) (bare_prefix prefix))

-- whether the prefix is idle: no record is such a node
abbrev pub is_idle : List DumpRecord → List ℕ → Bool
is_idle records prefix = not (list_any (λ r. is_matched_by prefix r || is_in_copy prefix r) records)

-- the finding in the prefix, if there is one; for a prefix that isn't canonical, no other finding is reported
abbrev pub prefix_finding : List DumpRecord → List ℕ → Option PrefixFinding
prefix_finding records prefix =
    if is_short_prefix prefix then (if is_idle records prefix then Some Idle else None) else Some NotCanonical

-- a prefix as the caller gave it, and the finding in it
pub record PrefixReport : Type 0 where
  pub prefix : List ℕ
  pub finding : PrefixFinding

-- the report that a value of the program means
abbrev pub prefix_view : ReportedPrefix → PrefixReport
prefix_view t = record { prefix = t.prefix.now; finding = t.finding }

-- what is reported of the prefix, if it has a finding
abbrev pub reported_of_prefix : List DumpRecord → List ℕ → Option PrefixReport
reported_of_prefix records prefix =
    option_map (λ finding. record { prefix = prefix; finding = finding }) (prefix_finding records prefix)

-- what is reported of the prefixes, in their order
abbrev pub reported_prefixes : List DumpRecord → List (List ℕ) → List PrefixReport
reported_prefixes records prefixes = filter_map (reported_of_prefix records) prefixes
