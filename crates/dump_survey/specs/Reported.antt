-- What a survey reports of a dump: each finding in a node of a revision, in order, and its place.
use Rattle.std.specs.Prelude.{◌≡◌, ℕ, List, [], ◌∷◌, ◌++◌, length, map, Option, Some, None, option_copied, if◌then◌else◌, MatchBool}
use Rattle.dump_records.specs.RecordText.{DumpRecord}
use Rattle.dump_rules.specs.Settings.{Settings}
use Rattle.dump_digest.specs.RecordParts.{is_revision_record, is_node, node_path}
use Rattle.dump_filter.specs.Groups.{revision_number}
use Rattle.dump_history.specs.RecordChanges.{copy_path, copy_revision}
use Rattle.dump_history.specs.Findings.{AreFindingsOf}
use Rattle.dump_survey.specs.CuttingPrefix.{cutting_prefix}
use Rattle.dump_survey.specs.declared.findings.reported.ReportedFinding.{ReportedFinding}
use Rattle.dump_history.specs.declared.findings.Finding.{Finding}

-- a report of a finding in a node. It has the record's number and place, the number of the node's revision, the path
-- and the copy source. If the node is no copy, the source path is empty and the source revision is 0. The prefix is
-- the first one because of which the copy is filtered differently from its source.
pub record NodeReport : Type 0 where
  pub finding : Finding
  pub number : ℕ
  pub place : ℕ
  pub revision : ℕ
  pub path : List ℕ
  pub copy_path : List ℕ
  pub copy_revision : ℕ
  pub prefix : Option (List ℕ)

-- the report that a value of the program means
abbrev pub reported_view : ReportedFinding → NodeReport
reported_view t = record {
  finding = t.finding;
  number = t.number;
  place = t.place;
  revision = t.revision;
  path = t.path.now;
  copy_path = t.copy_path.now;
  copy_revision = t.copy_revision;
  prefix = option_copied t.prefix;
}

-- the report of a finding in the node with this number, in this revision, with this prefix
abbrev pub report_with_prefix : Option (List ℕ) → ℕ → ℕ → DumpRecord → Finding → NodeReport
report_with_prefix prefix number revision r finding = record {
  finding = finding;
  number = number;
  place = r.place;
  revision = revision;
  path = node_path r;
  copy_path = copy_path r;
  copy_revision = copy_revision r;
  prefix = prefix;
}

-- the report of a finding in the node with this number, in this revision
abbrev pub reported_in : Settings → ℕ → ℕ → DumpRecord → Finding → NodeReport
reported_in settings number revision r finding =
    report_with_prefix (cutting_prefix settings r finding) number revision r finding

-- the revision that the next record belongs to if it is a node: after a revision that revision, and after a node the
-- node's revision
abbrev pub present_after : Option ℕ → DumpRecord → Option ℕ
present_after present r = if is_revision_record r then Some (revision_number r) else if is_node r then present else None

-- this is reported of a node of this revision that follows these records
abbrev pub IsReportedOfNode : Settings → List DumpRecord → ℕ → DumpRecord → List NodeReport → Type 0
IsReportedOfNode settings before revision r reported = (found : List Finding) × AreFindingsOf settings before r found
    × (reported ≡ map (reported_in settings (length before) revision r) found)

-- this is reported of the record that follows these records; if the record is a node, it belongs to this revision
abbrev pub IsReportedOf : Settings → List DumpRecord → Option ℕ → DumpRecord → List NodeReport → Type 0
IsReportedOf settings before None r reported = reported ≡ []
IsReportedOf settings before (Some revision) r reported =
    MatchBool (is_node r) (IsReportedOfNode settings before revision r reported) (reported ≡ [])

-- this is reported of the records that follow these records
abbrev pub AreReported : Settings → List DumpRecord → Option ℕ → List DumpRecord → List NodeReport → Type 0
AreReported settings before present [] reported = reported ≡ []
AreReported settings before present (r ∷ records) reported = (this others : List NodeReport) × (reported ≡ this ++ others)
    × IsReportedOf settings before present r this
    × AreReported settings (before ++ r ∷ []) (present_after present r) records others
