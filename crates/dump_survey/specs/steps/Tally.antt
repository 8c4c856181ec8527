-- What the first records of a dump say about its revisions, record by record.
use Rattle.std.specs.Prelude.{ℕ, ◌+◌, ◌==◌, Bool, true, false, not, ◌&&◌, ◌||◌, List, [], ◌∷◌, filter, Option, Some, None, nat_le, if◌then◌else◌}
use Rattle.dump_records.specs.RecordText.{DumpRecord}
use Rattle.dump_rules.specs.Settings.{Settings}
use Rattle.dump_digest.specs.RecordParts.{is_revision_record, is_node, is_kept_node}
use Rattle.dump_filter.specs.Groups.{revision_number, keeps_empty}
use Rattle.dump_filter.specs.steps.Decision.{rises}
use Rattle.dump_history.specs.Findings.{every_dump_finding, copies_from_before}
use Rattle.dump_survey.specs.declared.findings.revision_numbers.Numbers.{Numbers}
use Rattle.dump_survey.specs.declared.findings.tally.Present.{Present}
use Rattle.dump_survey.specs.declared.findings.tally.Tally.{Tally}
use Rattle.dump_history.specs.declared.findings.DumpFinding.{DumpFinding}
use Rattle.dump_history.specs.declared.findings.DumpFinding.TheVariants as dump_wide

-- the tally before the first record
abbrev pub no_tally : Tally
no_tally = record {
  count = 0;
  first = 0;
  numbered = true;
  last = None;
  rising = true;
  node_in_first = false;
  source_before = false;
  node_outside = false;
  all_kept = true;
  least = None;
  present = None;
}

-- whether the present revision is kept, if it has no more nodes
abbrev pub keeps_open : Settings → Option Present → Bool
keeps_open settings None = true
keeps_open settings (Some p) = p.number == 0 || p.kept || keeps_empty settings.empty p.bare

-- whether each revision is kept, if the present one has no more nodes
abbrev pub keeps_present : Settings → Tally → Bool
keeps_present settings t = t.all_kept && keeps_open settings t.present

-- the lesser of the two numbers; the second one if there is no first one
abbrev pub lesser : Option ℕ → ℕ → ℕ
lesser None number = number
lesser (Some least) number = if nat_le least number then least else number

-- the least number of the kept revisions if the present one has no more nodes; this is the least number of the kept
-- ones before it
abbrev pub least_behind : Settings → Option ℕ → Option Present → Option ℕ
least_behind settings least None = least
least_behind settings least (Some p) = if keeps_open settings (Some p) then Some (lesser least p.number) else least

-- the numbers with which the revisions are compared that a node of this revision, the present one, names
abbrev pub numbers_of : Tally → ℕ → Numbers
numbers_of t present = record { first = t.first; least = t.least; present = present }

-- the number of the first revision, if the next record is a revision with this number
abbrev pub first_with : Tally → ℕ → ℕ
first_with t number = if t.count == 0 then number else t.first

-- the tally after a revision with this number
abbrev pub revision_tally : Settings → Tally → ℕ → Tally
revision_tally settings t number = record {
  count = t.count + 1;
  first = first_with t number;
  numbered = t.numbered && number == first_with t number + t.count;
  last = Some number;
  rising = t.rising && rises t.last number;
  node_in_first = t.node_in_first;
  source_before = t.source_before;
  node_outside = t.node_outside;
  all_kept = keeps_present settings t;
  least = least_behind settings t.least t.present;
  present = Some (record { number = number; bare = true; kept = false });
}

-- the tally after a node. The first flag says whether the node is kept, and the second one whether it is a copy from
-- before the first revision. If there is no present revision, the node is outside of any revision.
abbrev pub node_tally : Tally → Bool → Bool → Option Present → Tally
node_tally t kept early None = record t { node_outside = true }
node_tally t kept early (Some p) = record t {
  node_in_first = t.node_in_first || t.count == 1;
  source_before = t.source_before || early;
  present = Some (record { number = p.number; bare = false; kept = p.kept || kept });
}

-- the tally after another record
abbrev pub other_tally : Settings → Tally → Tally
other_tally settings t = record t {
  all_kept = keeps_present settings t;
  least = least_behind settings t.least t.present;
  present = None;
}

-- the tally after one more record
abbrev pub next_tally : Settings → Tally → DumpRecord → Tally
next_tally settings t r =
    if is_revision_record r then revision_tally settings t (revision_number r)
    else if is_node r then node_tally t (is_kept_node settings r) (copies_from_before t.first r) t.present
    else other_tally settings t

-- the tally after these records
abbrev pub tally_behind : Settings → Tally → List DumpRecord → Tally
tally_behind settings t [] = t
tally_behind settings t (r ∷ records) = tally_behind settings (next_tally settings t r) records

-- whether a dump that ends here has this finding. The flags say whether numbers are left, and whether the properties
-- of a revision can't be read.
abbrev pub is_tallied : Tally → (left unread : Bool) → DumpFinding → Bool
is_tallied t left unread dump_wide.NoRevision = t.count == 0
is_tallied t left unread dump_wide.OtherNumbers = not t.numbered
is_tallied t left unread dump_wide.NumberFalls = not t.rising
is_tallied t left unread dump_wide.UnreadRevision = unread
is_tallied t left unread dump_wide.NodeInFirst = t.first == 0 && t.node_in_first
is_tallied t left unread dump_wide.SourceBefore = t.source_before
is_tallied t left unread dump_wide.NodeOutside = t.node_outside
is_tallied t left unread dump_wide.NumbersLeft = left

-- the findings in a dump that ends here
abbrev pub tally_findings : Tally → (left unread : Bool) → List DumpFinding
tally_findings t left unread = filter (λ f. is_tallied t left unread f) every_dump_finding
