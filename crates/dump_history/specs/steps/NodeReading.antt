-- Which of a node's values the filter rejects, by their reading.
use Rattle.std.specs.Prelude.{ℕ, Bool, false, not, ◌&&◌, ◌||◌, nat_lt, nat_le, List, [], ◌∷◌, ◌++◌, Option, Some, None}
use Rattle.std.specs.List.{list_any}
use Rattle.dump_text.specs.Names.{copy_revision_name}
use Rattle.dump_text.specs.PropertyList.{Property}
use Rattle.dump_records.specs.HeaderRules.{header_number}
use Rattle.dump_records.specs.RecordText.{DumpRecord}
use Rattle.dump_rules.specs.Settings.{Settings}
use Rattle.dump_rules.specs.steps.ReadMergeinfo.{value_reads}
use Rattle.dump_rules.specs.steps.RewrittenLines.{value_misses, value_foreign}
use Rattle.dump_digest.specs.RecordParts.{is_kept_node, is_mergeinfo, value_of}
use Rattle.dump_filter.specs.Groups.{kept_revisions}
use Rattle.dump_filter.specs.NewHeaders.{stays_copy}
use Rattle.dump_filter.specs.RecordFaults.{present_number}
use Rattle.dump_history.specs.Findings.{NodeFaults}

-- whether the property is mergeinfo that can't be read
abbrev pub is_unread_value : Property → Bool
is_unread_value p = is_mergeinfo p && not (value_reads (value_of p))

-- whether it is mergeinfo that can be read and names a path that isn't kept, unless such lines are omitted
abbrev pub names_missing_source : Settings → Property → Bool
names_missing_source settings p = is_mergeinfo p && (value_reads (value_of p) && value_misses settings (value_of p))

-- whether it is mergeinfo that can be read and names a revision outside of the dump, which begins with the first of
-- these numbers and has come to the second
abbrev pub names_outside : Settings → ℕ → ℕ → Property → Bool
names_outside settings first present p =
    is_mergeinfo p && (value_reads (value_of p) && value_foreign settings first present (value_of p))

-- whether one of the kept revisions' numbers is at most this one
abbrev pub has_up_to : ℕ → List ℕ → Bool
has_up_to number numbers = list_any (λ k. nat_le k number) numbers

-- whether a number has no new one, or is above the present one; none has none
abbrev pub is_missing_number : Option ℕ → List ℕ → ℕ → Bool
is_missing_number None kept present = false
is_missing_number (Some number) kept present = not (has_up_to number kept) || nat_lt present number

-- whether the filter rejects the revision that the node is copied from
abbrev pub has_missing_revision : Settings → List ℕ → ℕ → DumpRecord → Bool
has_missing_revision settings kept present r =
    (settings.renumber && is_kept_node settings r && stays_copy settings r)
    && is_missing_number (header_number copy_revision_name r.headers) kept present

-- the same of a node that follows these records
abbrev pub copy_refused : Settings → List DumpRecord → DumpRecord → Bool
copy_refused settings before r =
    has_missing_revision settings (kept_revisions settings (before ++ r ∷ [])).numbers (present_number before) r

-- what the filter rejects in one of a kept node's properties, by the numbers of the dump's first revision and of the
-- present one
abbrev pub property_faults : Settings → ℕ → ℕ → Property → NodeFaults
property_faults settings first present p = record {
  copy_revision = false;
  unread = is_unread_value p;
  missing = names_missing_source settings p;
  outside = names_outside settings first present p;
}

-- what is rejected of all of them, and of the copy
abbrev pub faults_read : Settings → Bool → ℕ → ℕ → List Property → NodeFaults
faults_read settings copy first present ps = record {
  copy_revision = copy;
  unread = list_any is_unread_value ps;
  missing = list_any (names_missing_source settings) ps;
  outside = list_any (names_outside settings first present) ps;
}

-- the copy alone is rejected, or not
abbrev pub copy_faults : Bool → NodeFaults
copy_faults copy = record { copy_revision = copy; unread = false; missing = false; outside = false }

-- nothing is rejected
abbrev pub no_node_faults : NodeFaults
no_node_faults = copy_faults false
