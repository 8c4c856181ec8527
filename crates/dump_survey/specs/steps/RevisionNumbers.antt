-- The revision numbers that decide whether the filter has a new number for a revision that a kept node names.
use Rattle.std.specs.Prelude.{◌≡◌, ℕ, Bool, true, false, not, ◌&&◌, ◌||◌, nat_lt, nat_le, List, [], ◌∷◌, ◌++◌, Option, Some, None}
use Rattle.dump_text.specs.Names.{copy_revision_name}
use Rattle.dump_records.specs.HeaderRules.{header_number}
use Rattle.dump_records.specs.RecordText.{DumpRecord}
use Rattle.dump_rules.specs.Settings.{Settings}
use Rattle.dump_digest.specs.RecordParts.{is_kept_node}
use Rattle.dump_filter.specs.Groups.{kept_revisions}
use Rattle.dump_filter.specs.NewHeaders.{stays_copy}
use Rattle.dump_filter.specs.RecordFaults.{present_number}
use Rattle.dump_history.specs.Findings.{begins_at}
use Rattle.dump_history.specs.steps.NodeReading.{has_up_to}
use Rattle.dump_survey.specs.declared.findings.revision_numbers.Numbers.{Numbers}

-- whether there is a number, and it is at most this one
abbrev pub is_up_to : ℕ → Option ℕ → Bool
is_up_to number None = false
is_up_to number (Some least) = nat_le least number

-- whether the present revision, or a kept one before it, has a number up to this one
abbrev pub reaches : Numbers → ℕ → Bool
reaches numbers number = is_up_to number numbers.least || nat_le numbers.present number

-- the numbers are those of the records before the node
pub record AreNumbersBehind (settings : Settings) (before : List DumpRecord) (r : DumpRecord) (numbers : Numbers)
    : Type 0 where
  pub first : numbers.first ≡ begins_at (before ++ r ∷ [])
  pub present : numbers.present ≡ present_number before
  pub kept : is_kept_node settings r ≡ true → (number : ℕ)
      → has_up_to number (kept_revisions settings (before ++ r ∷ [])).numbers ≡ reaches numbers number

-- whether the revision with this number has no new number, or its number is above the present one; false if there is
-- no number
abbrev pub is_missing : Numbers → Option ℕ → Bool
is_missing numbers None = false
is_missing numbers (Some number) = not (reaches numbers number) || nat_lt numbers.present number

-- whether the filter rejects the revision that the node is copied from
abbrev pub misses_revision : Settings → Numbers → DumpRecord → Bool
misses_revision settings numbers r = (settings.renumber && is_kept_node settings r && stays_copy settings r)
    && is_missing numbers (header_number copy_revision_name r.headers)
