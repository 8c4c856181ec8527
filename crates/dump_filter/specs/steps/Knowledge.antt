-- What a filter stores about the records that it has accepted.
use Rattle.std.specs.Prelude.{◌≡◌, ℕ, ◌+◌, ◌<◌, ◌≤◌, ◌==◌, Bool, true, false, not, ◌&&◌, List, [], ◌∷◌, ◌++◌, length, count_by, All, Option, Some, None, MatchOption, ⊤}
use Rattle.std.specs.List.{list_all, list_any}
use Rattle.dump_records.specs.declared.record.Record.{Record}
use Rattle.dump_records.specs.RecordText.{DumpRecord}
use Rattle.dump_records.specs.steps.RecordViews.{record_dump, record_number}
use Rattle.dump_records.specs.DumpText.{BeginsWithRecords}
use Rattle.dump_rules.specs.Settings.{Settings}
use Rattle.dump_rules.specs.Renumbering.{KeptRevisions}
use Rattle.dump_rules.specs.steps.RisingNumbers.{RiseFrom}
use Rattle.dump_digest.specs.RecordParts.{is_revision_record, is_node, is_kept_node, is_checked_text}
use Rattle.dump_filter.specs.Groups.{groups, keeps_group, revision_number, present_revision, kept_revisions}
use Rattle.dump_filter.specs.RecordFaults.{AreFaultFree}
use Rattle.dump_filter.specs.Written.{AreOutputs}
use Rattle.dump_filter.specs.declared.revisions.Revisions.{Revisions}
use Rattle.dump_filter.specs.steps.State.{PresentGroup, State, no_revisions, revision_count}
use Rattle.dump_filter.specs.steps.State.PresentGroup.{NoGroup, Pending, Written}

-- whether the record is a node and has no revision number
abbrev pub is_plain : DumpRecord → Bool
is_plain r = is_node r && not (is_revision_record r)

-- the numbers of the kept revisions of the list
abbrev pub kept_numbers : Settings → List DumpRecord → List ℕ
kept_numbers settings records = (kept_revisions settings records).numbers

-- how many groups of the list aren't kept
abbrev pub dropped_groups : Settings → List DumpRecord → ℕ
dropped_groups settings records = count_by (λ g. not (keeps_group settings g)) (groups records)

-- the state has these numbers of kept revisions, and counts this many dropped ones
pub record HasCounts (s : State) (numbers : List ℕ) (dropped : ℕ) : Type 0 where
  pub numbers_are : s.revisions.kept.numbers ≡ numbers
  pub dropped_are : s.report.revisions_dropped ≡ dropped

-- the state with this group, and this revision as the present one
abbrev pub in_group : State → PresentGroup → DumpRecord → State
in_group s group y = record s { group = group; revisions = record s.revisions { present = Some (revision_number y) } }

-- how the list ends: it is empty, or ends with a version or UUID record, with a group that is written, or with one
-- whose revision is pending; and which of its revisions are already decided as kept or dropped
pub data Shape (settings : Settings) : List DumpRecord → State → Type 0 where
  Fresh : (s : State) → HasCounts s [] 0
      → Shape settings [] (record s { group = NoGroup; revisions = record s.revisions { present = None } })
  Idle : (s : State) (closed : List DumpRecord) (y : DumpRecord) → is_node y ≡ false → is_revision_record y ≡ false
      → HasCounts s (kept_numbers settings closed) (dropped_groups settings closed)
      → Shape settings (closed ++ y ∷ []) (record s { group = NoGroup })
  Passed : (s : State) (closed : List DumpRecord) (y : DumpRecord) (ns : List DumpRecord)
      → is_node y ≡ false → is_revision_record y ≡ true
      → list_all is_plain ns ≡ true → list_any (is_kept_node settings) ns ≡ true
      → HasCounts s (kept_numbers settings closed ++ revision_number y ∷ []) (dropped_groups settings closed)
      → Shape settings (closed ++ y ∷ ns) (in_group s Written y)
  Waits : (s : State) (closed : List DumpRecord) (y : DumpRecord) (ns : List DumpRecord)
      → is_node y ≡ false → is_revision_record y ≡ true
      → list_all is_plain ns ≡ true → list_any (is_kept_node settings) ns ≡ false
      → HasCounts s (kept_numbers settings closed) (dropped_groups settings closed)
      → Shape settings (closed ++ y ∷ ns) (in_group s (Pending (record { revision = y; bare = length ns == 0 })) y)

-- the least number that a kept revision may still get: that of the pending one, or the one after the present
abbrev pub open_from : ℕ → PresentGroup → ℕ
open_from present (Pending w) = present
open_from present _ = present + 1

-- `whole` has the kept revisions of `kept`, and later ones from a number on
pub record GoesOn (kept : KeptRevisions) (from : ℕ) (whole : KeptRevisions) : Type 0 where
  pub first_is : whole.first ≡ kept.first
  pub later : List ℕ
  pub numbers_are : whole.numbers ≡ kept.numbers ++ later
  pub behind : All (λ n. from ≤ n) later

-- these may be the kept revisions of the whole list, whose first records were read
abbrev pub MayBecome : State → KeptRevisions → Type 0
MayBecome s whole = MatchOption s.revisions.present ⊤
    (λ present. GoesOn s.revisions.kept (open_from present s.group) whole)

-- the pending revision is the present one
abbrev pub IsPendingAt : PresentGroup → ℕ → Type 0
IsPendingAt (Pending w) present = revision_number w.revision ≡ present
IsPendingAt _ present = ⊤

-- the kept revisions rise, up to the present one, which is the pending one if there is one
pub record AreRising (kept : KeptRevisions) (present : ℕ) (group : PresentGroup) : Type 0 where
  pub low : kept.first ≤ present
  pub rise : RiseFrom kept.first kept.numbers
  pub below : All (λ n. n < open_from present group) kept.numbers
  pub waits : IsPendingAt group present

-- the kept revisions rise, up to the present one; before the first revision there are none
abbrev pub AreKept : Revisions → PresentGroup → Type 0
AreKept revisions group = MatchOption revisions.present
    ((revisions.kept ≡ no_revisions.kept) × (group ≡ NoGroup))
    (λ present. AreRising revisions.kept present group)

-- what was written of the records so far, whichever records follow
pub record Stands (settings : Settings) (before : List DumpRecord) (s : State) (text : List ℕ) : Type 0 where
  pub present_is : s.revisions.present ≡ present_revision before
  pub first_is : s.revisions.kept.first ≡ (kept_revisions settings before).first
  pub shape : Shape settings before s
  pub numbers : AreKept s.revisions s.group
  pub written : (whole : KeptRevisions) → MayBecome s whole → AreOutputs settings false whole before text

-- the accepted records are those up to the last one
abbrev pub AreUpTo : Option Record → List DumpRecord → Type 0
AreUpTo last records = MatchOption last (records ≡ [])
    (λ r. BeginsWithRecords (record_dump r) records × (length records ≡ record_number r + 1))

-- what the last record and the state of a filter say about the records that it has accepted
pub record KnowsAccepted (settings : Settings) (last : Option Record) (s : State) : Type 0 where
  pub before : List DumpRecord
  pub up_to : AreUpTo last before
  pub free : AreFaultFree settings before
  pub text : List ℕ
  pub stands : Stands settings before s text
  pub counted : s.report.revisions_kept ≡ length s.revisions.kept.numbers
  pub room : revision_count s ≤ length before
  pub kept_is : s.report.nodes_kept ≡ count_by (is_kept_node settings) before
  pub dropped_is : s.report.nodes_dropped ≡ count_by (λ r. is_node r && not (is_kept_node settings r)) before
  pub texts_is : s.report.texts_checked ≡ count_by (is_checked_text settings) before
