-- Whether a kept node names a revision after a dropped one, record by record.
use Rattle.std.specs.Prelude.{◌≡◌, Bool, false, not, ◌&&◌, ◌||◌, List, [], ◌∷◌, is_some}
use Rattle.dump_records.specs.RecordText.{DumpRecord}
use Rattle.dump_rules.specs.Settings.{Settings}
use Rattle.dump_digest.specs.RecordParts.{is_kept_node}
use Rattle.dump_history.specs.steps.NamingTests.{TellsNaming}
use Rattle.dump_survey.specs.declared.findings.tally.Tally.{Tally}
use Rattle.dump_survey.specs.steps.Tally.{no_tally, next_tally}

-- whether there is a present revision, and a revision before it is dropped
abbrev pub is_behind_dropped : Tally → Bool
is_behind_dropped t = is_some t.present && not t.all_kept

-- whether this record is a kept node that names a revision, by a test of nodes, after a revision was dropped while the
-- others keep their numbers. The tally describes the records before it.
abbrev pub leaves_number : Settings → (DumpRecord → Bool) → Tally → DumpRecord → Bool
leaves_number settings names t r =
    not settings.renumber && (is_behind_dropped t && (is_kept_node settings r && names r))

-- whether one of these records is such a node
abbrev pub leave_number : Settings → (DumpRecord → Bool) → Tally → List DumpRecord → Bool
leave_number settings names t [] = false
leave_number settings names t (r ∷ records) =
    leaves_number settings names t r || leave_number settings names (next_tally settings t r) records

-- whether one of these records, the first ones of a dump, is such a node
abbrev pub LeaveNumber : Settings → List DumpRecord → Bool → Type 0
LeaveNumber settings records left =
    (names : DumpRecord → Bool) → TellsNaming names → left ≡ leave_number settings names no_tally records
