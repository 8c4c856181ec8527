-- The revisions that the filter keeps, record by record.
use Rattle.std.specs.Prelude.{◌≡◌, ℕ, Bool, true, false, ◌||◌, ◌==◌, List, [], ◌∷◌, Option, Some, None, if◌then◌else◌}
use Rattle.dump_records.specs.DumpText.{Ending, HasRecords}
use Rattle.dump_records.specs.RecordText.{DumpRecord}
use Rattle.dump_rules.specs.Settings.{Settings}
use Rattle.dump_digest.specs.RecordParts.{is_kept_node, is_node, is_revision_record}
use Rattle.dump_filter.specs.Groups.{keeps_empty, revision_number}
use Rattle.dump_cut.specs.RevisionFates.{fates_of_groups}
use Rattle.dump_cut.specs.declared.fates.OpenRevision.{OpenRevision}
use Rattle.dump_cut.specs.declared.fates.RevisionFate.{RevisionFate}

-- whether the filter keeps a revision, if it has no more nodes
abbrev pub open_fate : Settings → OpenRevision → RevisionFate
open_fate settings p = record {
  number = p.number;
  stays = p.number == 0 || p.kept || keeps_empty settings.empty p.bare;
}

-- the open revision, if there is one and it has no more nodes, and whether the filter keeps it
abbrev pub ended_fates : Settings → Option OpenRevision → List RevisionFate
ended_fates settings None = []
ended_fates settings (Some p) = open_fate settings p ∷ []

-- the same if this record comes next, which may be one more node of the open revision
abbrev pub fates_before : Settings → Option OpenRevision → DumpRecord → List RevisionFate
fates_before settings present r = if is_node r then [] else ended_fates settings present

-- the open revision with one more node, which is kept or not
abbrev pub open_with : Bool → Option OpenRevision → Option OpenRevision
open_with kept None = None
open_with kept (Some p) = Some (record { number = p.number; bare = false; kept = p.kept || kept })

-- the open revision after this record
abbrev pub open_after : Settings → Option OpenRevision → DumpRecord → Option OpenRevision
open_after settings present r =
    if is_revision_record r then Some (record { number = revision_number r; bare = true; kept = false })
    else if is_node r then open_with (is_kept_node settings r) present else None

-- these are the revisions of a dump, up to the end of its list of records
pub record AreFatesIn (settings : Settings) (dump : List ℕ) (fates : List RevisionFate) : Type 0 where
  pub records : List DumpRecord
  pub ending : Ending
  pub has : HasRecords dump records ending
  pub fates_are : fates ≡ fates_of_groups settings records
