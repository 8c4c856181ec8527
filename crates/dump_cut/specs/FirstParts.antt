-- The first part of a dump, up to a revision, and what is made of it.
use Rattle.std.specs.Prelude.{◌≡◌, ℕ, false, List}
use Rattle.dump_records.specs.DumpText.{Ending, HasRecords}
use Rattle.dump_records.specs.RecordText.{DumpRecord}
use Rattle.dump_rules.specs.declared.options.Empty.TheVariants.{Pad}
use Rattle.dump_rules.specs.Settings.{Settings}
use Rattle.dump_filter.specs.FilterLaws.{LengthsFit}
use Rattle.dump_filter.specs.WholeText.{IsCleanText}
use Rattle.dump_cut.specs.LaterParts.{IsFirstPart}
use Rattle.dump_cut.specs.TrimmedCopies.{IsTrimmedBy}

-- what the filter writes of the first part of a dump is the first part of what it writes of the dump, if no revision is dropped
-- or renumbered
abbrev pub FirstPartsAreFiltered : Type 0
FirstPartsAreFiltered = (settings : Settings) (number : ℕ) (dump text first part : List ℕ) (records : List DumpRecord) →
    IsCleanText settings dump records text → LengthsFit settings records
    → settings.renumber ≡ false → settings.empty ≡ Pad
    → IsFirstPart number dump first → IsFirstPart number text part
    → (firsts : List DumpRecord) × IsCleanText settings first firsts part

-- with deletes after its nodes, the first part of a dump is the first part of the dump with these deletes
abbrev pub FirstPartsAreTrimmed : Type 0
FirstPartsAreTrimmed = (number : ℕ) (deletes : List (List (List ℕ))) (dump text first part : List ℕ)
    (records : List DumpRecord) →
    HasRecords dump records Ending.Whole → IsTrimmedBy deletes dump text
    → IsFirstPart number dump first → IsFirstPart number text part
    → IsTrimmedBy deletes first part
