-- The revisions that the filter keeps, record by record.
use Rattle.std.specs.Prelude.{◌≡◌, ◌<◌, ◌^◌, ℕ, List, [], ◌∷◌, ◌++◌, Option, Some, None, if◌then◌else◌}
use Rattle.dump_records.specs.RecordText.{DumpRecord}
use Rattle.dump_records.specs.DumpText.{Ending, HasRecords}
use Rattle.dump_rules.specs.Renumbering.{KeptRevisions}
use Rattle.dump_rules.specs.Settings.{Settings}
use Rattle.dump_digest.specs.RecordParts.{is_node}
use Rattle.dump_filter.specs.Groups.{kept_revisions}
use Rattle.dump_survey.specs.declared.report.revision_map.KeptNumbers.{KeptNumbers}
use Rattle.dump_survey.specs.declared.report.revision_map.NumberCollector.{NumberCollector}
use Rattle.dump_survey.specs.declared.findings.tally.Tally.{Tally}
use Rattle.dump_survey.specs.declared.findings.tally.Present.{Present}
use Rattle.dump_survey.specs.steps.Tally.{keeps_open, next_tally, no_tally, tally_behind}

-- the number of the present revision, if the filter keeps it when no more nodes follow
abbrev pub ended_numbers : Settings → Option Present → List ℕ
ended_numbers settings None = []
ended_numbers settings (Some p) = if keeps_open settings (Some p) then p.number ∷ [] else []

-- the number that is added before this record: the same, but none if the record is one more node
abbrev pub numbers_before : Settings → Option Present → DumpRecord → List ℕ
numbers_before settings p r = if is_node r then [] else ended_numbers settings p

-- the numbers that are added after a tally, up to the end of these records
abbrev pub kept_by : Settings → Tally → List DumpRecord → List ℕ
kept_by settings t [] = ended_numbers settings t.present
kept_by settings t (r ∷ records) =
    numbers_before settings t.present r ++ kept_by settings (next_tally settings t r) records

-- a collector that was given these records, and nothing before them
pub record HasKept (first : NumberCollector) (records : List DumpRecord) (now : NumberCollector) : Type 0 where
  pub none : (first.tally ≡ no_tally) × (first.numbers.items ≡ [])
  pub options : now.options.now ≡ first.options.now
  pub tallied : now.tally ≡ tally_behind first.options.now no_tally records
  pub kept : (rest : List DumpRecord) → kept_by first.options.now no_tally (records ++ rest)
      ≡ now.numbers.items ++ kept_by first.options.now now.tally rest

-- the kept revisions that a value of the program means
abbrev pub kept_view : KeptNumbers → KeptRevisions
kept_view k = record { first = k.first; numbers = k.numbers.items }

-- these are the dump's kept revisions, up to the end of its list of records
pub record AreKeptIn (settings : Settings) (dump : List ℕ) (kept : KeptRevisions) : Type 0 where
  pub records : List DumpRecord
  pub ending : Ending
  pub has : HasRecords dump records ending
  pub kept_are : kept ≡ kept_revisions settings records
  pub small : kept.first < 10 ^ 18
