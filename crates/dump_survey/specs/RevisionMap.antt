-- The exact text of the map of revisions: the old and the new number of each revision that the filter keeps.
use Rattle.std.specs.Prelude.{◌≡◌, ℕ, ◌⊎◌, List, [], ◌∷◌, flat_map, codes, decimal, Option}
use Rattle.std.specs.List.{concat}
use Rattle.std.specs.Io.KnownBytes.{Appends}
use Rattle.dump_records.specs.RecordText.{DumpRecord}
use Rattle.dump_records.specs.DumpText.{Ending, HasRecords}
use Rattle.dump_rules.specs.Settings.{Settings}
use Rattle.dump_rules.specs.Renumbering.{KeptRevisions}
use Rattle.dump_filter.specs.Groups.{kept_revisions}
use Rattle.dump_filter.specs.NewHeaders.{written_number}
use Rattle.dump_writer.specs.SinkWords.{TakesPart}

-- the line of a kept revision: its number, and the number under which the filter writes it
unfoldable pub map_line : Settings → KeptRevisions → ℕ → List ℕ
map_line settings kept number = concat (codes "r" ∷ decimal number ∷ codes " becomes r"
    ∷ decimal (written_number settings kept number) ∷ codes "\n" ∷ [])

-- one line for each of the kept revisions, in their order
abbrev pub map_lines : Settings → KeptRevisions → List ℕ
map_lines settings kept = flat_map (map_line settings kept) kept.numbers

-- this is the map of the revisions of a dump, up to the end of its list of records
pub record IsRevisionMap (settings : Settings) (dump text : List ℕ) : Type 0 where
  pub records : List DumpRecord
  pub ending : Ending
  pub has : HasRecords dump records ending
  pub text_is : text ≡ map_lines settings (kept_revisions settings records)

-- the sink took nothing, or a first part of the map
abbrev pub TakesSomeOfMap : Settings → List ℕ → Option (List ℕ) → Option (List ℕ) → Type 0
TakesSomeOfMap settings dump old new =
    Appends old new [] ⊎ ((text : List ℕ) × IsRevisionMap settings dump text × TakesPart old new text)
