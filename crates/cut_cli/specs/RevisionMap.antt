-- The map of revisions, word for word: the number that each one has in the new repository, or what becomes of references
-- to it.
use Rattle.std.specs.Prelude.{◌≡◌, ℕ, ◌+◌, ◌==◌, nat_lt, Bool, true, List, [], ◌∷◌, ◌++◌, Option, Some, None, codes, decimal, unwrap_or, if◌then◌else◌}
use Rattle.std.specs.List.{concat}
use Rattle.dump_records.specs.DumpText.{Ending, HasRecords}
use Rattle.dump_records.specs.RecordText.{DumpRecord}
use Rattle.dump_rules.specs.Settings.{Settings}
use Rattle.dump_cut.specs.RevisionFates.{fates_of_groups}
use Rattle.dump_cut.specs.declared.fates.RevisionFate.{RevisionFate}

-- the number that a load gives a kept revision, where the last one that it gave is this: revision 0 has its own, and the
-- others are counted from 1 on
abbrev pub loaded_number : Option ℕ → ℕ → ℕ
loaded_number last number = if number == 0 then 0 else unwrap_or last 0 + 1

-- the last number that a load gave, behind this revision
abbrev pub last_behind : Option ℕ → RevisionFate → Option ℕ
last_behind last fate = if fate.stays then Some (loaded_number last fate.number) else last

-- the line of a kept revision, by its number and its new one
abbrev pub kept_line : ℕ → ℕ → List ℕ
kept_line number new = concat (codes "r" ∷ decimal number ∷ codes " becomes r" ∷ decimal new ∷ codes "\n" ∷ [])

-- that of a dropped one, by its number and the last new one before it
abbrev pub dropped_line : ℕ → Option ℕ → List ℕ
dropped_line number None = concat (codes "r" ∷ decimal number ∷ codes " is dropped\n" ∷ [])
dropped_line number (Some last) =
    concat (codes "r" ∷ decimal number ∷ codes " is dropped; references to it become r" ∷ decimal last ∷ codes "\n" ∷ [])

abbrev pub fate_line : Option ℕ → RevisionFate → List ℕ
fate_line last fate =
    if fate.stays then kept_line fate.number (loaded_number last fate.number) else dropped_line fate.number last

-- whether a revision has a line: all have one, or those after this one
abbrev pub has_line : Option ℕ → RevisionFate → Bool
has_line None fate = true
has_line (Some number) fate = nat_lt number fate.number

-- the lines of these revisions, in their order
abbrev pub fate_lines : Option ℕ → Option ℕ → List RevisionFate → List ℕ
fate_lines after last [] = []
fate_lines after last (fate ∷ fates) =
    (if has_line after fate then fate_line last fate else []) ++ fate_lines after (last_behind last fate) fates

-- this is the map of the revisions of a dump, up to where its list of records ends; or of those after this one
pub record IsMapOfCut (after : Option ℕ) (settings : Settings) (dump text : List ℕ) : Type 0 where
  pub records : List DumpRecord
  pub ending : Ending
  pub has : HasRecords dump records ending
  pub text_is : text ≡ fate_lines after None (fates_of_groups settings records)
