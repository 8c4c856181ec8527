-- What remains of a node that others replace or precede.
use Rattle.std.specs.Prelude.{◌≡◌, ℕ, ◌+◌, Bool, true, false, List, drop}
use Rattle.dump_records.specs.RecordText.{DumpRecord}
use Rattle.dump_records.specs.steps.RecordPlaces.{place_after}
use Rattle.dump_records.specs.steps.Standing.{IsGap}

-- the part that remains begins at this byte of the dump: at the record, if it is kept, or after it and the line feeds
-- that follow
abbrev pub IsLeftFrom : List ℕ → DumpRecord → Bool → ℕ → Type 0
IsLeftFrom dump r true from = from ≡ r.place
IsLeftFrom dump r false from = (lfs : ℕ) × IsGap (drop (place_after r) dump) lfs × (from ≡ place_after r + lfs)
