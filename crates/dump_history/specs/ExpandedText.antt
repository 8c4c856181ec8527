-- The text of an expanded dump: what is written in place of each record, and the changes that are made in place of
-- each.
use Rattle.std.specs.Prelude.{◌≡◌, ℕ, List, [], ◌∷◌, ◌++◌}
use Rattle.dump_records.specs.DumpText.{line_feeds}
use Rattle.dump_records.specs.RecordText.{DumpRecord, record_text}

-- what is written

-- the text is the records, with some line feeds after each
abbrev pub AreRecordTexts : List DumpRecord → List ℕ → Type 0
AreRecordTexts [] text = text ≡ []
AreRecordTexts (r ∷ records) text = (lfs : ℕ) × (rest : List ℕ)
    × (text ≡ record_text r ++ (line_feeds lfs ++ rest)) × AreRecordTexts records rest
