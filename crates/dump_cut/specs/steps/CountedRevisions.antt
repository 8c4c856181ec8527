-- Revisions that are counted or searched, record by record.
use Rattle.std.specs.Prelude.{ℕ, suc, Bool, ◌==◌, List, [], ◌∷◌, Option, Some, None, if◌then◌else◌}
use Rattle.dump_records.specs.RecordText.{DumpRecord}
use Rattle.dump_digest.specs.RecordParts.{is_revision_record}
use Rattle.dump_cut.specs.LaterParts.{is_later_revision}

-- whether the record is a revision, with a number above this one if there is one
abbrev pub is_after : Option ℕ → DumpRecord → Bool
is_after None r = is_revision_record r
is_after (Some number) r = is_later_revision number r

-- `count` and the number of these revisions; none if their numbers don't count on from `count`
abbrev pub counted_from : ℕ → List ℕ → Option ℕ
counted_from count [] = Some count
counted_from count (n ∷ numbers) = if n == count then counted_from (suc count) numbers else None
