-- A test says, record by record, whether the properties of a revision can't be read.
use Rattle.dump_history.proofs.Prelude.{◌↔◌, Bool, IsTrue, inl, inr, list_any, DumpRecord, found, finds, is_revision_record, block_or_not, IsUnreadRevision, HasUnreadRevision}
use Rattle.std.proofs.Common.{false, List}

-- whether the record is a revision whose properties can't be read
unread_told : (r : DumpRecord) → (b : Bool) × (IsTrue b ↔ IsUnreadRevision r)
unread_told r = elim (block_or_not r) [
  | inl block ↦ (false, (λ bad. cc, λ (is, unread). absurd (unread block)))
  | inr unread ↦ (is_revision_record r, (λ is. (is, unread), λ (is, none). is))
]

-- the same for each of these records, and whether one of them is such a revision
pub unread_in : (records : List DumpRecord) → (b : Bool) × (IsTrue b ↔ HasUnreadRevision records)
unread_in records = let test : DumpRecord → Bool = λ r. (unread_told r).0 in (
  list_any test records,
  (
    λ some. let (r, there, is) = found test records some in (r, there, (unread_told r).1.0 is),
    λ (r, there, is). finds test records r there ((unread_told r).1.1 is),
  ),
)
