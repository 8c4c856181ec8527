-- The record that is read again from what is written for a record.
use Rattle.dump_filter.proofs.Prelude.{◌≡◌, ℕ, ◌+◌, ◌<◌, ◌^◌, Bool, true, false, List, [], ◌∷◌, ◌++◌, length, Some, MatchBool, version_name, copy_revision_name, Header, has_header, Property, line_feeds, header_number, version_from, DumpRecord, Settings, KeptRevisions, is_revision_record, is_node, has_lost_source, HasPropertyList, HasBadProperties, HasBadMd5, HasBadSha1, HasBadMergeinfo, keep_all, group_of, is_padded, revision_number, with_lengths, written_number, is_whole_file, IsWrittenCopyNumber, IsNewCopy, revision_properties, AreNewProperties, new_block, IsOutput, is_written, BeginsWithRecord}

-- the content of a record has no fault if everything is kept
pub record IsClean (r : DumpRecord) : Type 0 where
  pub props : ¬ HasBadProperties keep_all r
  pub md5 : ¬ HasBadMd5 keep_all r
  pub sha1 : ¬ HasBadSha1 keep_all r
  pub merge : ¬ HasBadMergeinfo keep_all r

-- what is written for a kept node r is this node s: its lines with its new copy source and its new lengths, its new
-- properties, and its own text; a node that loses its copy source is a whole file
pub record IsNodeAgain (settings : Settings) (kept : KeptRevisions) (r s : DumpRecord) : Type 0 where
  pub mid : List Header
  pub old : List Property
  pub new : List Property
  pub new_copy : IsNewCopy settings kept r mid
  pub whole : has_lost_source settings r ≡ true → is_whole_file r ≡ true
  pub old_list : HasPropertyList r old
  pub new_list : HasPropertyList s new
  pub new_props : AreNewProperties settings kept old new
  pub lines : s.headers ≡ with_lengths (new_block false r new) r.text mid
  pub text : s.text ≡ r.text
  pub small : length (new_block false r new) + length r.text < 10 ^ 18
  pub number_fits : (number n : ℕ) → header_number copy_revision_name r.headers ≡ Some number
      → IsWrittenCopyNumber settings kept number n → n < 10 ^ 18

-- a text that goes on after the front begins with this record s and some LFs; as the first record of a dump, s breaks
-- no rule if r is a version record
abbrev pub BeginsAgain : DumpRecord → List ℕ → DumpRecord → Type 0
BeginsAgain r front s = (feeds : ℕ) × ((number : ℕ) (text behind : List ℕ) → text ≡ front ++ behind
    → (number ≡ 0 → has_header version_name r.headers ≡ true)
    → BeginsWithRecord number text s (line_feeds feeds ++ behind))

-- what is written for a record r, which these records follow, is this record s; if everything is kept, s is written
-- unchanged; the version in force for s is that for r
pub record IsReadAgain (settings : Settings) (kept : KeptRevisions) (r : DumpRecord) (after : List DumpRecord)
    (front : List ℕ) (s : DumpRecord) : Type 0 where
  pub begins : BeginsAgain r front s
  pub revision : is_revision_record s ≡ is_revision_record r
  pub number : is_revision_record r ≡ true → revision_number s ≡ written_number settings kept (revision_number r)
  pub revision_again : is_revision_record r ≡ true → (ps : List Property) × HasPropertyList r ps
      × HasPropertyList s (revision_properties (is_padded settings (group_of r after)) ps)
  pub node : is_node s ≡ is_node r
  pub node_again : is_node r ≡ true → IsNodeAgain settings kept r s
  pub version : s.version ≡ r.version
  pub version_line : (before : ℕ) → version_from before s.headers ≡ version_from before r.headers
  pub clean : IsClean s
  pub output : (again : KeptRevisions) (after : List DumpRecord) → IsOutput keep_all again s after front

-- wherever the text that is written for the record is in the new dump, it is a record again
abbrev pub StandsAgain : Settings → KeptRevisions → DumpRecord → List DumpRecord → List ℕ → Type 0
StandsAgain settings kept r after front =
    (place : ℕ) → (s : DumpRecord) × (s.place ≡ place) × IsReadAgain settings kept r after front s

-- what is written for a record is the first of the records that are read again, before these others, if it is written
abbrev pub IsFirstAgain : Settings → KeptRevisions → DumpRecord → List DumpRecord → List ℕ
    → (List DumpRecord → Type 0) → List DumpRecord → Bool → Type 0
IsFirstAgain settings kept r after front AreOthers again written =
    MatchBool written
    ((s : DumpRecord) × (more : List DumpRecord) × (again ≡ s ∷ more) × IsReadAgain settings kept r after front s
    × AreOthers more)
    ((front ≡ []) × AreOthers again)

-- what is written for the records, in order, is the text and these records that are read again
abbrev pub AreReadAgain : Settings → KeptRevisions → List DumpRecord → List ℕ → List DumpRecord → Type 0
AreReadAgain settings kept [] text again = (text ≡ []) × (again ≡ [])
AreReadAgain settings kept (r ∷ after) text again = (front rest : List ℕ) × (text ≡ front ++ rest)
    × IsFirstAgain settings kept r after front (AreReadAgain settings kept after rest) again
    (is_written settings true r after)

-- this is true of each record, with those before it and after it
abbrev pub AtEach : (List DumpRecord → DumpRecord → List DumpRecord → Type 0) → List DumpRecord → List DumpRecord
    → Type 0
AtEach P before [] = Unit {0}
AtEach P before (r ∷ after) = P before r after × AtEach P (before ++ r ∷ []) after
