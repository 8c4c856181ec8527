-- The part of a dump after a revision. If a repository has the revisions up to there, a load of the part adds the others.
use Rattle.std.specs.Prelude.{◌≡◌, ℕ, suc, Bool, false, ◌&&◌, nat_lt, List, [], ◌∷◌, ◌++◌, length, take, drop, Some, slice_get, if◌then◌else◌, IsTrue}
use Rattle.std.specs.List.{AllZip}
use Rattle.dump_text.specs.PropertyList.{Property}
use Rattle.dump_records.specs.DumpText.{Ending, HasRecords}
use Rattle.dump_records.specs.RecordText.{DumpRecord}
use Rattle.dump_digest.specs.RecordParts.{is_revision_record}
use Rattle.dump_filter.specs.Groups.{groups, revision_number, revision_numbers}
use Rattle.dump_trees.specs.Changes.{Change}
use Rattle.dump_trees.specs.Revisions.{loaded}
use Rattle.dump_trees.specs.Trees.{Tree, root_alone}
use Rattle.dump_history.specs.DumpChanges.{HaveRevisionProperties, LoadsAs, MakeChanges, counts_from, has_ordered_nodes}
use Rattle.dump_history.specs.RecordChanges.{Patching}

-- the byte at which the first such record begins; the given end, if there is none
abbrev pub place_of_first : (DumpRecord → Bool) → ℕ → List DumpRecord → ℕ
place_of_first is_such end [] = end
place_of_first is_such end (r ∷ records) = if is_such r then r.place else place_of_first is_such end records

-- whether the record is a revision with a number above this one
abbrev pub is_later_revision : ℕ → DumpRecord → Bool
is_later_revision number r = is_revision_record r && nat_lt number (revision_number r)

-- the bytes of a dump with these records before its first revision
abbrev pub head_part : List ℕ → List DumpRecord → List ℕ
head_part dump records = take (place_of_first is_revision_record (length dump) records) dump

-- the bytes before its first revision after this one
abbrev pub part_up_to : ℕ → List ℕ → List DumpRecord → List ℕ
part_up_to number dump records = take (place_of_first (is_later_revision number) (length dump) records) dump

-- those from there on
abbrev pub part_from : ℕ → List ℕ → List DumpRecord → List ℕ
part_from number dump records = drop (place_of_first (is_later_revision number) (length dump) records) dump

-- the part has what the dump has up to this revision, and with it
abbrev pub IsFirstPart : ℕ → List ℕ → List ℕ → Type 0
IsFirstPart number dump part = (records : List DumpRecord) → HasRecords dump records Ending.Whole
    → part ≡ part_up_to number dump records

-- the part has what the dump has before its first revision, and after this one
abbrev pub IsLaterPart : ℕ → List ℕ → List ℕ → Type 0
IsLaterPart number dump part = (records : List DumpRecord) → HasRecords dump records Ending.Whole
    → part ≡ head_part dump records ++ part_from number dump records

-- the records are loaded into a repository that has these trees: their revisions are numbered on from there and make these
-- changes, and then these are the repository's trees
pub record LoadsOn (patched : Patching) (trees : List Tree) (records : List DumpRecord) (revisions : List (List Change))
    (all : List Tree) : Type 0 where
  pub numbered : IsTrue (counts_from (length trees) (revision_numbers records))
  pub ordered : IsTrue (has_ordered_nodes Bool.false records)
  pub changes : AllZip (MakeChanges patched) (groups records) revisions
  pub last : ℕ
  pub youngest : Tree
  pub count : length trees ≡ suc last
  pub is_youngest : slice_get trees last ≡ Some youngest
  pub loads : loaded trees youngest revisions ≡ Some all

-- the format version in force before the first such record, if this one is in force before all records
abbrev pub version_before_first : (DumpRecord → Bool) → ℕ → List DumpRecord → ℕ
version_before_first is_such version [] = version
version_before_first is_such version (r ∷ records) =
    if is_such r then version else version_before_first is_such r.version records

-- the format version in force after this revision is that in force before the first one
abbrev pub KeepsVersion : ℕ → List DumpRecord → Type 0
KeepsVersion number records =
    version_before_first (is_later_revision number) 0 records ≡ version_before_first is_revision_record 0 records

-- the two parts of a dump that loads. The first one loads into a new repository, to the trees that the dump has up to this
-- revision. The later one loads into that, to all trees of the dump. Each revision has the properties that it has in the dump
pub record LoadsInParts (patched : Patching) (number : ℕ) (records : List DumpRecord) (revisions : List (List Change))
    (trees : List Tree) (first later : List ℕ) : Type 0 where
  pub firsts : List DumpRecord
  pub others : List DumpRecord
  pub has_firsts : HasRecords first firsts Ending.Whole
  pub has_others : HasRecords later others Ending.Whole
  pub loads_first : LoadsAs patched root_alone firsts (take number revisions) (take (suc number) trees)
  pub loads_later : LoadsOn patched (take (suc number) trees) others (drop number revisions) trees
  pub properties : (props : List (List Property)) → HaveRevisionProperties records props
      → HaveRevisionProperties firsts (take (suc number) props) × HaveRevisionProperties others (drop (suc number) props)
