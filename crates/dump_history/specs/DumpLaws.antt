-- The law of filtered dumps: loading commutes with filtering. What is written, loaded over the parent directories, has
-- the trees that the whole dump has, restricted to the kept paths.
use Rattle.std.specs.Prelude.{◌≡◌, ℕ, Bool, ◌||◌, List, [], ◌∷◌, ◌++◌, length, drop, take, filter, Some, IsTrue}
use Rattle.std.specs.List.{AllZip, list_all}
use Rattle.dump_text.specs.PropertyList.{Property}
use Rattle.dump_records.specs.DumpText.{Ending, HasRecords}
use Rattle.dump_records.specs.RecordText.{DumpRecord}
use Rattle.dump_rules.specs.Settings.{Settings}
use Rattle.dump_rules.specs.Renumbering.{KeptRevisions, image}
use Rattle.dump_digest.specs.RecordParts.{HasPropertyList}
use Rattle.dump_filter.specs.FilterLaws.{LengthsFit}
use Rattle.dump_filter.specs.Groups.{Group, groups, keeps_group, is_padded, revision_numbers, kept_revisions}
use Rattle.dump_filter.specs.NewContent.{IsNewProperty, revision_properties}
use Rattle.dump_filter.specs.WholeText.{IsCleanText}
use Rattle.dump_trees.specs.Trees.{Tree, root_alone}
use Rattle.dump_trees.specs.Changes.{Change}
use Rattle.dump_trees.specs.Restriction.{given}
use Rattle.dump_trees.specs.Quiet.{are_quiet, nowhere_is_over}
use Rattle.dump_trees.specs.Revisions.{loaded, loaded_over, AllRevisionsSeparate}
use Rattle.dump_trees.specs.MovedLaws.{AreRevisionsBehind}
use Rattle.dump_trees.specs.HistoryLaws.{ImagesRestrict}
use Rattle.dump_history.specs.RecordChanges.{Patching}
use Rattle.dump_history.specs.RaisedMergeinfo.{IsRaised}
use Rattle.dump_history.specs.DumpChanges.{counts_from, MakeRevisions, HaveRevisionProperties, LoadsAs}
use Rattle.dump_history.specs.NumberGaps.{MakeRevisionsWithGaps, LoadsWithGapsAs, KeepsNamedNumbers}

-- whether what is written of a dump numbered 0, 1, 2 and so on is numbered so too: revisions are renumbered, or none is
-- dropped. If not, what is written has gaps in its numbers
abbrev pub keeps_numbering : Settings → List DumpRecord → Bool
keeps_numbering settings records = settings.renumber || list_all (keeps_group settings) (groups records)

-- the trees at the images of the dump's numbers are its trees, restricted
abbrev pub TreesRestrict : Settings → List DumpRecord → List Tree → List Tree → Type 0
TreesRestrict settings records trees others =
    ImagesRestrict settings (IsNewProperty settings (kept_revisions settings records))
    (image (kept_revisions settings records)) trees others

-- the properties of a revision and of what is written of it: its own, or those of an empty revision if it is padded
abbrev pub KeepsProperties : Settings → Group → Group → Type 0
KeepsProperties settings g h = (ps : List Property) × HasPropertyList g.revision ps
    × HasPropertyList h.revision (revision_properties (is_padded settings g) ps)

-- the same for each kept revision, in order, revision 0 too. This compares the property lists of the two dumps; a load
-- takes the last of two entries of one name, and reads a name up to a zero byte
abbrev pub RevisionsKeepProperties : Settings → List DumpRecord → List DumpRecord → Type 0
RevisionsKeepProperties settings records again =
    AllZip (KeepsProperties settings) (filter (keeps_group settings) (groups records)) (groups again)

-- the filtered dump has no gap in its numbers, which begin with this one, if the dump keeps its numbering
abbrev pub HasNoGapIfKept : Settings → List DumpRecord → ℕ → List DumpRecord → Type 0
HasNoGapIfKept settings records first again =
    IsTrue (keeps_numbering settings records) → IsTrue (counts_from first (revision_numbers again))

-- the text is a dump that loads into a repository whose revision 0 has the parent directories: it makes a revision for
-- each kept one of these records, with its properties, and the trees are these trees, restricted
abbrev pub LoadsRestricted : Patching → Settings → List DumpRecord → List Tree → List ℕ → Type 0
LoadsRestricted patched settings records trees text =
    (again : List DumpRecord) × (written : List (List Change)) × (others : List Tree)
    × HasRecords text again Ending.Whole
    × LoadsWithGapsAs patched (given settings) again written others
    × HasNoGapIfKept settings records 0 again
    × (length others ≡ length (kept_revisions settings records).numbers)
    × TreesRestrict settings records trees others
    × RevisionsKeepProperties settings records again

-- a dump that loads, and whose changes are separated: what the filter writes of it loads, and has the restricted trees
abbrev pub FilteredDumpRestricts : Type 0
FilteredDumpRestricts = (patched : Patching) (settings : Settings) (dump text : List ℕ) (records : List DumpRecord)
    (revisions : List (List Change)) (trees : List Tree) →
    IsCleanText settings dump records text → LengthsFit settings records
    → KeepsNamedNumbers settings records
    → LoadsAs patched root_alone records revisions trees
    → AllRevisionsSeparate settings (root_alone ∷ []) root_alone revisions
    → LoadsRestricted patched settings records trees text

-- the same of a dump whose changes are quiet, and which makes no copy that loses its source over an existing node
abbrev pub QuietDumpRestricts : Type 0
QuietDumpRestricts = (patched : Patching) (settings : Settings) (dump text : List ℕ) (records : List DumpRecord)
    (revisions : List (List Change)) (trees : List Tree) →
    IsCleanText settings dump records text → LengthsFit settings records
    → KeepsNamedNumbers settings records
    → LoadsAs patched root_alone records revisions trees
    → IsTrue (are_quiet settings revisions)
    → IsTrue (nowhere_is_over settings (root_alone ∷ []) root_alone revisions)
    → LoadsRestricted patched settings records trees text

-- what is written begins with what is written of the first revisions, those of these trees. This part loads over the
-- parent directories, with a revision for each kept one of them. The tree at the image of each of their numbers is the
-- restricted tree
abbrev pub FrontLoadsRestricted : Patching → Settings → List DumpRecord → List Tree → List ℕ → Type 0
FrontLoadsRestricted patched settings records trees text =
    (again : List DumpRecord) × (first more : List (List Change)) × (others : List Tree)
    × HasRecords text again Ending.Whole
    × MakeRevisionsWithGaps patched again (first ++ more)
    × HasNoGapIfKept settings records 0 again
    × (loaded_over (given settings) first ≡ Some others)
    × (length others ≡ length (filter (keeps_group settings) (take (length trees) (groups records))))
    × TreesRestrict settings records trees others
    × RevisionsKeepProperties settings records again

-- a dump whose first revisions load and are separated. The later ones only have to make changes: they need neither load
-- nor be separated
abbrev pub FilteredDumpFrontRestricts : Type 0
FilteredDumpFrontRestricts = (patched : Patching) (settings : Settings) (dump text : List ℕ) (records : List DumpRecord)
    (front rest : List (List Change)) (trees : List Tree) →
    IsCleanText settings dump records text → LengthsFit settings records
    → KeepsNamedNumbers settings records
    → MakeRevisions patched records (front ++ rest) → loaded_over root_alone front ≡ Some trees
    → AllRevisionsSeparate settings (root_alone ∷ []) root_alone front
    → FrontLoadsRestricted patched settings records trees text

-- the same if the changes of the first revisions are quiet, and none of their copies that lose their source is made
-- over an existing node
abbrev pub QuietDumpFrontRestricts : Type 0
QuietDumpFrontRestricts = (patched : Patching) (settings : Settings) (dump text : List ℕ) (records : List DumpRecord)
    (front rest : List (List Change)) (trees : List Tree) →
    IsCleanText settings dump records text → LengthsFit settings records
    → KeepsNamedNumbers settings records
    → MakeRevisions patched records (front ++ rest) → loaded_over root_alone front ≡ Some trees
    → IsTrue (are_quiet settings front)
    → IsTrue (nowhere_is_over settings (root_alone ∷ []) root_alone front)
    → FrontLoadsRestricted patched settings records trees text

-- a dump without gaps in its numbers is one of those that may have some
abbrev pub NoGapIsNeeded : Type 0
NoGapIsNeeded = (patched : Patching) (records : List DumpRecord) (revisions : List (List Change)) →
    MakeRevisions patched records revisions → MakeRevisionsWithGaps patched records revisions

-- a dump has one list of records, revisions, properties of revisions, and trees
abbrev pub DumpLoadsOnce : Type 0
DumpLoadsOnce = (patched : Patching) (first : Tree) (dump : List ℕ) (records others : List DumpRecord)
    (revisions more : List (List Change)) (trees others_trees : List Tree) (props others_props : List (List Property)) →
    HasRecords dump records Ending.Whole → HasRecords dump others Ending.Whole
    → LoadsWithGapsAs patched first records revisions trees → LoadsWithGapsAs patched first others more others_trees
    → HaveRevisionProperties records props → HaveRevisionProperties others others_props
    → (others ≡ records) × (more ≡ revisions) × (others_trees ≡ trees) × (others_props ≡ props)

-- a property of the dump, and what becomes of it if the filtered dump is loaded after this many revisions
abbrev pub IsPropertyBehind : ℕ → Settings → KeptRevisions → Property → Property → Type 0
IsPropertyBehind count settings kept old new =
    (written : Property) × IsNewProperty settings kept old written × IsRaised count written new

-- the trees at the images of the dump's numbers are its trees, restricted, with their mergeinfo raised by this many
abbrev pub TreesRestrictBehind : ℕ → Settings → List DumpRecord → List Tree → List Tree → Type 0
TreesRestrictBehind count settings records trees others =
    ImagesRestrict settings (IsPropertyBehind count settings (kept_revisions settings records))
    (image (kept_revisions settings records)) trees others

-- these changes load after these older revisions and one that has the parent directories, and give these trees from
-- that one on
abbrev pub LoadBehindGiven : Settings → List Tree → List (List Change) → List Tree → Type 0
LoadBehindGiven settings older moved others =
    loaded (older ++ given settings ∷ []) (given settings) moved ≡ Some (older ++ others)

-- what is written makes these changes, and is loaded after revision 1, which has the parent directories. If the load
-- raises each copy's number, and mergeinfo, by one, there is a tree for each kept revision, and the trees are these
-- trees, restricted. They begin with that of revision 1, so each is at the image of its number, raised by one
abbrev pub WrittenLoadsAfterDirectories : Settings → List DumpRecord → List Tree → List (List Change) → Type 0
WrittenLoadsAfterDirectories settings records trees written =
    (moved : List (List Change)) → AreRevisionsBehind (IsRaised 1) 1 written moved
    → (others : List Tree)
    × LoadBehindGiven settings (root_alone ∷ []) moved others
    × (length others ≡ length (kept_revisions settings records).numbers)
    × TreesRestrictBehind 1 settings records trees others

-- each kept revision but the first has its properties, or those of an empty revision; those of the first are lost
abbrev pub LaterRevisionsKeepProperties : Settings → List DumpRecord → List DumpRecord → Type 0
LaterRevisionsKeepProperties settings records again =
    AllZip (KeepsProperties settings) (drop 1 (filter (keeps_group settings) (groups records)))
    (drop 1 (groups again))

-- an administrator has created the parent directories in revision 1 of a new repository, and loads the text after it:
-- the text is a dump that makes changes, which load and have the restricted trees
abbrev pub LoadsAfterDirectories : Patching → Settings → List DumpRecord → List Tree → List ℕ → Type 0
LoadsAfterDirectories patched settings records trees text =
    (again : List DumpRecord) × (written : List (List Change))
    × HasRecords text again Ending.Whole
    × MakeRevisionsWithGaps patched again written
    × HasNoGapIfKept settings records 0 again
    × WrittenLoadsAfterDirectories settings records trees written
    × LaterRevisionsKeepProperties settings records again

-- what the filter writes of a dump that loads, and whose changes are separated, loads so
abbrev pub FilteredDumpRestrictsAfterDirectories : Type 0
FilteredDumpRestrictsAfterDirectories = (patched : Patching) (settings : Settings) (dump text : List ℕ)
    (records : List DumpRecord) (revisions : List (List Change)) (trees : List Tree) →
    IsCleanText settings dump records text → LengthsFit settings records
    → KeepsNamedNumbers settings records
    → LoadsAs patched root_alone records revisions trees
    → AllRevisionsSeparate settings (root_alone ∷ []) root_alone revisions
    → LoadsAfterDirectories patched settings records trees text

-- the same of a dump whose changes are quiet, and which makes no copy that loses its source over an existing node
abbrev pub QuietDumpRestrictsAfterDirectories : Type 0
QuietDumpRestrictsAfterDirectories = (patched : Patching) (settings : Settings) (dump text : List ℕ)
    (records : List DumpRecord) (revisions : List (List Change)) (trees : List Tree) →
    IsCleanText settings dump records text → LengthsFit settings records
    → KeepsNamedNumbers settings records
    → LoadsAs patched root_alone records revisions trees
    → IsTrue (are_quiet settings revisions)
    → IsTrue (nowhere_is_over settings (root_alone ∷ []) root_alone revisions)
    → LoadsAfterDirectories patched settings records trees text
