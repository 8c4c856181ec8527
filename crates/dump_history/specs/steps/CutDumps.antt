-- What is written of a dump of which a part is taken by excluded prefixes loads into a new repository, since above kept paths
-- nothing has to be made.
use Rattle.std.specs.Prelude.{◌≡◌, ℕ, Bool, ◌||◌, List, length, IsTrue}
use Rattle.std.specs.List.{AllZip}
use Rattle.dump_text.specs.PropertyList.{Property}
use Rattle.dump_records.specs.DumpText.{Ending, HasRecords}
use Rattle.dump_records.specs.RecordText.{DumpRecord}
use Rattle.dump_rules.specs.Settings.{Settings}
use Rattle.dump_rules.specs.Renumbering.{image}
use Rattle.dump_filter.specs.Groups.{is_pad, kept_revisions}
use Rattle.dump_filter.specs.NewContent.{IsNewProperty}
use Rattle.dump_trees.specs.Trees.{Tree, root_alone}
use Rattle.dump_trees.specs.Changes.{Change}
use Rattle.dump_trees.specs.Restriction.{IsRestricted}
use Rattle.dump_history.specs.RecordChanges.{Patching}
use Rattle.dump_history.specs.DumpChanges.{HaveRevisionProperties, LoadsAs}
use Rattle.dump_history.specs.NumberGaps.{KeepsNamedNumbers}
use Rattle.dump_history.specs.DumpLaws.{keeps_numbering, RevisionsKeepProperties}
use Rattle.dump_history.specs.CutDumps.{ImagesRelate, TreeRelation}

-- options under which what is written has no gap in its numbers: revisions are renumbered, or none is dropped
abbrev pub leaves_no_gap : Settings → Bool
leaves_no_gap settings = settings.renumber || is_pad settings.empty

-- under them each revision that is named is found, whatever the dump
abbrev pub NumbersAreKept : Type 0
NumbersAreKept = (settings : Settings) (records : List DumpRecord) →
    IsTrue (leaves_no_gap settings)
    → KeepsNamedNumbers settings records × IsTrue (keeps_numbering settings records)

-- at a kept path is what was there, with the properties that the filter writes, and elsewhere only what is given
abbrev pub TreeRestricts : Settings → List DumpRecord → TreeRelation
TreeRestricts settings records = IsRestricted settings (IsNewProperty settings (kept_revisions settings records))

-- the text is a dump that loads into a new repository: it has a revision for each kept one of these records, with its
-- properties, and the trees at the images of the numbers have this relation to these trees
abbrev pub LoadsNew : Patching → Settings → TreeRelation → List DumpRecord → List Tree → List ℕ → Type 0
LoadsNew patched settings Relates records trees text =
    (again : List DumpRecord) × (written : List (List Change)) × (others : List Tree)
    × HasRecords text again Ending.Whole
    × LoadsAs patched root_alone again written others
    × (length others ≡ length (kept_revisions settings records).numbers)
    × ImagesRelate Relates (image (kept_revisions settings records)) trees others
    × RevisionsKeepProperties settings records again

-- the text is a dump that loads into a new repository: it has each revision of these records under its own number, with
-- its properties, and the trees have this relation to these trees
abbrev pub LoadsNumbered : Patching → TreeRelation → List DumpRecord → List Tree → List ℕ → Type 0
LoadsNumbered patched Relates records trees text =
    (again : List DumpRecord) × (written : List (List Change)) × (others : List Tree)
    × HasRecords text again Ending.Whole
    × LoadsAs patched root_alone again written others
    × AllZip Relates trees others
    × ((props : List (List Property)) → HaveRevisionProperties records props → HaveRevisionProperties again props)
