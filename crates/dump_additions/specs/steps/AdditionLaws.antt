-- A dump in which other nodes are in place of the copies with which something excluded comes back.
use Rattle.std.specs.Prelude.{◌≡◌, ℕ, List, [], ◌∷◌, map, IsTrue, IsFalse}
use Rattle.dump_text.specs.PropertyList.{Property}
use Rattle.dump_records.specs.DumpText.{Ending, HasRecords}
use Rattle.dump_records.specs.RecordText.{DumpRecord}
use Rattle.dump_filter.specs.FilterLaws.{keep_all}
use Rattle.dump_filter.specs.Groups.{revision_numbers}
use Rattle.dump_trees.specs.Changes.{Change}
use Rattle.dump_trees.specs.steps.Expansions.{AllRevisionsExpand}
use Rattle.dump_trees.specs.Paths.{NodePath}
use Rattle.dump_trees.specs.Trees.{Tree, root_alone}
use Rattle.dump_history.specs.CopiesOver.{some_copies_over}
use Rattle.dump_history.specs.DumpChanges.{HaveRevisionProperties, LoadsAs}
use Rattle.dump_history.specs.steps.ExpandedText.{made_in_stead}
use Rattle.dump_history.specs.RecordChanges.{Patching}
use Rattle.dump_index.specs.steps.InOrder.{are_in_order}
use Rattle.dump_index.specs.steps.Listed.{listed_of}
use Rattle.dump_index.specs.declared.change.NodeChange.{NodeChange}
use Rattle.dump_changes.specs.TextDeltas.{AgreesWithSvndiff}
use Rattle.dump_changes.specs.steps.FileTexts.{record_texts}
use Rattle.dump_changes.specs.steps.ListedDumps.{AreListedIn}
use Rattle.dump_changes.specs.steps.NodeProperties.{HaveNodeNumbers, property_blocks}
use Rattle.dump_expansion.specs.steps.GivenSteads.{GivenStead, IsExpandedBy, steads_in}
use Rattle.dump_additions.specs.steps.Additions.{AreAdditionsFrom}

-- the dump loads into an empty repository, an index lists its changes, and these are in place of those with which something
-- excluded comes back, and before copies over something. Texts that deltas make are written in full, so the reading of deltas has
-- to agree with svndiff
pub record HasAdditions (patched : Patching) (dump : List ℕ) (records : List DumpRecord) (changes : List NodeChange)
    (revisions : List (List Change)) (trees : List Tree) (excluded : List NodePath) (given : List GivenStead) : Type 0 where
  pub has : HasRecords dump records Ending.Whole
  pub agrees : AgreesWithSvndiff patched
  pub loads : LoadsAs patched root_alone records revisions trees
  pub listed : AreListedIn records changes
  pub numbers : HaveNodeNumbers records changes
  pub ordered : IsTrue (are_in_order 0 changes)
  pub additions : AreAdditionsFrom (property_blocks records) (record_texts records) (map listed_of changes) excluded 0
      (map listed_of changes) given

-- then each change is expanded: what is in its place does the same
abbrev pub AdditionsExpand : Type 0
AdditionsExpand = (patched : Patching) (dump : List ℕ) (records : List DumpRecord) (changes : List NodeChange)
    (revisions : List (List Change)) (trees : List Tree) (excluded : List NodePath) (given : List GivenStead) →
    HasAdditions patched dump records changes revisions trees excluded given
    → AllRevisionsExpand keep_all (root_alone ∷ []) root_alone revisions
    (made_in_stead records (steads_in 0 records given) revisions)

-- so the expanded dump loads to the same trees, revision by revision, with the same numbers and properties of revisions
abbrev pub AdditionsLoadTheSame : Type 0
AdditionsLoadTheSame = (patched : Patching) (dump text : List ℕ) (records : List DumpRecord) (changes : List NodeChange)
    (revisions : List (List Change)) (trees : List Tree) (excluded : List NodePath) (given : List GivenStead) →
    HasAdditions patched dump records changes revisions trees excluded given → IsExpandedBy given dump text
    → (again : List DumpRecord) × HasRecords text again Ending.Whole
    × LoadsAs patched root_alone again (made_in_stead records (steads_in 0 records given) revisions) trees
    × (revision_numbers again ≡ revision_numbers records)
    × ((props : List (List Property)) → HaveRevisionProperties records props → HaveRevisionProperties again props)

-- and no copy in it is over what its own revision changed
abbrev pub AdditionsCopyOverNothing : Type 0
AdditionsCopyOverNothing = (patched : Patching) (dump : List ℕ) (records : List DumpRecord) (changes : List NodeChange)
    (revisions : List (List Change)) (trees : List Tree) (excluded : List NodePath) (given : List GivenStead)
    (path : NodePath) → HasAdditions patched dump records changes revisions trees excluded given
    → IsFalse (some_copies_over path (made_in_stead records (steads_in 0 records given) revisions))
