-- Dumps whose copies are trimmed: what the filter writes, and after its nodes deletions of what they take to paths that
-- aren't kept. So a copy of which a part isn't kept stays a copy, and nothing has to be written out in its place.
use Rattle.std.specs.Prelude.{◌≡◌, ℕ, true, false, ◌==◌, List, [], ◌∷◌, ◌++◌, length, drop, map, Some, slice_get, if◌then◌else◌, MatchBool, IsTrue}
use Rattle.dump_records.specs.DumpText.{Ending, HasRecords}
use Rattle.dump_records.specs.RecordText.{DumpRecord}
use Rattle.dump_rules.specs.declared.options.Side.TheVariants.{Exclude}
use Rattle.dump_rules.specs.declared.options.Empty.TheVariants.{Pad}
use Rattle.dump_rules.specs.Settings.{Settings}
use Rattle.dump_digest.specs.RecordParts.{is_node, is_revision_record}
use Rattle.dump_filter.specs.FilterLaws.{LengthsFit, keep_all}
use Rattle.dump_filter.specs.Groups.{keeps_empty}
use Rattle.dump_filter.specs.WholeText.{IsCleanText}
use Rattle.dump_text.specs.PropertyList.{Property}
use Rattle.dump_trees.specs.Paths.{NodePath, keeps}
use Rattle.dump_trees.specs.Trees.{Tree, root_alone}
use Rattle.dump_trees.specs.Changes.{Change, History, step, steps}
use Rattle.dump_trees.specs.steps.ExpansionCases.{deletions}
use Rattle.dump_trees.specs.steps.Branches.{Branch}
use Rattle.dump_trees.specs.steps.WritingOut.{IsCutAlike}
use Rattle.dump_trees.specs.steps.Revisions.{EmptyRule, keeps_revision}
use Rattle.dump_trees.specs.steps.Expansions.{Expands}
use Rattle.dump_trees.specs.steps.Trimming.{IsTrimmed}
use Rattle.dump_history.specs.RecordChanges.{Patching}
use Rattle.dump_history.specs.DumpChanges.{MakeRevisions, HaveRevisionProperties, LoadsAs}
use Rattle.dump_history.specs.WrittenNodes.{WrittenNode}
use Rattle.dump_history.specs.steps.WrittenNodes.{written_change}
use Rattle.dump_history.specs.steps.CutDumps.{TreeRestricts, LoadsNew, LoadsNumbered}
use Rattle.dump_history.specs.TrimmedDumps.{IsTrimmedText}

-- the parts of the list that belong to the nodes with which the records begin
abbrev pub node_parts : List DumpRecord → List (List WrittenNode) → List (List WrittenNode)
node_parts [] behind = []
node_parts (r ∷ records) [] = []
node_parts (r ∷ records) (nodes ∷ behind) = if is_node r then nodes ∷ node_parts records behind else []

-- the same for the nodes of each revision
abbrev pub part_groups : List DumpRecord → List (List WrittenNode) → List (List (List WrittenNode))
part_groups [] behind = []
part_groups (r ∷ records) [] = []
part_groups (r ∷ records) (nodes ∷ behind) =
    if is_revision_record r then node_parts records behind ∷ part_groups records behind
    else part_groups records behind

-- the changes, and after each those of these nodes
abbrev pub changes_behind : List (List WrittenNode) → List Change → List Change
changes_behind [] changes = []
changes_behind (nodes ∷ behind) [] = []
changes_behind (nodes ∷ behind) (c ∷ changes) = c ∷ (map written_change nodes ++ changes_behind behind changes)

-- so of each revision
abbrev pub revisions_with : List (List (List WrittenNode)) → List (List Change) → List (List Change)
revisions_with [] revisions = []
revisions_with (behind ∷ groups) [] = []
revisions_with (behind ∷ groups) (changes ∷ revisions) = changes_behind behind changes ∷ revisions_with groups revisions

-- such a text is a dump, which makes the changes of the records and of the nodes after them, in revisions that have the
-- properties of those of the dump
abbrev pub TrimmedTextsAreDumps : Type 0
TrimmedTextsAreDumps = (patched : Patching) (dump text : List ℕ) (records : List DumpRecord)
    (behind : List (List WrittenNode)) (revisions : List (List Change)) →
    HasRecords dump records Ending.Whole → MakeRevisions patched records revisions
    → IsTrimmedText records behind text
    → (parts : List DumpRecord) × HasRecords text parts Ending.Whole
    × MakeRevisions patched parts (revisions_with (drop 1 (part_groups records behind)) revisions)
    × ((props : List (List Property)) → HaveRevisionProperties records props → HaveRevisionProperties parts props)

-- after each kept change of a revision are the deletions of just what it takes to paths that aren't kept
abbrev pub AreTrimming : Settings → History → Tree → List Change → List (List WrittenNode) → Type 0
AreTrimming settings history before [] behind = behind ≡ []
AreTrimming settings history before (c ∷ changes) behind =
    MatchBool (keeps settings c.path)
    ((nodes : List WrittenNode) × (rest : List (List WrittenNode)) × (rests : List NodePath)
    × (behind ≡ nodes ∷ rest) × (map written_change nodes ≡ deletions c.path rests)
    × IsTrimmed settings history before c rests
    × ((after : Tree) → step history before c ≡ Some after → AreTrimming settings history after changes rest))
    ((after : Tree) → step history before c ≡ Some after → AreTrimming settings history after changes behind)

-- which revisions without a kept change stay by the options
abbrev pub stays_empty : Settings → EmptyRule
stays_empty settings changes = keeps_empty settings.empty (length changes == 0)

-- after the kept changes of each revision that stays are the deletions of just what they take to paths that aren't kept
abbrev pub AreAllTrimming : Settings → List Tree → Tree → List (List Change) → List (List (List WrittenNode)) → Type 0
AreAllTrimming settings trees youngest [] groups = groups ≡ []
AreAllTrimming settings trees youngest (changes ∷ revisions) groups =
    MatchBool (keeps_revision settings (stays_empty settings) changes)
    ((first : List (List WrittenNode)) × (rest : List (List (List WrittenNode))) × (groups ≡ first ∷ rest)
    × AreTrimming settings (slice_get trees) youngest changes first
    × ((tree : Tree) → steps (slice_get trees) youngest changes ≡ Some tree
    → AreAllTrimming settings (trees ++ tree ∷ []) tree revisions rest))
    ((tree : Tree) → steps (slice_get trees) youngest changes ≡ Some tree
    → AreAllTrimming settings (trees ++ tree ∷ []) tree revisions groups)

-- the dump loads into a new repository, and the text is what the filter writes of it, if its answer is clean, with the
-- deletions of what its copies take to paths that aren't kept
pub record FiltersTrimmed (patched : Patching) (settings : Settings) (dump : List ℕ) (records : List DumpRecord)
    (revisions : List (List Change)) (trees : List Tree) (text : List ℕ) : Type 0 where
  pub loads : LoadsAs patched root_alone records revisions trees
  pub filtered : List ℕ
  pub clean : IsCleanText settings dump records filtered
  pub fit : LengthsFit settings records
  pub again : List DumpRecord
  pub has_again : HasRecords filtered again Ending.Whole
  pub behind : List (List WrittenNode)
  pub trimmed : IsTrimmedText again behind text
  pub trims : AreAllTrimming settings (root_alone ∷ []) root_alone revisions (drop 1 (part_groups again behind))

-- if prefixes are excluded, and no revision is dropped, emptied or renumbered, the text loads into a new repository,
-- and has the restricted trees, each under its own number
abbrev pub TrimmedDumpLoads : Type 0
TrimmedDumpLoads = (patched : Patching) (settings : Settings) (dump : List ℕ) (records : List DumpRecord)
    (revisions : List (List Change)) (trees : List Tree) (text : List ℕ) →
    FiltersTrimmed patched settings dump records revisions trees text
    → settings.side ≡ Exclude → settings.empty ≡ Pad → settings.preserve ≡ true → settings.renumber ≡ false
    → LoadsNumbered patched (TreeRestricts settings records) records trees text

-- if prefixes are excluded and revisions are renumbered, the text loads into a new repository, and has the restricted
-- trees at the images of the numbers
abbrev pub TrimmedDumpLoadsRenumbered : Type 0
TrimmedDumpLoadsRenumbered = (patched : Patching) (settings : Settings) (dump : List ℕ) (records : List DumpRecord)
    (revisions : List (List Change)) (trees : List Tree) (text : List ℕ) →
    FiltersTrimmed patched settings dump records revisions trees text
    → settings.side ≡ Exclude → IsTrue settings.renumber
    → LoadsNew patched settings (TreeRestricts settings records) records trees text

-- each change is an expansion of itself, and each branch may be copied: what is asked of an expansion is that it does the
-- same
abbrev pub EachChangeStays : Type 0
EachChangeStays = (history : History) (before : Tree) (c : Change) → Expands keep_all history before c (c ∷ [])

abbrev pub EachBranchIsCutAlike : Type 0
EachBranchIsCutAlike = (path source : NodePath) (branch : Branch) → IsCutAlike keep_all path source branch
