-- What is found out of a dump before it is filtered, and what the filter then writes.
use Rattle.std.specs.Prelude.{◌≡◌, ◌≢◌, ℕ, true, false, List, [], ◌∷◌, length, map, take, Bool, Option, Some, None, MatchBool, Contains, IsFalse, IsTrue, unwrap_or, ⊤}
use Rattle.std.specs.List.{AllZip, list_all}
use Rattle.dump_digest.specs.RecordParts.{HasPropertyList, is_mergeinfo, value_of}
use Rattle.dump_records.specs.DumpText.{Ending, HasRecords}
use Rattle.dump_records.specs.RecordText.{DumpRecord}
use Rattle.dump_text.specs.PropertyList.{Property}
use Rattle.dump_rules.specs.Mergeinfo.{IsMergeinfo, MergeLine}
use Rattle.dump_rules.specs.Settings.{Settings, keeps_path}
use Rattle.dump_rules.specs.declared.options.Side.{Side}
use Rattle.dump_rules.specs.declared.options.Side.TheVariants.{Exclude, Include}
use Rattle.dump_filter.specs.FilterLaws.{LengthsFit}
use Rattle.dump_filter.specs.Groups.{revision_numbers}
use Rattle.dump_trees.specs.CanonicalPaths.{canonical_path, canonical_paths}
use Rattle.dump_trees.specs.Changes.{Change}
use Rattle.dump_trees.specs.steps.FollowedRests.{all_rests}
use Rattle.dump_trees.specs.Following.{Way, Covers, IsInClosure}
use Rattle.dump_trees.specs.steps.Following.{ExistsOnce}
use Rattle.dump_trees.specs.steps.LoadCheck.{ToldKinds, all_apply}
use Rattle.dump_trees.specs.steps.Looking.{Placed, end_of, placed_from}
use Rattle.dump_trees.specs.Paths.{NodePath, is_short, keeps}
use Rattle.dump_trees.specs.Returns.{is_covered}
use Rattle.dump_trees.specs.steps.Returns.{lie_apart}
use Rattle.dump_trees.specs.Siblings.{has_node_names}
use Rattle.dump_trees.specs.steps.Siblings.{ExcludesPaths, is_in_cut}
use Rattle.dump_trees.specs.Trees.{Tree, root_alone}
use Rattle.dump_history.specs.steps.CutDumps.{LoadsNew, LoadsNumbered, TreeRestricts}
use Rattle.dump_history.specs.DumpChanges.{HaveRevisionProperties, LoadsAs, MakeRevisions}
use Rattle.dump_history.specs.KeptChanges.{ChangesComeOfKept}
use Rattle.dump_history.specs.RecordChanges.{Patching}
use Rattle.dump_index.specs.steps.IndexLaws.{IsListed}
use Rattle.dump_index.specs.steps.InOrder.{are_in_order}
use Rattle.dump_index.specs.steps.Listed.{Listed, all_placed, listed_of}
use Rattle.dump_index.specs.steps.ToldKinds.{kinds_told_by}
use Rattle.dump_index.specs.declared.change.NodeChange.{NodeChange}
use Rattle.dump_additions.specs.steps.Additions.{AreAdditionsFrom}
use Rattle.dump_changes.specs.TextDeltas.{AgreesWithSvndiff}
use Rattle.dump_changes.specs.steps.FileTexts.{record_texts}
use Rattle.dump_changes.specs.ListedDumps.{rise_from}
use Rattle.dump_changes.specs.steps.ListedDumps.{AreListedIn, are_numbered, without_number}
use Rattle.dump_changes.specs.steps.NodeProperties.{HaveNodeNumbers, property_blocks}
use Rattle.dump_cut.specs.steps.CutAlike.{AreDifferences}
use Rattle.dump_cut.specs.steps.FollowedCopies.{ComeByFollowing}
use Rattle.dump_cut.specs.steps.FoundSiblings.{AreFoundSiblings}
use Rattle.dump_cut.specs.steps.NamedLines.{CoverMergeinfo}
use Rattle.dump_cut.specs.LaterParts.{IsFirstPart}
use Rattle.dump_cut.specs.steps.LaterParts.{IsWhyNoPart}
use Rattle.dump_cut.specs.steps.LoadChecks.{IsFirstRejected}
use Rattle.dump_cut.specs.steps.ExcludedPaths.{emptied_by}
use Rattle.dump_cut.specs.steps.TrimmedCopies.{AreDeletes, deletes_nothing}
use Rattle.dump_expansion.specs.steps.GivenSteads.{GivenStead, IsExpandedBy}
use Rattle.cut_cli.specs.Words.{CutMeaning}
use Rattle.cut_cli.specs.declared.examine.Obstacle.{Obstacle}
use Rattle.cut_cli.specs.declared.examine.Obstacle.TheVariants as obstacles

-- an index says this of the changes, but for the numbers of the revisions of which they copy
abbrev pub AreListedButNumbers : List NodeChange → List Listed → Type 0
AreListedButNumbers changes listed = map without_number (map listed_of changes) ≡ map without_number listed

-- an index of these changes of records says this of them: all of it, if the revisions are numbered 0, 1, 2 and so on. If they
-- aren't, copies can have the numbers of other revisions there: those of which a load takes them
abbrev pub AreKnownAs : List DumpRecord → List NodeChange → List Listed → Type 0
AreKnownAs records changes listed =
    MatchBool (are_numbered records) (map listed_of changes ≡ listed) (AreListedButNumbers changes listed)

-- an index of the changes of the dump says this of them
pub record AreChangesOf (dump : List ℕ) (listed : List Listed) : Type 0 where
  pub records : List DumpRecord
  pub changes : List NodeChange
  pub whole : HasRecords dump records Ending.Whole
  pub rise : IsTrue (rise_from 0 (revision_numbers records))
  pub are_listed : AreListedIn records changes
  pub numbers : HaveNodeNumbers records changes
  pub known : AreKnownAs records changes listed
  pub ordered : are_numbered records ≡ true → IsTrue (are_in_order 0 changes)

-- the paths cover what these prefixes name, read as svnadmin load reads paths, and nothing else
abbrev pub AreNamed : List (List ℕ) → List NodePath → Type 0
AreNamed prefixes paths = (path : NodePath) → is_covered paths path ≡ is_covered (canonical_paths prefixes) path

-- no copy is followed this way from these paths to another one
abbrev pub LeadsNowhere : Way → List Listed → List NodePath → Type 0
LeadsNowhere way listed paths = (placed : List Placed) → AllZip IsListed listed placed
    → all_rests way paths (kinds_told_by listed) placed (length placed) ≡ []

-- some copy is
abbrev pub LeadsSomewhere : Way → List Listed → List NodePath → Type 0
LeadsSomewhere way listed paths = (placed : List Placed) → AllZip IsListed listed placed
    → all_rests way paths (kinds_told_by listed) placed (length placed) ≢ []

-- no copy brings back anything of what these paths exclude
abbrev pub BringsNothingBack : List Listed → List NodePath → Type 0
BringsNothingBack listed excluded = LeadsNowhere Way.ToCopies listed excluded

-- some copy does
abbrev pub BringsSomeBack : List Listed → List NodePath → Type 0
BringsSomeBack listed excluded = LeadsSomewhere Way.ToCopies listed excluded

-- the paths are those that the call names, and those to which copies are followed from there this way, until they lead
-- nowhere, if it asks for that
pub record FollowsAsAsked (m : CutMeaning) (listed : List Listed) (way : Way) (paths : List NodePath) : Type 0 where
  pub first : List NodePath
  pub additions : List NodePath
  pub named : AreNamed m.prefixes first
  pub come : ComeByFollowing way listed first additions paths
  pub unfollowed : m.follow ≡ false → paths ≡ first
  pub followed : m.follow ≡ true → LeadsNowhere way listed paths

-- the paths are the siblings of what the call includes: those at which something can exist at some time, and those that
-- mergeinfo in the dump names
pub record LeavesIncluded (m : CutMeaning) (dump : List ℕ) (listed : List Listed) (excluded : List NodePath) : Type 0 where
  pub included : List NodePath
  pub follows : FollowsAsAsked m listed Way.ToSources included
  pub are_siblings : AreFoundSiblings listed included excluded
  pub cover_mergeinfo : CoverMergeinfo included excluded dump

-- these paths are what the call excludes: what it names, or the siblings of that
abbrev pub IsAskedBy : Side → CutMeaning → List ℕ → List Listed → List NodePath → Type 0
IsAskedBy Exclude m dump listed excluded = FollowsAsAsked m listed Way.ToCopies excluded
IsAskedBy Include m dump listed excluded = LeavesIncluded m dump listed excluded

-- the changes of the revisions up to this one
abbrev pub changes_up_to : ℕ → List Listed → List Listed
changes_up_to number listed = take (end_of (all_placed listed) number) listed

-- up to this revision, a cut that excludes these paths of the dump differs at these paths from the cut that the call asks for of the
-- dump up to there
pub record DiffersBefore (m : CutMeaning) (dump : List ℕ) (listed : List Listed) (number : ℕ)
    (excluded differences : List NodePath) : Type 0 where
  pub first : List ℕ
  pub earlier : List NodePath
  pub is_first : IsFirstPart number dump first
  pub asked : IsAskedBy m.side m first (changes_up_to number listed) earlier
  pub are : AreDifferences first (changes_up_to number listed) excluded earlier differences

-- if the call follows copies, and writes the part after a revision, up to there the cut doesn't differ. (If it doesn't follow
-- copies, later ones can't change what it excludes)
abbrev pub BeginsAsBefore : CutMeaning → List ℕ → List Listed → List NodePath → Type 0
BeginsAsBefore m dump listed excluded = (number : ℕ) → m.after ≡ Some number → m.follow ≡ true
    → DiffersBefore m dump listed number excluded []

-- if it does, and it differs
abbrev pub CutsOtherwise : CutMeaning → List ℕ → List Listed → List NodePath → Type 0
CutsOtherwise m dump listed excluded = (number : ℕ) × (path : NodePath) × (differences : List NodePath)
    × (m.after ≡ Some number) × (m.follow ≡ true) × DiffersBefore m dump listed number excluded (path ∷ differences)

-- a load takes all changes of the dump, as far as paths and kinds go
abbrev pub IsTakenDump : List ℕ → List Listed → Type 0
IsTakenDump dump listed = AreChangesOf dump listed × IsFirstRejected listed None

-- the text is the dump with other nodes in place of each copy with which something excluded comes back
pub record HasAdditionsFor (dump : List ℕ) (listed : List Listed) (excluded : List NodePath) (text : List ℕ) : Type 0 where
  pub records : List DumpRecord
  pub given : List GivenStead
  pub whole : HasRecords dump records Ending.Whole
  pub additions : AreAdditionsFrom (property_blocks records) (record_texts records) listed excluded 0 listed given
  pub expanded : IsExpandedBy given dump text

-- the filter reads the dump with additions, if there is one, in place of the dump
abbrev pub text_read : Option (List ℕ) → List ℕ → List ℕ
text_read expansion dump = unwrap_or expansion dump

-- whether what copies bring back is written as additions: under include, and under exclude if the call asks to keep it
abbrev pub writes_additions : Side → (keep : Bool) → Bool
writes_additions Include keep = true
writes_additions Exclude keep = keep

-- the filter reads the dump, with these changes; or something comes back in the dump, which is written as additions, and it
-- reads the dump with these
abbrev pub IsReadFor : CutMeaning → List ℕ → List Listed → List NodePath → Option (List ℕ) → List Listed → Type 0
IsReadFor m dump listed excluded None read = read ≡ listed
IsReadFor m dump listed excluded (Some text) read =
    (writes_additions m.side m.keep ≡ true) × BringsSomeBack listed excluded × HasAdditionsFor dump listed excluded text

-- the call excludes these paths of the dump, and reads it, or one with additions: it loads, and nothing comes back there
pub record ExcludesAsAsked (m : CutMeaning) (dump : List ℕ) (expansion : Option (List ℕ)) (excluded : List NodePath)
    (read : List Listed) : Type 0 where
  pub listed : List Listed
  pub is_taken : IsTakenDump dump listed
  pub asked : IsAskedBy m.side m dump listed excluded
  pub goes_on : BeginsAsBefore m dump listed excluded
  pub is_read : IsReadFor m dump listed excluded expansion read
  pub read_is_taken : IsTakenDump (text_read expansion dump) read
  pub nothing_back : BringsNothingBack read excluded

-- the call excludes these paths of a dump that loads, and copies bring something back of them
pub record ExcludesWithReturns (m : CutMeaning) (dump : List ℕ) (listed : List Listed) (excluded : List NodePath) : Type 0
  where
    pub is_taken : IsTakenDump dump listed
    pub asked : IsAskedBy m.side m dump listed excluded
    pub goes_on : BeginsAsBefore m dump listed excluded
    pub some_back : BringsSomeBack listed excluded

-- the dump has a part after a revision, if one is asked for
abbrev pub HasPartIf : Option ℕ → List ℕ → Type 0
HasPartIf None dump = ⊤
HasPartIf (Some number) dump = (records : List DumpRecord) × HasRecords dump records Ending.Whole
    × IsWhyNoPart number records None

-- copies bring something back of what the call excludes of the dump. If such copies are to be written as additions, there is a
-- dump with additions
abbrev pub WouldComeBack : CutMeaning → List ℕ → Type 0
WouldComeBack m dump = (listed : List Listed) × (excluded : List NodePath) × ExcludesWithReturns m dump listed excluded
    × (writes_additions m.side m.keep ≡ true → (text : List ℕ) × HasAdditionsFor dump listed excluded text)

-- a call for the revisions before the part alone would cut them in another way
abbrev pub WouldDiffer : CutMeaning → List ℕ → Type 0
WouldDiffer m dump = (listed : List Listed) × (excluded : List NodePath) × IsTakenDump dump listed
    × IsAskedBy m.side m dump listed excluded × CutsOtherwise m dump listed excluded

-- why nothing is written with status 3; of prefixes that no revision has, only that the call doesn't allow them. The reason for
-- status 1 isn't said
abbrev pub IsObstacleTo : CutMeaning → List ℕ → Obstacle → Type 0
IsObstacleTo m dump obstacles.ComesBack = WouldComeBack m dump
IsObstacleTo m dump obstacles.CutsOtherwise = WouldDiffer m dump
IsObstacleTo m dump obstacles.Missing = m.allow_missing ≡ false
IsObstacleTo m dump obstacles.EndsElsewhere = ⊤
IsObstacleTo m dump (obstacles.Unread reason) = ⊤
IsObstacleTo m dump (obstacles.Rejected rejected) = ⊤
IsObstacleTo m dump (obstacles.NoPart why) = ⊤
IsObstacleTo m dump (obstacles.OddDelete place) = ⊤
IsObstacleTo m dump (obstacles.NotAdded not_added) = ⊤

-- these are the paths to delete after each node that the filter keeps; or there are none
abbrev pub AreDeletesIfAny : List NodePath → ToldKinds → List Placed → Option (List (List (List ℕ))) → Type 0
AreDeletesIfAny excluded told placed None =
    (deletes : List (List (List ℕ))) × AreDeletes excluded told placed deletes × IsTrue (deletes_nothing deletes)
AreDeletesIfAny excluded told placed (Some deletes) =
    AreDeletes excluded told placed deletes × IsFalse (deletes_nothing deletes)

-- these are the options of a filter that cuts a dump with these changes, and the paths to delete after each node that it keeps: it
-- excludes these paths, leaves mergeinfo of them out, and keeps each revision with its number and properties; or it drops those
-- that lose all of their nodes, and renumbers
pub record IsSetUp (m : CutMeaning) (excluded : List NodePath) (read : List Listed) (settings : Settings)
    (deletes : Option (List (List (List ℕ)))) : Type 0 where
  pub copies : (placed : List Placed) → AllZip IsListed read placed
      → AreDeletesIfAny excluded (kinds_told_by read) placed deletes
  pub apart : IsTrue (lie_apart excluded)
  pub excludes : ExcludesPaths settings excluded
  pub have_names : IsTrue (list_all has_node_names excluded)
  pub empties : settings.empty ≡ emptied_by m.drop
  pub numbers : settings.renumber ≡ m.drop
  pub preserves : settings.preserve ≡ true
  pub skips : settings.skip_missing ≡ true

-- so is the filter for what the call asks of the dump
pub record IsReadyFor (m : CutMeaning) (dump : List ℕ) (expansion : Option (List ℕ)) (settings : Settings)
    (deletes : Option (List (List (List ℕ)))) : Type 0 where
  pub excluded : List NodePath
  pub read : List Listed
  pub are_excluded : ExcludesAsAsked m dump expansion excluded read
  pub is_set_up : IsSetUp m excluded read settings deletes

-- these paths cover the least set that has what the first ones cover, and where copies lead from there this way
pub record IsClosureOf (way : Way) (trees : List Tree) (revisions : List (List Change)) (first paths : List NodePath)
    : Type 0 where
  pub reached : (path : NodePath) → Covers paths path → IsInClosure way trees revisions first path
  pub least : (path : NodePath) → IsInClosure way trees revisions first path → Covers paths path

-- the excluded paths are what the call names, unless it follows copies; and they are the least set that has what the call names,
-- and what copies bring of it elsewhere, unless the call keeps what copies bring back
pub record ExcludesNamed (m : CutMeaning) (trees : List Tree) (revisions : List (List Change)) (excluded : List NodePath)
    : Type 0 where
  pub first : List NodePath
  pub named : AreNamed m.prefixes first
  pub unfollowed : m.follow ≡ false → excluded ≡ first
  pub closure : m.keep ≡ false → IsClosureOf Way.ToCopies trees revisions first excluded

-- the filter keeps a line of mergeinfo in the dump exactly if its path, as the load reads it, is in the cut. The path is
-- canonical, as svnadmin writes it
abbrev pub MergeinfoStaysByCut : Settings → List NodePath → List DumpRecord → Type 0
MergeinfoStaysByCut settings included records = (r : DumpRecord) (ps : List Property) (p : Property) (lines : List MergeLine)
    (line : MergeLine) →
    Contains records r → HasPropertyList r ps → Contains ps p → IsTrue (is_mergeinfo p) → IsMergeinfo (value_of p) lines
    → Contains lines line → IsTrue (is_short line.path)
    → keeps_path settings line.path ≡ is_in_cut included (canonical_path line.path)

-- the included paths are what the call names; or, if it asks for that, the least set that has it and the sources of what
-- copies bring there. Wherever something exists after some of the changes, the filter keeps it exactly if it is at or below an
-- included path, or above one
pub record LeavesNamed (m : CutMeaning) (settings : Settings) (records : List DumpRecord) (trees : List Tree)
    (revisions : List (List Change)) : Type 0 where
  pub first : List NodePath
  pub included : List NodePath
  pub named : AreNamed m.prefixes first
  pub unfollowed : m.follow ≡ false → included ≡ first
  pub closure : m.follow ≡ true → IsClosureOf Way.ToSources trees revisions first included
  pub kept : (path : NodePath) → ExistsOnce revisions path → keeps settings path ≡ is_in_cut included path
  pub lines : MergeinfoStaysByCut settings included records

-- what is cut is what the call asks for
abbrev pub IsCutAsAsked : Side → CutMeaning → Settings → List DumpRecord → List Tree → List (List Change) → List NodePath
    → Type 0
IsCutAsAsked Exclude m settings records trees revisions excluded = ExcludesNamed m trees revisions excluded
IsCutAsAsked Include m settings records trees revisions excluded = LeavesNamed m settings records trees revisions

-- the dump loads into an empty repository, and so does what the filter reads of it: to the same trees, with the same properties of
-- revisions. So does what is written: each revision has its own number and properties, and the tree that it had, without the
-- excluded paths. If the call drops revisions that lose all of their nodes, this is true of the others under their new numbers. The
-- excluded paths are what the call asks for. And all that is written comes of changes at paths that aren't excluded, also where no
-- revision shows it
pub record CutLoads (patched : Patching) (m : CutMeaning) (settings : Settings) (excluded : List NodePath)
    (records again : List DumpRecord) (revisions : List (List Change)) (text : List ℕ) : Type 0 where
  pub trees : List Tree
  pub loads : LoadsAs patched root_alone records revisions trees
  pub as_asked : IsCutAsAsked m.side m settings records trees revisions excluded
  pub made : List (List Change)
  pub reads : LoadsAs patched root_alone again made trees
  pub same_properties : (props : List (List Property)) → HaveRevisionProperties records props
      → HaveRevisionProperties again props
  pub kept : LengthsFit settings again → ChangesComeOfKept patched settings again made text
  pub numbered : m.drop ≡ false → LengthsFit settings again
      → LoadsNumbered patched (TreeRestricts settings again) records trees text
  pub renumbered : m.drop ≡ true → LengthsFit settings again
      → LoadsNew patched settings (TreeRestricts settings again) again trees text

-- where texts are written as additions, the reading of text deltas agrees with svndiff
abbrev pub AgreesIfAdded : Option (List ℕ) → Patching → Type 0
AgreesIfAdded None patched = ⊤
AgreesIfAdded (Some text) patched = AgreesWithSvndiff patched

-- the text is the cut of the dump, where text deltas apply, if it has some
pub record IsCutText (m : CutMeaning) (expansion : Option (List ℕ)) (settings : Settings) (dump text : List ℕ) : Type 0 where
  pub excluded : List NodePath
  pub records : List DumpRecord
  pub again : List DumpRecord
  pub excludes : ExcludesPaths settings excluded
  pub have_names : IsTrue (list_all has_node_names excluded)
  pub whole : HasRecords dump records Ending.Whole
  pub whole_again : HasRecords (text_read expansion dump) again Ending.Whole
  pub loads : (patched : Patching) → (revisions : List (List Change)) × MakeRevisions patched records revisions
      × (AgreesIfAdded expansion patched → IsTrue (all_apply root_alone (placed_from 1 revisions) (length (placed_from 1 revisions)))
      → CutLoads patched m settings excluded records again revisions text)
