-- What the filter writes of a dump that is ready is its cut.
use Rattle.std.proofs.Common.{ap, ◌≡◌, ◌||◌, ℕ, Bool, true, false, IfSome, MatchBool, List, [], ◌∷◌, Contains, length, map, Option, Some, None, is_some, refl, sym, inl, inr, ◌∙◌, subst}
use Rattle.std.proofs.lemmas.Bool.{and_from, or_cases, or_right}
use Rattle.std.proofs.KnownBytes.{Keeps-refl}
use Rattle.std.specs.Io.KnownBytes.{Keeps}
use Rattle.std.specs.List.{list_all, list_any}
use Rattle.dump_text.specs.PropertyList.{Property}
use Rattle.dump_records.specs.DumpText.{Ending, HasRecords}
use Rattle.dump_records.specs.RecordText.{DumpRecord}
use Rattle.dump_digest.specs.RecordParts.{is_revision_record}
use Rattle.dump_rules.specs.Settings.{Settings}
use Rattle.dump_rules.specs.declared.options.Side.{Side}
use Rattle.dump_rules.specs.declared.options.Side.TheVariants.{Exclude, Include}
use Rattle.dump_filter.specs.FilterLaws.{LengthsFit}
use Rattle.dump_filter.specs.WholeText.{IsCleanText}
use Rattle.dump_trees.specs.Changes.{Change}
use Rattle.dump_trees.specs.Following.{Way}
use Rattle.dump_trees.specs.steps.LoadCheck.{all_apply, TellsKinds, ToldKinds}
use Rattle.dump_trees.specs.steps.Looking.{placed_from}
use Rattle.dump_trees.specs.Paths.{NodePath}
use Rattle.dump_trees.specs.Revisions.{loaded_over}
use Rattle.dump_trees.specs.CanonicalPaths.{canonical_path}
use Rattle.dump_trees.specs.Returns.{is_covered}
use Rattle.dump_trees.specs.steps.Siblings.{ExcludesPaths, is_in_cut, is_sibling}
use Rattle.dump_trees.proofs.cuts.CoveredPaths.{contains_cases, contains_first, contains_none}
use Rattle.dump_trees.proofs.cuts.EverKept.{ever_kept_in_cut}
use Rattle.dump_trees.proofs.paths.CutLineLemmas.{named_line_stays}
use Rattle.dump_trees.specs.Trees.{Tree, root_alone}
use Rattle.dump_trees.proofs.cuts.FollowLemmas.{following_is_least}
use Rattle.dump_trees.proofs.cuts.RestLemmas.{all_rests_are_listed}
use Rattle.dump_filter.specs.Groups.{is_pad, revision_numbers}
use Rattle.dump_history.specs.steps.CutDumps.{LoadsNew, LoadsNumbered, TreeRestricts, leaves_no_gap}
use Rattle.dump_history.specs.DumpChanges.{HaveRevisionProperties, LoadsAs, MakeRevisions, counts_from}
use Rattle.dump_history.specs.steps.ExpandedText.{made_in_stead}
use Rattle.dump_history.specs.KeptChanges.{ChangesComeOfKept}
use Rattle.dump_history.specs.steps.TrimmedDumps.{FiltersTrimmed}
use Rattle.dump_history.proofs.cuts.KeptChanges.{trimmed_changes_are_kept}
use Rattle.dump_history.proofs.cuts.TrimmedLaw.{trimmed_dump_loads, trimmed_dump_loads_renumbered}
use Rattle.dump_history.specs.RecordChanges.{Patching}
use Rattle.dump_index.specs.steps.IndexLaws.{AreListed}
use Rattle.dump_index.specs.steps.Listed.{Listed, listed_of}
use Rattle.dump_index.specs.steps.ToldKinds.{kinds_told_by}
use Rattle.dump_index.specs.declared.change.NodeChange.{NodeChange}
use Rattle.dump_index.proofs.ToldLemmas.{index_tells_kinds}
use Rattle.dump_changes.specs.steps.ListedDumps.{AreListedIn, are_numbered}
use Rattle.dump_changes.specs.steps.FileTexts.{record_texts}
use Rattle.dump_changes.specs.steps.NodeProperties.{HaveNodeNumbers, property_blocks}
use Rattle.dump_changes.proofs.PropertyLemmas.{has_revision, nodes_are}
use Rattle.dump_changes.proofs.ReadLemmas.{numbered_makes}
use Rattle.dump_cut.specs.steps.NamedLines.{CoverMergeinfo, is_left_by}
use Rattle.dump_cut.proofs.FoundSiblings.{found_siblings_are_all}
use Rattle.dump_cut.specs.steps.LoadChecks.{IsFirstRejected}
use Rattle.dump_cut.specs.steps.NamedPaths.{has_named_paths}
use Rattle.dump_cut.specs.steps.ExcludedPaths.{emptied_by}
use Rattle.dump_cut.specs.TrimmedCopies.{IsTrimmedBy}
use Rattle.dump_cut.specs.steps.TrimmedCopies.{AreDeletes}
use Rattle.dump_cut.proofs.LoadLaws.{unrejected_loads}
use Rattle.dump_cut.proofs.NamedLemmas.{listed_in_named}
use Rattle.dump_cut.proofs.NamedLemmas.{placed_named, revisions_named}
use Rattle.dump_cut.proofs.TrimLaw.{trimmed_copies_load}
use Rattle.dump_cut.proofs.TrimmedTextLemmas.{untrimmed}
use Rattle.dump_expansion.specs.steps.GivenSteads.{GivenStead, IsExpandedBy, steads_in}
use Rattle.dump_additions.specs.steps.AdditionLaws.{HasAdditions}
use Rattle.dump_additions.specs.steps.Additions.{AreAdditionsFrom}
use Rattle.dump_additions.proofs.AdditionLaw.{additions_load}
use Rattle.cut_cli.specs.Sent.{IsTrimmedIf}
use Rattle.cut_cli.specs.steps.Cuts.{AgreesIfAdded, AreChangesOf, AreKnownAs, AreListedButNumbers, BringsNothingBack, CutLoads, ExcludesAsAsked, FollowsAsAsked, HasPartIf, IsAskedBy, IsClosureOf, IsCutAsAsked, IsCutText, IsObstacleTo, IsReadFor, IsReadyFor, IsSetUp, LeadsNowhere, MergeinfoStaysByCut, text_read, writes_additions}
use Rattle.cut_cli.specs.steps.Drive.{CleanTextsAreCuts, CutsDump, CutsInput, EndsUnwritten, WritesBoth, WritesIfAsked, obstacle_status}
use Rattle.cut_cli.specs.Words.{CutMeaning}
use Rattle.cut_cli.specs.steps.Words.{asked_map}
use Rattle.cut_cli.specs.declared.examine.Obstacle.{Obstacle}
use Rattle.cut_cli.specs.declared.examine.Obstacle.TheVariants as obstacles
use Rattle.dump_history.proofs.restricted.LoadsOnce.{whole_records_once}

some_value : {A : Type 0} (o : Option A) → is_some o ≡ true → (x : A) × (o ≡ Some x)
some_value (Some x) is = (x, refl)
some_value None is = absurd (let bad : false ≡ true = is in cc)

-- paths to delete after each kept node
abbrev pub Deletes : Type 0
Deletes = List (List (List ℕ))

-- changes are listed unchanged if revisions are numbered one by one
known_numbered : (records : List DumpRecord) (changes : List NodeChange) (listed : List Listed)
    → are_numbered records ≡ true → AreKnownAs records changes listed → map listed_of changes ≡ listed
known_numbered records changes listed numbered known =
    subst (λ b. MatchBool b (map listed_of changes ≡ listed) (AreListedButNumbers changes listed)) numbered known

-- so are those of records that make revisions
pub read_numbered : (patched : Patching) (records : List DumpRecord) (revisions : List (List Change))
    → MakeRevisions patched records revisions → are_numbered records ≡ true
read_numbered patched records revisions makes =
    and_from (list_any is_revision_record records) (counts_from 0 (revision_numbers records))
    (has_revision patched records revisions makes) makes.numbered

-- the filter keeps a line of mergeinfo exactly if its path is in the cut, if the siblings cover the other paths that
-- mergeinfo names
lines_by_cut : (settings : Settings) (included siblings : List NodePath) (dump : List ℕ) (records : List DumpRecord)
    → HasRecords dump records Ending.Whole → ExcludesPaths settings siblings → list_all (is_sibling included) siblings ≡ true
    → CoverMergeinfo included siblings dump → MergeinfoStaysByCut settings included records
lines_by_cut settings included siblings dump records whole excludes each cover r ps p lines line among has there is reads contains short =
    named_line_stays settings included (canonical_path line.path ∷ []) siblings line excludes
    (record { each = each; all = λ path one named outside. covered path one outside })
    (short, contains_first (canonical_path line.path) [])
  where
    left : is_left_by included siblings (canonical_path line.path) ≡ true
    left = cover records Ending.Whole r whole among ps has p there is lines line reads contains

    covered : (path : NodePath) → Contains (canonical_path line.path ∷ []) path → is_in_cut included path ≡ false
        → is_covered siblings path ≡ true
    covered path one outside =
        elim (contains_cases (canonical_path line.path) [] path one) [
          | inl same ↦
              elim (or_cases (is_in_cut included path) (is_covered siblings path)
              (subst (λ q. is_left_by included siblings q ≡ true) same left)) [
                | inl inside ↦ absurd (let bad : true ≡ false = sym inside ∙ outside in cc)
                | inr is_covered ↦ is_covered
              ]
          | inr more ↦ absurd (contains_none path more)
        ]

-- what is written of a dump that loads, without what is excluded
record Written (m : CutMeaning) (settings : Settings) (records : List DumpRecord) (patched : Patching)
    (revisions : List (List Change)) (trees : List Tree) (text : List ℕ) : Type 0 where
  kept : LengthsFit settings records → ChangesComeOfKept patched settings records revisions text
  numbered : m.drop ≡ false → LengthsFit settings records
      → LoadsNumbered patched (TreeRestricts settings records) records trees text
  renumbered : m.drop ≡ true → LengthsFit settings records
      → LoadsNew patched settings (TreeRestricts settings records) records trees text

-- what the filter writes of what it reads, if nothing comes back there
module _ (m : CutMeaning) (dump : List ℕ) (settings : Settings) (records : List DumpRecord) (filtered text : List ℕ)
    (clean : IsCleanText settings dump records filtered) (changes : List NodeChange)
    (named : list_all has_named_paths (map listed_of changes) ≡ true) (excluded : List NodePath)
    (none_back : BringsNothingBack (map listed_of changes) excluded) (patched : Patching) (revisions : List (List Change))
    (listed : AreListed changes (placed_from 1 revisions)) (trees : List Tree)
    (loads_as : LoadsAs patched root_alone records revisions trees) where
  -- with these deletes
  module _ (option : Option Deletes) (set_up : IsSetUp m excluded (map listed_of changes) settings option) (deletes : Deletes)
      (are_deletes : AreDeletes excluded (kinds_told_by (map listed_of changes)) (placed_from 1 revisions) deletes)
      (trims : IsTrimmedBy deletes filtered text) where
    no_gap : (drops : Bool) → m.drop ≡ drops → leaves_no_gap settings ≡ true
    no_gap true is = ap (λ b. b || is_pad settings.empty) (set_up.numbers ∙ is)
    no_gap false is = or_right settings.renumber (is_pad settings.empty) (ap is_pad (set_up.empties ∙ ap emptied_by is))

    filters : LengthsFit settings records → FiltersTrimmed patched settings dump records revisions trees text
    filters fit = trimmed_copies_load patched settings excluded dump filtered text records changes revisions trees deletes
        (record {
          has = clean.whole;
          loads = loads_as;
          listed = listed;
          named = named;
          excludes = set_up.excludes;
          are_named = set_up.have_names;
          apart = set_up.apart;
          nothing_back = none_back (placed_from 1 revisions) listed;
          are_deletes = are_deletes;
          clean = clean;
          fit = fit;
          trimmed = trims;
        }) (no_gap m.drop refl)

    trimmed_written : Written m settings records patched revisions trees text
    trimmed_written = record {
      kept = λ fit. trimmed_changes_are_kept patched settings dump records revisions trees text (filters fit)
          (no_gap m.drop refl);
      numbered = λ stays fit. trimmed_dump_loads patched settings dump records revisions trees text (filters fit)
          set_up.excludes.side (set_up.empties ∙ ap emptied_by stays) set_up.preserves (set_up.numbers ∙ stays);
      renumbered = λ drops fit. trimmed_dump_loads_renumbered patched settings dump records revisions trees text (filters fit)
          set_up.excludes.side (set_up.numbers ∙ drops);
    }

  -- without deletes the text is trimmed by none
  is_written : (option : Option Deletes) → IsSetUp m excluded (map listed_of changes) settings option
      → IsTrimmedIf option filtered text → Written m settings records patched revisions trees text
  is_written None set_up same =
      let (deletes, are, nothing) = set_up.copies (placed_from 1 revisions) listed in
      trimmed_written None set_up deletes are
      (subst (IsTrimmedBy deletes filtered) (sym same) (untrimmed deletes filtered nothing))
  is_written (Some deletes) set_up trims =
      trimmed_written (Some deletes) set_up deletes (set_up.copies (placed_from 1 revisions) listed).0 trims

-- what is cut is what the call asks of the dump
module _ (m : CutMeaning) (dump : List ℕ) (settings : Settings) (records : List DumpRecord)
    (whole : HasRecords dump records Ending.Whole) (changes : List NodeChange)
    (named : list_all has_named_paths (map listed_of changes) ≡ true) (excluded : List NodePath)
    (excludes : ExcludesPaths settings excluded) (patched : Patching) (revisions : List (List Change))
    (listed : AreListed changes (placed_from 1 revisions)) (trees : List Tree)
    (loads : loaded_over root_alone revisions ≡ Some trees) where
  abbrev its_told : ToldKinds
  its_told = kinds_told_by (map listed_of changes)

  its_tells : TellsKinds its_told root_alone (placed_from 1 revisions)
  its_tells = index_tells_kinds changes (placed_from 1 revisions) listed

  -- the paths after copies are followed until no new path comes are the least set
  closure : (way : Way) (paths : List NodePath) (asked : FollowsAsAsked m (map listed_of changes) way paths)
      → LeadsNowhere way (map listed_of changes) paths → IsClosureOf way trees revisions asked.first paths
  closure way paths asked nowhere =
      let placed = placed_from 1 revisions in
      let comes = asked.come revisions trees (record { lists = listed; tells = its_tells; loads = loads }) in
      let least = following_is_least way trees revisions asked.first asked.additions paths loads comes
      ((all_rests_are_listed way paths its_told revisions trees placed refl its_tells loads).2 (nowhere placed listed)) in
      record { reached = least.1; least = least.2 }

  as_asked : (side : Side) → (side ≡ Exclude → m.keep ≡ false → BringsNothingBack (map listed_of changes) excluded)
      → IsAskedBy side m dump (map listed_of changes) excluded
      → IsCutAsAsked side m settings records trees revisions excluded
  as_asked Exclude none asked = record {
    first = asked.first;
    named = asked.named;
    unfollowed = asked.unfollowed;
    closure = λ unkept. closure Way.ToCopies excluded asked (none refl unkept);
  }
  as_asked Include none asked = record {
    first = asked.follows.first;
    included = asked.included;
    named = asked.follows.named;
    unfollowed = asked.follows.unfollowed;
    closure = λ follows. closure Way.ToSources asked.included asked.follows (asked.follows.followed follows);
    kept = λ path once. ever_kept_in_cut settings asked.included excluded revisions path
        (revisions_named 1 revisions (placed_named (map listed_of changes) (placed_from 1 revisions) listed named)) excludes
        (found_siblings_are_all changes asked.included excluded revisions listed asked.are_siblings) once;
    lines = lines_by_cut settings asked.included excluded dump records whole excludes asked.are_siblings.each
        asked.cover_mergeinfo;
  }

-- what the filter reads of a dump with these revisions loads to its trees, and these are its changes
record LoadsRead (patched : Patching) (records again : List DumpRecord) (changes : List NodeChange)
    (revisions : List (List Change)) (trees : List Tree) : Type 0 where
  made : List (List Change)
  reads : LoadsAs patched root_alone again made trees
  listed : AreListed changes (placed_from 1 made)
  properties : (props : List (List Property)) → HaveRevisionProperties records props → HaveRevisionProperties again props

-- revisions with the properties of others have those of which these have them
of_records : (patched : Patching) (Relates : Tree → Tree → Type 0) (records again : List DumpRecord) (trees : List Tree)
    (text : List ℕ)
    → ((props : List (List Property)) → HaveRevisionProperties records props → HaveRevisionProperties again props)
    → LoadsNumbered patched Relates again trees text → LoadsNumbered patched Relates records trees text
of_records patched Relates records again trees text same (parts, written, others, has, loads, relate, properties) =
    (parts, written, others, has, loads, relate, λ props have. properties props (same props have))

-- the changes of a dump with additions are those that are listed of it
added_read : (patched : Patching) (dump text : List ℕ) (records again : List DumpRecord) (changes read : List NodeChange)
    (revisions : List (List Change)) (trees : List Tree) (excluded : List NodePath) (given : List GivenStead)
    → HasAdditions patched dump records changes revisions trees excluded given → IsExpandedBy given dump text
    → HasRecords text again Ending.Whole → AreListedIn again read → LoadsRead patched records again read revisions trees
added_read patched dump text records again changes read revisions trees excluded given has expanded whole listed =
    let (found, found_whole, loads, numbers, properties) =
    additions_load patched dump text records changes revisions trees excluded given has expanded in
    let are = whole_records_once text found again found_whole whole in
    let made = made_in_stead records (steads_in 0 records given) revisions in
    let reads = subst (λ rs. LoadsAs patched root_alone rs made trees) are loads in
    let (placed, nodes, zip) = listed patched in
    record {
      made = made;
      reads = reads;
      listed = subst (AreListed read) (nodes_are patched again made placed reads.makes nodes) zip;
      properties = λ props have. subst (λ rs. HaveRevisionProperties rs props) are (properties props have);
    }

module _ (m : CutMeaning) (dump : List ℕ) (settings : Settings) (deletes : Option Deletes) (expansion : Option (List ℕ))
    (excluded : List NodePath) (read : List Listed) (are : ExcludesAsAsked m dump expansion excluded read)
    (set_up : IsSetUp m excluded read settings deletes) (records again : List DumpRecord) (filtered text : List ℕ)
    (whole : HasRecords dump records Ending.Whole) (numbered : are_numbered records ≡ true)
    (clean : IsCleanText settings (text_read expansion dump) again filtered) (trims : IsTrimmedIf deletes filtered text) where
  its : AreChangesOf dump are.listed
  its = are.is_taken.0

  others : AreChangesOf (text_read expansion dump) read
  others = are.read_is_taken.0

  its_records : its.records ≡ records
  its_records = whole_records_once dump its.records records its.whole whole

  its_listed : map listed_of its.changes ≡ are.listed
  its_listed = known_numbered its.records its.changes are.listed (ap are_numbered its_records ∙ numbered) its.known

  other_records : others.records ≡ again
  other_records = whole_records_once (text_read expansion dump) others.records again others.whole clean.whole

  its_listed_in : AreListedIn records its.changes
  its_listed_in = subst (λ rs. AreListedIn rs its.changes) its_records its.are_listed

  its_named : list_all has_named_paths (map listed_of its.changes) ≡ true
  its_named = listed_in_named records its.changes its_listed_in

  others_named : list_all has_named_paths (map listed_of others.changes) ≡ true
  others_named = listed_in_named others.records others.changes others.are_listed

  -- what the filter reads: the dump itself, or the dump with additions
  loads_read : (patched : Patching) (revisions : List (List Change)) (trees : List Tree)
      → LoadsAs patched root_alone records revisions trees → AreListed its.changes (placed_from 1 revisions)
      → (e : Option (List ℕ)) → AgreesIfAdded e patched → IsReadFor m dump are.listed excluded e read
      → HasRecords (text_read e dump) again Ending.Whole → AreListedIn again others.changes
      → LoadsRead patched records again others.changes revisions trees
  loads_read patched revisions trees loads listed None agrees same has listed_in =
      let one = whole_records_once dump records again whole has in
      let (placed, nodes, zip) = listed_in patched in
      let reads = subst (λ rs. LoadsAs patched root_alone rs revisions trees) one loads in
      record {
        made = revisions;
        reads = reads;
        listed = subst (AreListed others.changes) (nodes_are patched again revisions placed reads.makes nodes) zip;
        properties = λ props have. subst (λ rs. HaveRevisionProperties rs props) one have;
      }
  loads_read patched revisions trees loads listed (Some t) agrees (adds, some, has) has_again listed_in =
      let same = whole_records_once dump has.records records has.whole whole in
      added_read patched dump t records again its.changes others.changes revisions trees excluded has.given
      (record {
        has = whole;
        agrees = agrees;
        loads = loads;
        listed = its_listed_in;
        numbers = subst (λ rs. HaveNodeNumbers rs its.changes) its_records its.numbers;
        ordered = its.ordered (ap are_numbered its_records ∙ numbered);
        additions = subst (λ l. AreAdditionsFrom (property_blocks records) (record_texts records) l excluded 0 l has.given)
            (sym its_listed)
            (subst (λ rs. AreAdditionsFrom (property_blocks rs) (record_texts rs) are.listed excluded 0 are.listed has.given)
            same has.additions);
      }) has.expanded has_again listed_in

  -- under exclude nothing comes back in the dump, unless it is to be kept
  none_in_dump : (e : Option (List ℕ)) → IsReadFor m dump are.listed excluded e read → m.side ≡ Exclude → m.keep ≡ false
      → BringsNothingBack (map listed_of its.changes) excluded
  none_in_dump None same side unkept =
      subst (λ l. BringsNothingBack l excluded) (same ∙ sym its_listed) are.nothing_back
  none_in_dump (Some t) (adds, some, has) side unkept =
      absurd (let bad : false ≡ true = sym unkept ∙ sym (ap (λ s. writes_additions s m.keep) side) ∙ adds in cc)

  cut_of : (patched : Patching) (revisions : List (List Change)) (trees : List Tree)
      → LoadsAs patched root_alone records revisions trees → AreListed its.changes (placed_from 1 revisions)
      → LoadsRead patched records again others.changes revisions trees
      → CutLoads patched m settings excluded records again revisions text
  cut_of patched revisions trees loads listed reads =
      let others_listed : map listed_of others.changes ≡ read =
      known_numbered others.records others.changes read
      (ap are_numbered other_records ∙ read_numbered patched again reads.made reads.reads.makes) others.known in
      let written = is_written m (text_read expansion dump) settings again filtered text clean others.changes others_named
      excluded (subst (λ l. BringsNothingBack l excluded) (sym others_listed) are.nothing_back) patched reads.made
      reads.listed trees reads.reads deletes
      (subst (λ l. IsSetUp m excluded l settings deletes) (sym others_listed) set_up) trims in
      record {
        trees = trees;
        loads = loads;
        as_asked = as_asked m dump settings records whole its.changes its_named excluded set_up.excludes patched revisions listed
            trees loads.loads m.side (none_in_dump expansion are.is_read)
            (subst (λ l. IsAskedBy m.side m dump l excluded) (sym its_listed) are.asked);
        made = reads.made;
        reads = reads.reads;
        same_properties = reads.properties;
        kept = written.kept;
        numbered = λ stays fit. of_records patched (TreeRestricts settings again) records again trees text reads.properties
            (written.numbered stays fit);
        renumbered = written.renumbered;
      }

  -- the dump loads if its deltas apply
  loaded : (patched : Patching) (revisions : List (List Change)) → MakeRevisions patched records revisions
      → AreListed its.changes (placed_from 1 revisions) → AgreesIfAdded expansion patched
      → all_apply root_alone (placed_from 1 revisions) (length (placed_from 1 revisions)) ≡ true
      → CutLoads patched m settings excluded records again revisions text
  loaded patched revisions makes listed agrees apply =
      let unrejected = subst (λ l. IsFirstRejected l None) (sym its_listed) are.is_taken.1 in
      let (trees, leads) = some_value (loaded_over root_alone revisions)
      (unrejected_loads its.changes revisions listed unrejected apply) in
      let loads : LoadsAs patched root_alone records revisions trees = record { makes = makes; loads = leads } in
      cut_of patched revisions trees loads listed
      (loads_read patched revisions trees loads listed expansion agrees are.is_read clean.whole
      (subst (λ rs. AreListedIn rs others.changes) other_records others.are_listed))

  is_cut : IsCutText m expansion settings dump text
  is_cut =
      let (made, has, make) = numbered_makes dump records its.changes whole numbered its_listed_in in
      let one = whole_records_once dump made records has whole in
      record {
        excluded = excluded;
        records = records;
        again = again;
        excludes = set_up.excludes;
        have_names = set_up.have_names;
        whole = whole;
        whole_again = clean.whole;
        loads = λ patched.
            let (revisions, makes, listed) = make patched in
            let its_makes = subst (λ rs. MakeRevisions patched rs revisions) one makes in
            (revisions, its_makes, loaded patched revisions its_makes listed);
      }

-- what the filter writes of all that it reads, with the deletes, is the cut of the dump
pub clean_texts_are_cuts : (m : CutMeaning) (dump : List ℕ) (expansion : Option (List ℕ)) (settings : Settings)
    (deletes : Option Deletes) → IsReadyFor m dump expansion settings deletes
    → CleanTextsAreCuts m expansion settings deletes dump
clean_texts_are_cuts m dump expansion settings deletes ready records again filtered text whole numbered clean trims =
    is_cut m dump settings deletes expansion ready.excluded ready.read ready.are_excluded ready.is_set_up records again filtered
    text whole numbered clean trims

module _ (m : CutMeaning) (dump : List ℕ) (expansion : Option (List ℕ)) (settings : Settings) (deletes : Option Deletes)
    (old new map_old map_new : Option (List ℕ)) (status : ℕ) (part : HasPartIf m.after dump)
    (ready : IsReadyFor m dump expansion settings deletes) where
  abbrev read_text : List ℕ
  read_text = text_read expansion dump

  -- so the dump is cut
  cuts_ready : WritesIfAsked m settings deletes read_text old new map_old map_new status
      → CutsDump m dump old new map_old map_new status
  cuts_ready writes =
      inl (expansion, settings, deletes, part, ready, clean_texts_are_cuts m dump expansion settings deletes ready, writes)

  -- also in a dry run, which leaves the writer's bytes unchanged
  pub tries_cut : m.dry_run ≡ true
      → WritesBoth (asked_map m) settings deletes m.after read_text None None map_old map_new status
      → CutsDump m dump old old map_old map_new status
  tries_cut dry writes = inl (
    expansion,
    settings,
    deletes,
    part,
    ready,
    clean_texts_are_cuts m dump expansion settings deletes ready,
    on m.dry_run dry,
  )
    where
      on : (b : Bool) → b ≡ true → MatchBool b
          (WritesBoth (asked_map m) settings deletes m.after read_text None None map_old map_new status × Keeps old old)
          (WritesBoth (asked_map m) settings deletes m.after read_text old old map_old map_new status)
      on true is = (writes, Keeps-refl old)
      on false is = absurd (let bad : false ≡ true = is in cc)

  pub writes_cut : m.dry_run ≡ false
      → WritesBoth (asked_map m) settings deletes m.after read_text old new map_old map_new status → CutsDump m dump old new map_old map_new status
  writes_cut wet writes = cuts_ready (on m.dry_run wet)
    where
      on : (b : Bool) → b ≡ false → MatchBool b
          (WritesBoth (asked_map m) settings deletes m.after read_text None None map_old map_new status × Keeps old new)
          (WritesBoth (asked_map m) settings deletes m.after read_text old new map_old map_new status)
      on true is = absurd (let bad : true ≡ false = is in cc)
      on false is = writes

-- a dump that isn't cut, for an obstacle or out of memory
module _ (m : CutMeaning) (dump : List ℕ) (old map_old : Option (List ℕ)) where
  ends_unwritten : (status : ℕ) → EndsUnwritten m dump status → CutsDump m dump old old map_old map_old status
  ends_unwritten status ends = inr (ends, Keeps-refl old, Keeps-refl map_old)

  pub has_no_memory : CutsDump m dump old old map_old map_old 1
  has_no_memory = ends_unwritten 1 (inl refl)

  pub stops_at : (obstacle : Obstacle) → IsObstacleTo m dump obstacle
      → CutsDump m dump old old map_old map_old (obstacle_status obstacle)
  stops_at obstacles.ComesBack is = ends_unwritten 3 (inr (refl, inl is))
  stops_at obstacles.CutsOtherwise is = ends_unwritten 3 (inr (refl, inr (inl is)))
  stops_at obstacles.Missing is = ends_unwritten 3 (inr (refl, inr (inr is)))
  stops_at obstacles.EndsElsewhere is = has_no_memory
  stops_at (obstacles.Unread reason) is = has_no_memory
  stops_at (obstacles.Rejected rejected) is = has_no_memory
  stops_at (obstacles.NoPart why) is = has_no_memory
  stops_at (obstacles.OddDelete place) is = has_no_memory
  stops_at (obstacles.NotAdded not_added) is = has_no_memory

-- a whole input that is cut
pub input_cut : (m : CutMeaning) (input : Option (List ℕ)) (dump : List ℕ) (old new map_old map_new : Option (List ℕ))
    (status : ℕ) → IfSome input (λ left. dump ≡ left) → CutsDump m dump old new map_old map_new status
    → CutsInput m input old new map_old map_new status
input_cut m input dump old new map_old map_new status whole cuts = inl (of_whole input whole)
  where
    of_whole : (i : Option (List ℕ)) → IfSome i (λ left. dump ≡ left)
        → IfSome i (λ left. CutsDump m left old new map_old map_new status)
    of_whole None all = tt
    of_whole (Some left) all = subst (λ text. CutsDump m text old new map_old map_new status) all cuts
