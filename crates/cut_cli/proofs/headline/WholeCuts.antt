-- What is written of a dump that loads is its cut, as the headline says.
use Rattle.std.proofs.Common.{◌≡◌, ℕ, ◌<◌, ◌≤◌, ◌^◌, Bool, true, false, not, ◌&&◌, List, [], ◌∷◌, length, Option, Some, None, refl, sym, ap, ap₂, ◌∙◌, subst, arith}
use Rattle.std.specs.List.{AllZip, list_all, slice_get}
use Rattle.dump_records.specs.DumpText.{Ending, HasRecords}
use Rattle.dump_records.specs.RecordText.{DumpRecord}
use Rattle.dump_rules.specs.Settings.{Settings}
use Rattle.dump_rules.specs.declared.options.Side.{Side}
use Rattle.dump_rules.specs.declared.options.Side.TheVariants.{Exclude, Include}
use Rattle.dump_filter.specs.FilterLaws.{LengthsFit}
use Rattle.dump_filter.specs.Groups.{groups, kept_revisions}
use Rattle.dump_filter.specs.WholeText.{IsCleanText}
use Rattle.dump_trees.specs.Changes.{Change}
use Rattle.dump_trees.specs.Following.{Way}
use Rattle.dump_trees.specs.steps.LoadCheck.{all_apply}
use Rattle.dump_trees.specs.steps.Looking.{placed_from}
use Rattle.dump_trees.specs.Paths.{NodePath}
use Rattle.dump_trees.specs.Revisions.{loaded_over}
use Rattle.dump_trees.specs.Siblings.{has_node_names}
use Rattle.dump_trees.specs.steps.Siblings.{ExcludesPaths, have_node_names}
use Rattle.dump_trees.specs.Trees.{Tree, root_alone}
use Rattle.dump_trees.proofs.cuts.CheckedLoads.{loaded_size}
use Rattle.dump_trees.proofs.histories.StandingNames.{loaded_names}
use Rattle.dump_trees.proofs.paths.SiblingLemmas.{excluded_match}
use Rattle.dump_history.specs.steps.CutDumps.{LoadsNew, LoadsNumbered, TreeRestricts}
use Rattle.dump_history.specs.DumpChanges.{HaveRevisionProperties, LoadsAs, MakeChanges}
use Rattle.dump_history.specs.KeptChanges.{ChangesComeOfKept}
use Rattle.dump_history.specs.RecordChanges.{Patching}
use Rattle.dump_history.proofs.cuts.OwnNumbers.{zip_length}
use Rattle.dump_history.proofs.restricted.LoadsOnce.{later_once, trees_once, whole_records_once}
use Rattle.dump_changes.specs.TextDeltas.{AgreesWithSvndiff}
use Rattle.cut_cli.specs.steps.Cuts.{AgreesIfAdded, CutLoads, ExcludesNamed, IsClosureOf, IsCutAsAsked, IsCutText, text_read}
use Rattle.cut_cli.specs.Headline.{IsCut, IsDroppedCut, IsKept, IsNamed, IsOfKept, IsTreeAsAsked}
use Rattle.cut_cli.specs.Words.{CutMeaning}
use Rattle.cut_cli.proofs.headline.CutTrees.{Agrees, covered_named, cut_tree, exclude_agrees, include_agrees, named_covered, zip_where}
use Rattle.cut_cli.proofs.headline.DroppedCuts.{kept_below, kept_rising, left_of}
use Rattle.cut_cli.proofs.headline.LengthLemmas.{lengths_fit}
use Rattle.cut_cli.proofs.headline.LoadLemmas.{changes_named, deltas_apply}

-- a reading that agrees with svndiff does so where texts are written as additions
pub agrees_if_added : (e : Option (List ℕ)) (patched : Patching) → AgreesWithSvndiff patched → AgreesIfAdded e patched
agrees_if_added None patched agrees = tt
agrees_if_added (Some text) patched agrees = agrees

-- any reading does, if none are
pub none_added : (e : Option (List ℕ)) (patched : Patching) → e ≡ None → AgreesIfAdded e patched
none_added e patched is = subst (λ o. AgreesIfAdded o patched) (sym is) tt

-- the filter keeps what the call keeps, where something exists
module _ (m : CutMeaning) (apart : (m.keep && m.follow) ≡ false) (settings : Settings) (records : List DumpRecord)
    (trees : List Tree) (revisions : List (List Change)) (excluded : List NodePath)
    (excludes : ExcludesPaths settings excluded) (have_names : list_all has_node_names excluded ≡ true)
    (loads : loaded_over root_alone revisions ≡ Some trees) (names : have_node_names revisions ≡ true) where
  unkept : m.follow ≡ true → m.keep ≡ false
  unkept follows = cases m.keep refl
    where
      cases : (b : Bool) → m.keep ≡ b → b ≡ false
      cases true is = absurd (let bad : true ≡ false = sym (ap₂ (λ k f. k && f) is follows) ∙ apart in cc)
      cases false is = refl

  pub side_agrees : (side : Side) → IsCutAsAsked side m settings records trees revisions excluded → (number : ℕ)
      (tree : Tree) → slice_get trees number ≡ Some tree → (path : NodePath)
      → Agrees (IsKept side m trees revisions) settings tree path
  side_agrees Exclude asked number tree at =
      let closure : m.follow ≡ true → IsClosureOf Way.ToCopies trees revisions asked.first excluded =
      λ follows. asked.closure (unkept follows) in
      exclude_agrees settings excluded excludes have_names (IsNamed Way.ToCopies m trees revisions)
      (named_covered m Way.ToCopies trees revisions asked.first excluded asked.named asked.unfollowed closure)
      (covered_named m Way.ToCopies trees revisions asked.first excluded asked.named asked.unfollowed closure)
      tree (loaded_names revisions trees number tree loads names at)
  side_agrees Include asked number tree at =
      include_agrees trees revisions loads settings asked.included asked.kept (IsNamed Way.ToSources m trees revisions)
      (named_covered m Way.ToSources trees revisions asked.first asked.included asked.named asked.unfollowed asked.closure)
      (covered_named m Way.ToSources trees revisions asked.first asked.included asked.named asked.unfollowed asked.closure)
      number tree at

module _ (m : CutMeaning) (apart : (m.keep && m.follow) ≡ false) (dump text : List ℕ) (expansion : Option (List ℕ))
    (settings : Settings) (it : IsCutText m expansion settings dump text)
    (read : List DumpRecord) (filtered : List ℕ) (clean : IsCleanText settings (text_read expansion dump) read filtered)
    (short : length filtered < 10 ^ 18) (patched : Patching) (records : List DumpRecord) (revisions : List (List Change))
    (trees : List Tree) (has : HasRecords dump records Ending.Whole)
    (loads : LoadsAs patched root_alone records revisions trees) (agrees : AgreesIfAdded expansion patched) where
  records_same : it.records ≡ records
  records_same = whole_records_once dump it.records records it.whole has

  made : List (List Change)
  made = (it.loads patched).0

  revisions_same : made ≡ revisions
  unfolding made
  revisions_same =
      later_once patched (groups records) [] made revisions
      (subst (λ (rs : List DumpRecord). AllZip (MakeChanges patched) (groups rs) ([] ∷ made)) records_same
      (it.loads patched).1.changes) loads.makes.changes

  cut : CutLoads patched m settings it.excluded it.records it.again made text
  unfolding made
  cut = (it.loads patched).2 agrees
      (subst (λ (rs : List (List Change)). all_apply root_alone (placed_from 1 rs) (length (placed_from 1 rs)) ≡ true)
      (sym revisions_same) (deltas_apply revisions trees loads.loads))

  trees_same : cut.trees ≡ trees
  trees_same = trees_once root_alone made revisions cut.trees trees revisions_same cut.loads.loads loads.loads

  asked : IsCutAsAsked m.side m settings records trees revisions it.excluded
  asked =
      subst (λ (rs : List DumpRecord). IsCutAsAsked m.side m settings rs trees revisions it.excluded) records_same
      (subst (λ (ts : List Tree). IsCutAsAsked m.side m settings it.records ts revisions it.excluded) trees_same
      (subst (λ (rs : List (List Change)). IsCutAsAsked m.side m settings it.records cut.trees rs it.excluded) revisions_same
      cut.as_asked))

  fit : LengthsFit settings it.again
  fit = subst (LengthsFit settings)
      (whole_records_once (text_read expansion dump) read it.again clean.whole it.whole_again)
      (lengths_fit settings (text_read expansion dump) read filtered clean short)

  tree_cut : (number : ℕ) (tree new : Tree) → slice_get trees number ≡ Some tree → TreeRestricts settings it.again tree new
      → IsTreeAsAsked m trees revisions tree new
  tree_cut number tree new at restricts =
      cut_tree settings (kept_revisions settings it.again) it.excludes.side (IsKept m.side m trees revisions) tree new restricts
      (side_agrees m apart settings records trees revisions it.excluded it.excludes it.have_names loads.loads
      (changes_named patched records revisions loads.makes) m.side asked number tree at)

  -- the whole cut
  pub whole_cut : m.drop ≡ false → IsCut m patched records revisions trees text
  whole_cut stays =
      let loads_numbered : LoadsNumbered patched (TreeRestricts settings it.again) records trees text =
      subst (λ (rs : List DumpRecord). LoadsNumbered patched (TreeRestricts settings it.again) rs trees text) records_same
      (subst (λ (ts : List Tree). LoadsNumbered patched (TreeRestricts settings it.again) it.records ts text) trees_same
      (cut.numbered stays fit)) in
      let (again, written, others, is_dump, loads_again, restrict, same) = loads_numbered in
      record {
        again = again;
        written = written;
        others = others;
        is_dump = is_dump;
        loads = loads_again;
        cut = zip_where (TreeRestricts settings it.again) (IsTreeAsAsked m trees revisions) trees others restrict tree_cut;
        same = same;
      }

  -- nothing of a named path is written, if the filter reads the dump
  pub of_kept : expansion ≡ None → m.side ≡ Exclude → m.keep ≡ false → IsOfKept m patched records revisions trees text
  of_kept plain side unkept =
      let again_same : it.again ≡ records =
      whole_records_once dump it.again records
      (subst (λ e. HasRecords (text_read e dump) it.again Ending.Whole) plain it.whole_again) has in
      let made_same : cut.made ≡ revisions =
      later_once patched (groups records) [] cut.made revisions
      (subst (λ (rs : List DumpRecord). AllZip (MakeChanges patched) (groups rs) ([] ∷ cut.made)) again_same
      cut.reads.makes.changes) loads.makes.changes in
      let excludes : ExcludesNamed m trees revisions it.excluded =
      subst (λ s. IsCutAsAsked s m settings records trees revisions it.excluded) side asked in (
        settings,
        λ path are keep named.
            let covered = named_covered m Way.ToCopies trees revisions excludes.first it.excluded excludes.named
            excludes.unfollowed (λ follows. excludes.closure unkept) path named in
            let bad : true ≡ false =
            sym keep ∙ excluded_match settings it.excluded path it.excludes it.have_names are ∙ ap not covered in
            cc,
        subst (λ (rs : List (List Change)). ChangesComeOfKept patched settings records rs text) made_same
            (subst (λ (rs : List DumpRecord). ChangesComeOfKept patched settings rs cut.made text) again_same (cut.kept fit)),
      )

  -- there are as many revisions as trees
  few : length (groups it.again) ≤ length trees
  few =
      let one = zip_length (MakeChanges patched) (groups it.again) ([] ∷ cut.made) cut.reads.makes.changes in
      let two = loaded_size root_alone cut.made cut.trees cut.reads.loads in
      let three = ap length trees_same in
      omega arith

  -- the cut without emptied revisions
  pub dropped_cut : settings.preserve ≡ true → m.drop ≡ true → IsDroppedCut m patched records revisions trees text
  dropped_cut preserves drops =
      let loads_new : LoadsNew patched settings (TreeRestricts settings it.again) it.again trees text =
      subst (λ (ts : List Tree). LoadsNew patched settings (TreeRestricts settings it.again) it.again ts text) trees_same
      (cut.renumbered drops fit) in
      let (again, written, others, is_dump, loads_again, count, images, properties) = loads_new in
      record {
        kept = kept_revisions settings it.again;
        again = again;
        written = written;
        others = others;
        is_dump = is_dump;
        loads = loads_again;
        rising = kept_rising settings it.again cut.reads.makes.numbered;
        inside = kept_below settings it.again (length trees) cut.reads.makes.numbered few;
        count = count;
        cut = λ number tree at.
            let (new, other, image_is, there, restricts) = images number tree at in
            (new, other, image_is, there, tree_cut number tree other at restricts);
        same = λ props have. left_of settings preserves it.again again props cut.reads.makes.numbered
            (cut.same_properties props
            (subst (λ (rs : List DumpRecord). HaveRevisionProperties rs props) (sym records_same) have)) properties;
      }
