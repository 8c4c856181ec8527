-- The laws of dumps whose copies are trimmed.
use Rattle.dump_history.proofs.Prelude.{◌≡◌, ◌==◌, Bool, true, ◌++◌, drop, refl, sym, ap, ◌∙◌, subst, or_left, or_right, MatchBool-at_false, slice_get, list_any, AllZip, Property, DumpRecord, Settings, Exclude, Pad, KeptRevisions, HasPropertyList, Group, groups, keeps, keeps_group, keeps_revision, kept_revisions, image, Tree, root_alone, Made, Change, NewProperty, NewNumber, IsNewMade, IsNewChange, IsWrittenNumber, AreNewChanges, AreNewRevisions, kept_of, IsNewProperty, KeepsProperties, Patching}
use Rattle.std.proofs.Common.{ℕ, false, List, [], ◌∷◌, Option, Some, None, length, is_some, not, ◌&&◌}
use Rattle.std.specs.Prelude.{filter}
use Rattle.std.proofs.lemmas.Bool.{MatchBool-at_true}
use Rattle.dump_filter.specs.Groups.{is_pad, is_padded, keeps_empty}
use Rattle.dump_filter.specs.NewContent.{revision_properties}
use Rattle.dump_trees.specs.Changes.{History}
use Rattle.dump_trees.specs.HistoryLaws.{ImagesRestrict}
use Rattle.dump_filter.specs.FilterLaws.{keep_all}
use Rattle.dump_trees.specs.Quiet.{is_quiet_kept}
use Rattle.dump_trees.specs.Restriction.{is_lost}
use Rattle.dump_trees.proofs.quiet.QuietLemmas.{quiet_separates}
use Rattle.dump_trees.proofs.expansions.CaseLemmas.{separated_expands}
use Rattle.dump_trees.specs.steps.Trimming.{AreTrimmedChanges, AreTrimmedFiltered, AreTrimmedRevisions, IsSameNumber}
use Rattle.dump_trees.proofs.expansions.TrimmedHistories.{trimmed_history}
use Rattle.dump_trees.proofs.expansions.TrimmedNumbers.{trimmed_filtered, at_true, at_false}
use Rattle.dump_records.specs.DumpText.{Ending, HasRecords}
use Rattle.dump_history.specs.WrittenNodes.{WrittenNode}
use Rattle.dump_history.specs.DumpChanges.{HaveRevisionProperties, MakeRevisions}
use Rattle.dump_history.specs.steps.CutDumps.{LoadsNew, LoadsNumbered, TreeRestricts, leaves_no_gap}
use Rattle.dump_history.specs.TrimmedDumps.{IsTrimmedText}
use Rattle.dump_history.specs.steps.TrimmedDumps.{part_groups, changes_behind, revisions_with, AreTrimming, stays_empty, AreAllTrimming, FiltersTrimmed, TrimmedDumpLoads, TrimmedDumpLoadsRenumbered, EachChangeStays, EachBranchIsCutAlike}
use Rattle.dump_history.proofs.again.NodeChanges.{entries_kept}
use Rattle.dump_history.proofs.restricted.FilteredLaw.{IsLeft, is_left, same_kept}
use Rattle.dump_history.proofs.restricted.LoadsOnce.{whole_records_once}
use Rattle.dump_history.proofs.cuts.OwnNumbers.{numbers_are_kept, filter_same, same_properties}
use Rattle.dump_history.proofs.cuts.TrimmedTexts.{trimmed_texts_are_dumps}

module _ (settings : Settings) (IsNew : NewProperty) (IsNumber : NewNumber) where
  -- the changes of a revision
  changes_trimmed : (history : History) (changes new : List Change) (behind : List (List WrittenNode)) (before : Tree)
      → AreNewChanges settings IsNew IsNumber changes new → AreTrimming settings history before changes behind
      → AreTrimmedChanges settings IsNew IsNumber history before changes (changes_behind behind new)
  changes_trimmed history [] new behind before none nothing = ap (λ b. changes_behind b new) nothing
  changes_trimmed history (c ∷ changes) new behind before are trims =
      sides (λ rest more t. changes_trimmed history changes rest more t) (keeps settings c.path) refl
    where
      Later : Type 0
      Later = (rest : List Change) (more : List (List WrittenNode)) (t : Tree)
          → AreNewChanges settings IsNew IsNumber changes rest → AreTrimming settings history t changes more
          → AreTrimmedChanges settings IsNew IsNumber history t changes (changes_behind more rest)

      sides : Later → (b : Bool) → keeps settings c.path ≡ b
          → AreTrimmedChanges settings IsNew IsNumber history before (c ∷ changes) (changes_behind behind new)
      sides later true is =
          let (one, rest, written, is_new, others) = MatchBool-at_true _ _ is are in
          let (nodes, more, rests, listed, deleted, trimmed, further) = MatchBool-at_true _ _ is trims in
          at_true _ _ (keeps settings c.path) is (
            one,
            rests,
            changes_behind more rest,
            (λ i. changes_behind (listed i) (written i))
                ∙ ap (λ ds. one ∷ (ds ++ changes_behind more rest)) deleted,
            is_new,
            trimmed,
            λ after at. later rest more after others (further after at),
          )
      sides later false left =
          at_false _ _ (keeps settings c.path) left (λ after at. later new behind after (MatchBool-at_false _ _ left are)
          (MatchBool-at_false _ _ left trims after at))

  -- the revisions
  revisions_trimmed : (revisions written : List (List Change)) (behind : List (List (List WrittenNode)))
      (trees : List Tree) (youngest : Tree)
      → AreNewRevisions settings IsNew IsNumber (stays_empty settings) revisions written
      → AreAllTrimming settings trees youngest revisions behind
      → AreTrimmedFiltered settings IsNew IsNumber (stays_empty settings) trees youngest revisions
      (revisions_with behind written)
  revisions_trimmed [] written behind trees youngest none nothing = ap (λ b. revisions_with b written) nothing
  revisions_trimmed (changes ∷ revisions) written behind trees youngest are trims =
      sides (λ others rest ts t. revisions_trimmed revisions others rest ts t)
      (keeps_revision settings (stays_empty settings) changes) refl
    where
      Later : Type 0
      Later = (others : List (List Change)) (rest : List (List (List WrittenNode))) (ts : List Tree) (t : Tree)
          → AreNewRevisions settings IsNew IsNumber (stays_empty settings) revisions others
          → AreAllTrimming settings ts t revisions rest
          → AreTrimmedFiltered settings IsNew IsNumber (stays_empty settings) ts t revisions (revisions_with rest others)

      sides : Later → (b : Bool) → keeps_revision settings (stays_empty settings) changes ≡ b
          → AreTrimmedFiltered settings IsNew IsNumber (stays_empty settings) trees youngest (changes ∷ revisions)
          (revisions_with behind written)
      sides later true is =
          let (new, others, written_is, one, more) = MatchBool-at_true _ _ is are in
          let (first, rest, listed, trimming, further) = MatchBool-at_true _ _ is trims in
          at_true _ _ (keeps_revision settings (stays_empty settings) changes) is (
            changes_behind first new,
            revisions_with rest others,
            (λ i. revisions_with (listed i) (written_is i)),
            changes_trimmed (slice_get trees) changes new first youngest one trimming,
            λ tree at. later others rest (trees ++ tree ∷ []) tree more (further tree at),
          )
      sides later false is =
          at_false _ _ (keeps_revision settings (stays_empty settings) changes) is
          (λ tree at. later written behind (trees ++ tree ∷ []) tree (MatchBool-at_false _ _ is are)
          (MatchBool-at_false _ _ is trims tree at))

-- what is written of changes, if the numbers don't change

module _ (settings : Settings) (kept : KeptRevisions) (stays : settings.renumber ≡ false) where
  own_made : (whole : Bool) (old new : Option Made) → IsNewMade settings (IsWrittenNumber settings kept) whole old new
      → IsNewMade settings IsSameNumber whole old new
  own_made whole None None is = is
  own_made whole None (Some made) is = absurd is
  own_made whole (Some Made.NewDirectory) None is = absurd is
  own_made whole (Some Made.NewDirectory) (Some Made.NewDirectory) is = is
  own_made whole (Some Made.NewDirectory) (Some Made.NewFile) is = absurd is
  own_made whole (Some Made.NewDirectory) (Some (Made.Copied number source)) is = absurd is
  own_made whole (Some Made.NewFile) None is = absurd is
  own_made whole (Some Made.NewFile) (Some Made.NewDirectory) is = absurd is
  own_made whole (Some Made.NewFile) (Some Made.NewFile) is = is
  own_made whole (Some Made.NewFile) (Some (Made.Copied number source)) is = absurd is
  own_made whole (Some (Made.Copied number source)) None is = absurd is
  own_made whole (Some (Made.Copied number source)) (Some Made.NewDirectory) is = absurd is
  own_made whole (Some (Made.Copied number source)) (Some Made.NewFile) is = is
  own_made whole (Some (Made.Copied number source)) (Some (Made.Copied written same)) is =
      (is.0, MatchBool-at_false _ _ stays is.1, is.2)

  own_change : (IsNew : NewProperty) (old new : Change)
      → IsNewChange settings IsNew (IsWrittenNumber settings kept) old new → IsNewChange settings IsNew IsSameNumber old new
  own_change IsNew old new is = record {
    path = is.path;
    deletes = is.deletes;
    made = own_made _ old.made new.made is.made;
    props = is.props;
    text = is.text;
  }

  module _ (IsNew : NewProperty) where
    -- the changes of a revision, which keep their numbers
    own_changes : (changes new : List Change) → AreNewChanges settings IsNew (IsWrittenNumber settings kept) changes new
        → AreNewChanges settings IsNew IsSameNumber changes new
    own_changes [] new are = are
    own_changes (c ∷ changes) new are = sides (λ rest. own_changes changes rest) (keeps settings c.path) refl
      where
        sides : ((rest : List Change) → AreNewChanges settings IsNew (IsWrittenNumber settings kept) changes rest
            → AreNewChanges settings IsNew IsSameNumber changes rest)
            → (b : Bool) → keeps settings c.path ≡ b → AreNewChanges settings IsNew IsSameNumber (c ∷ changes) new
        sides further true is =
            let (one, rest, written, is_new, others) = MatchBool-at_true _ _ is are in
            at_true _ _ (keeps settings c.path) is (one, rest, written, own_change IsNew c one is_new, further rest others)
        sides further false left =
            at_false _ _ (keeps settings c.path) left (further new (MatchBool-at_false _ _ left are))

    -- the revisions, if each stays
    all_trimmed : ((changes : List Change) → stays_empty settings changes ≡ true)
        → (revisions written : List (List Change)) (behind : List (List (List WrittenNode))) (trees : List Tree)
        (youngest : Tree)
        → AreNewRevisions settings IsNew (IsWrittenNumber settings kept) (stays_empty settings) revisions written
        → AreAllTrimming settings trees youngest revisions behind
        → AreTrimmedRevisions settings IsNew trees youngest revisions (revisions_with behind written)
    all_trimmed all [] written behind trees youngest none nothing = ap (λ b. revisions_with b written) nothing
    all_trimmed all (changes ∷ revisions) written behind trees youngest are trims =
        let (new, others, is, one, more) = MatchBool-at_true _ _ (stays_there changes) are in
        let (first, rest, listed, trimming, further) = MatchBool-at_true _ _ (stays_there changes) trims in (
          changes_behind first new,
          revisions_with rest others,
          (λ i. revisions_with (listed i) (is i)),
          changes_trimmed settings IsNew IsSameNumber (slice_get trees) changes new first youngest (own_changes changes new one)
              trimming,
          λ tree at. all_trimmed all revisions others rest (trees ++ tree ∷ []) tree more (further tree at),
        )
      where
        stays_there : (cs : List Change) → keeps_revision settings (stays_empty settings) cs ≡ true
        stays_there cs = or_right (list_any (λ (c : Change). keeps settings c.path) cs) (stays_empty settings cs) (all cs)

-- kept properties, as lists

record KeptLists (settings : Settings) (gs hs : List Group) : Type 0 where
  lists : List (List Property)
  have : AllZip (λ (h : Group) ps. HasPropertyList h.revision ps) hs lists
  back : (ks : List Group) → AllZip (λ (h : Group) ps. HasPropertyList h.revision ps) ks lists
      → AllZip (KeepsProperties settings) gs ks

kept_lists : (settings : Settings) (gs hs : List Group) → AllZip (KeepsProperties settings) gs hs
    → KeptLists settings gs hs
kept_lists settings [] [] all = record { lists = []; have = tt; back = back }
  where
    back : (ks : List Group) → AllZip (λ (h : Group) ps. HasPropertyList h.revision ps) ks []
        → AllZip (KeepsProperties settings) [] ks
    back [] have = tt
    back (k ∷ ks) have = absurd have
kept_lists settings [] (h ∷ hs) all = absurd all
kept_lists settings (g ∷ gs) [] all = absurd all
kept_lists settings (g ∷ gs) (h ∷ hs) ((ps, old, new), all) = extend (kept_lists settings gs hs all)
  where
    extend : KeptLists settings gs hs → KeptLists settings (g ∷ gs) (h ∷ hs)
    extend more = record {
      lists = revision_properties (is_padded settings g) ps ∷ more.lists;
      have = (new, more.have);
      back = back;
    }
      where
        back : (ks : List Group)
            → AllZip (λ (h : Group) qs. HasPropertyList h.revision qs) ks
            (revision_properties (is_padded settings g) ps ∷ more.lists)
            → AllZip (KeepsProperties settings) (g ∷ gs) ks
        back [] have = absurd have
        back (k ∷ ks) (one, others) = ((ps, old, one), more.back ks others)

-- the laws

module _ (patched : Patching) (settings : Settings) (dump : List ℕ) (records : List DumpRecord)
    (revisions : List (List Change)) (trees : List Tree) (text : List ℕ)
    (f : FiltersTrimmed patched settings dump records revisions trees text) (side : settings.side ≡ Exclude)
    (no_gap : leaves_no_gap settings ≡ true) where
  abbrev kept : KeptRevisions
  kept = kept_revisions settings records

  left : IsLeft patched settings dump f.filtered records revisions f.clean f.fit (numbers_are_kept settings records no_gap).0
      f.loads.makes
  left =
      is_left patched settings dump f.filtered records revisions f.clean f.fit (numbers_are_kept settings records no_gap).0
      f.loads.makes

  same : left.again ≡ f.again
  same = whole_records_once f.filtered left.again f.again left.has f.has_again

  abbrev behind : List (List (List WrittenNode))
  behind = drop 1 (part_groups left.again f.behind)

  trims : AreAllTrimming settings (root_alone ∷ []) root_alone revisions behind
  trims = subst (λ l. AreAllTrimming settings (root_alone ∷ []) root_alone revisions (drop 1 (part_groups l f.behind)))
      (sym same) f.trims

  -- the text is a dump
  is_dump : (parts : List DumpRecord) × HasRecords text parts Ending.Whole
      × MakeRevisions patched parts (revisions_with behind left.written)
      × ((props : List (List Property)) → HaveRevisionProperties left.again props → HaveRevisionProperties parts props)
  is_dump = trimmed_texts_are_dumps patched f.filtered text left.again f.behind left.written left.has
      (record {
        numbered = left.no_gap_if_kept (numbers_are_kept settings records no_gap).1;
        ordered = left.makes_again.ordered;
        changes = left.makes_again.changes;
      }) (subst (λ l. IsTrimmedText l f.behind text) (sym same) f.trimmed)

  numbered : settings.empty ≡ Pad → settings.preserve ≡ true → settings.renumber ≡ false
      → LoadsNumbered patched (TreeRestricts settings records) records trees text
  numbered pad preserve stays =
      let (parts, has_parts, makes, properties) = is_dump in
      let (others, loads, restrict) = trimmed_history settings (IsNewProperty settings kept) (entries_kept settings kept)
      revisions (revisions_with behind left.written) trees side f.loads.loads
      (all_trimmed settings (kept_of settings (stays_empty settings) revisions) stays (IsNewProperty settings kept)
      (λ changes. ap (λ e. keeps_empty e (length changes == 0)) pad) revisions left.written behind (root_alone ∷ []) root_alone
      left.new trims) in (
        parts,
        revisions_with behind left.written,
        others,
        has_parts,
        record { makes = makes; loads = loads },
        restrict,
        λ props have. properties props
            (same_properties settings preserve (groups records) (groups left.again)
            (subst (λ gs. AllZip (KeepsProperties settings) gs (groups left.again))
            (filter_same settings pad (groups records)) left.properties) props have),
      )

  renumbered : settings.renumber ≡ true → LoadsNew patched settings (TreeRestricts settings records) records trees text
  renumbered renumber =
      let (parts, has_parts, makes, properties) = is_dump in
      let kept_is = same_kept patched settings dump f.filtered records revisions f.clean f.fit
      (numbers_are_kept settings records no_gap).0 f.loads.makes in
      let (others, loads, size, images) = trimmed_filtered settings (IsNewProperty settings kept) (entries_kept settings kept)
      (stays_empty settings) revisions (revisions_with behind left.written) trees side renumber f.loads.loads
      (revisions_trimmed settings (IsNewProperty settings kept)
      (IsWrittenNumber settings (kept_of settings (stays_empty settings) revisions)) revisions left.written behind
      (root_alone ∷ []) root_alone left.new trims) in
      let lists = kept_lists settings (filter (keeps_group settings) (groups records)) (groups left.again) left.properties in (
        parts,
        revisions_with behind left.written,
        others,
        has_parts,
        record { makes = makes; loads = loads },
        size ∙ ap (λ (k : KeptRevisions). length k.numbers) (sym kept_is),
        subst (λ (k : KeptRevisions). ImagesRestrict settings (IsNewProperty settings kept) (image k) trees others)
            (sym kept_is) images,
        lists.back (groups parts) (properties lists.lists lists.have),
      )

pub trimmed_dump_loads : TrimmedDumpLoads
trimmed_dump_loads patched settings dump records revisions trees text f side pad preserve stays =
    numbered patched settings dump records revisions trees text f side
    (or_right settings.renumber (is_pad settings.empty) (ap is_pad pad)) pad preserve stays

pub trimmed_dump_loads_renumbered : TrimmedDumpLoadsRenumbered
trimmed_dump_loads_renumbered patched settings dump records revisions trees text f side renumber =
    renumbered patched settings dump records revisions trees text f side
    (or_left settings.renumber (is_pad settings.empty) renumber) renumber

-- with options that keep everything

pub each_branch_is_cut_alike : EachBranchIsCutAlike
each_branch_is_cut_alike path source branch = (refl, refl, λ rest node at. refl)

pub each_change_stays : EachChangeStays
each_change_stays history before c =
    separated_expands keep_all history before c
    (λ after at. quiet_separates keep_all history before after c (quiet c.made) (over c.made) at)
  where
    quiet : (made : Option Made) → is_quiet_kept keep_all c.path c.props made ≡ true
    quiet None = refl
    quiet (Some Made.NewDirectory) = refl
    quiet (Some Made.NewFile) = refl
    quiet (Some (Made.Copied number source)) = refl

    over : (made : Option Made) → (is_lost keep_all made && not c.deletes && is_some (before c.path)) ≡ false
    over None = refl
    over (Some Made.NewDirectory) = refl
    over (Some Made.NewFile) = refl
    over (Some (Made.Copied number source)) = refl
