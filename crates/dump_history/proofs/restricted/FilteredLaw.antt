-- The law of filtered dumps.
use Rattle.dump_history.proofs.Prelude.{◌≡◌, Bool, true, ◌||◌, ◌++◌, length, refl, sym, ap, ◌∙◌, subst, take, list_all, MatchBool-at_false, or_left, or_right, or_parts, absurd_bool, Ending, HasRecords, IsCutInto, DumpRecord, Settings, KeptRevisions, image, LengthsFit, Group, groups, keeps_group, kept_revisions, IsNewProperty, IsWrittenCopyNumber, IsCleanText, AllLawful, all_lawful, AreReadAgain, reads_again, root_alone, is_copied, Change, ImagesRestrict, names_none_behind, stays_numbered, AreNewRevisions, kept_of, IsWrittenNumber, front_names_none, fewer_names_none, history, front_history, all_quiet, Patching, MakeRevisions, sets_mergeinfo, names_revision, MakeRevisionsWithGaps, KeepsNamedNumbers, keeps_numbering, HasNoGapIfKept, FilteredDumpRestricts, QuietDumpRestricts, FilteredDumpFrontRestricts, QuietDumpFrontRestricts, RevisionsKeepProperties}
use Rattle.std.proofs.Common.{ℕ, false, List, [], ◌∷◌}
use Rattle.std.specs.Prelude.{filter}
use Rattle.dump_history.proofs.again.NodeChanges.{entries_kept}
use Rattle.dump_history.proofs.again.GroupsAgain.{keeps_first, AreGroupsAgain, groups_again}
use Rattle.dump_history.proofs.again.GroupChanges.{GroupsMake, empty_rule, AreNumberedFrom}
use Rattle.dump_history.proofs.again.GroupNumbers.{renumbered_again, same_again, properties_again}
use Rattle.dump_history.proofs.again.OrderAgain.{none_behind, order_again}
use Rattle.dump_history.proofs.restricted.FrontSize.{kept_count}
use Rattle.dump_history.proofs.again.DumpAgain.{groups_are, numbered_from, counted_from, kept_revisions_are, none_named, CountToGap, counts_without, counts_with, revisions_change}
use Rattle.dump_trees.proofs.cuts.CheckedLoads.{loaded_size}

-- the clean text that the filter writes of a dump that makes these revisions
module _ (patched : Patching) (settings : Settings) (dump text : List ℕ) (records : List DumpRecord)
    (revisions : List (List Change))
    (clean : IsCleanText settings dump records text) (fit : LengthsFit settings records)
    (keeps : KeepsNamedNumbers settings records) (makes : MakeRevisions patched records revisions) where
  abbrev kept : KeptRevisions
  kept = kept_revisions settings records

  lawful : AllLawful records
  lawful = all_lawful 0 0 dump [] records
      (subst (λ (rest : List ℕ). IsCutInto 0 0 dump records rest) clean.whole.3.0 clean.whole.1)

  numbered : AreNumberedFrom 0 (groups records)
  numbered = numbered_from 0 (groups records) makes.numbered

  -- the kept revisions are those of the changes
  pub same_kept : kept_revisions settings records ≡ kept_of settings (empty_rule settings) revisions
  same_kept = kept_revisions_are patched settings records revisions numbered makes.changes

  -- without renumbering, no change names a revision after the first dropped one
  none_behind_dropped : settings.renumber ≡ false
      → names_none_behind settings (empty_rule settings) names_revision revisions ≡ true
  none_behind_dropped stays = none_named patched settings (groups records) revisions (groups_are records).1 numbered
      makes.changes (MatchBool-at_false _ _ stays keeps)

  -- so each copy finds its revision
  pub keeps_changes : stays_numbered settings (empty_rule settings) revisions ≡ true
  keeps_changes = cases settings.renumber refl
    where
      cases : (b : Bool) → settings.renumber ≡ b → stays_numbered settings (empty_rule settings) revisions ≡ true
      cases true renumber = or_left settings.renumber _ renumber
      cases false stays = or_right settings.renumber _ (fewer_names_none settings (empty_rule settings) names_revision
          (λ (c : Change). is_copied c.made) (λ c none. (or_parts (is_copied c.made) (sets_mergeinfo c) none).0)
          revisions (none_behind_dropped stays))

  renumbered : settings.renumber ≡ true → (again : List Group) → AreGroupsAgain settings kept (groups records) again
      → AreNumberedFrom 0 again
  renumbered renumber again reads =
      renumbered_again settings kept renumber 0 (ap (λ (k : KeptRevisions). k.first) same_kept)
      0 [] (groups records) again refl refl (groups_are records).0 numbered reads

  -- if the numbering is kept, there is no gap
  numbers_again : keeps_numbering settings records ≡ true → (again : List Group)
      → AreGroupsAgain settings kept (groups records) again → AreNumberedFrom 0 again
  numbers_again all again reads = cases settings.renumber refl
    where
      cases : (b : Bool) → settings.renumber ≡ b → AreNumberedFrom 0 again
      cases true renumber = renumbered renumber again reads
      cases false stays = same_again settings kept stays 0 (groups records) again
          (sym (ap (λ b. b || list_all (keeps_group settings) (groups records)) stays) ∙ all)
          (groups_are records).0 numbered reads

  -- otherwise there may be a gap
  gaps_again : (again : List Group) (written : List (List Change))
      → AreGroupsAgain settings kept (groups records) again → GroupsMake patched again ([] ∷ written)
      → AreNewRevisions settings (IsNewProperty settings kept) (IsWrittenCopyNumber settings kept)
      (empty_rule settings) revisions written → CountToGap again written
  gaps_again again written reads make new = cases settings.renumber refl
    where
      cases : (b : Bool) → settings.renumber ≡ b → CountToGap again written
      cases true renumber = counts_without patched again written (renumbered renumber again reads) make
      cases false stays = counts_with patched settings kept stays (IsWrittenCopyNumber settings kept) (groups records)
          again revisions written (groups_are records).0 (groups_are records).1 numbered makes.changes reads make new
          (none_behind_dropped stays)

  -- the text is a dump that makes what the filter leaves of the revisions
  pub record IsLeft : Type 0 where
    pub again : List DumpRecord
    pub has : HasRecords text again Ending.Whole
    pub reads : AreReadAgain settings (kept_revisions settings records) records text again
    pub written : List (List Change)
    pub makes_again : MakeRevisionsWithGaps patched again written
    pub no_gap_if_kept : HasNoGapIfKept settings records 0 again
    pub new : AreNewRevisions settings (IsNewProperty settings (kept_revisions settings records))
        (IsWrittenNumber settings (kept_of settings (empty_rule settings) revisions)) (empty_rule settings)
        revisions written
    pub properties : RevisionsKeepProperties settings records again

  pub is_left : IsLeft
  is_left =
      let (again, has, reads) = reads_again settings dump text records clean fit in
      let read_groups = groups_again settings kept records text again lawful reads in
      let (written, make, new) = revisions_change patched settings kept (groups records) (groups again) revisions
      (groups_are records).1 numbered makes.changes read_groups in
      let (later, begins, counts) = gaps_again (groups again) written read_groups make new in
      record {
        again = again;
        has = has;
        reads = reads;
        written = written;
        makes_again = record {
          later = later;
          begins = begins;
          numbered = counts;
          ordered = order_again settings kept false false records text again lawful makes.ordered
              (λ first. absurd (absurd_bool (keeps_first settings kept records) first
              (none_behind settings kept records makes.ordered))) reads;
          changes = make;
        };
        no_gap_if_kept = λ all. counted_from 0 (groups again) (numbers_again all (groups again) read_groups);
        new = subst (λ (k : KeptRevisions). AreNewRevisions settings (IsNewProperty settings kept)
            (IsWrittenNumber settings k) (empty_rule settings) revisions written) same_kept new;
        properties = properties_again settings kept (groups records) (groups again) (groups_are records).0 read_groups;
      }

-- a dump that loads, and whose changes are separated: what is written of it loads, and has the restricted trees
pub filtered_dump_restricts : FilteredDumpRestricts
filtered_dump_restricts patched settings dump text records revisions trees clean fit keeps loads apart =
    let left = is_left patched settings dump text records revisions clean fit keeps loads.makes in
    let (others, loaded, size, images) = history settings
    (IsNewProperty settings (kept_revisions settings records))
    (entries_kept settings (kept_revisions settings records)) (empty_rule settings) revisions left.written trees
    (keeps_changes patched settings dump text records revisions clean fit keeps loads.makes) loads.loads apart
    left.new in
    let same = sym (same_kept patched settings dump text records revisions clean fit keeps loads.makes) in (
      left.again,
      left.written,
      others,
      left.has,
      record { makes = left.makes_again; loads = loaded },
      left.no_gap_if_kept,
      size ∙ ap (λ (k : KeptRevisions). length k.numbers) same,
      subst (λ (k : KeptRevisions). ImagesRestrict settings
          (IsNewProperty settings (kept_revisions settings records)) (image k) trees others) same images,
      left.properties,
    )

-- the same for a dump of quiet changes
pub quiet_dump_restricts : QuietDumpRestricts
quiet_dump_restricts patched settings dump text records revisions trees clean fit keeps loads quiet over =
    filtered_dump_restricts patched settings dump text records revisions trees clean fit keeps loads
    (all_quiet settings (root_alone ∷ []) root_alone revisions quiet over)

-- the law of a whole dump is true of its first revisions
pub filtered_front_restricts : FilteredDumpFrontRestricts
filtered_front_restricts patched settings dump text records front rest trees clean fit keeps makes loads apart =
    let left = is_left patched settings dump text records (front ++ rest) clean fit keeps makes in
    let part = front_history settings (IsNewProperty settings (kept_revisions settings records))
    (entries_kept settings (kept_revisions settings records))
    (empty_rule settings) front rest left.written trees
    (front_keeps settings front rest
    (keeps_changes patched settings dump text records (front ++ rest) clean fit keeps makes)) loads apart left.new in
    let same = sym (same_kept patched settings dump text records (front ++ rest) clean fit keeps makes) in (
      left.again,
      part.first,
      part.more,
      part.others,
      left.has,
      subst (MakeRevisionsWithGaps patched left.again) part.begins left.makes_again,
      left.no_gap_if_kept,
      part.loads,
      part.size
          ∙ kept_count patched settings (groups records) front rest (groups_are records).1
          (numbered_from 0 (groups records) makes.numbered) makes.changes
          ∙ ap (λ n. length (filter (keeps_group settings) (take n (groups records))))
          (sym (loaded_size root_alone front trees loads)),
      subst (λ (k : KeptRevisions). ImagesRestrict settings
          (IsNewProperty settings (kept_revisions settings records)) (image k) trees part.others) same part.images,
      left.properties,
    )
  where
    front_keeps : (settings : Settings) (front rest : List (List Change))
        → stays_numbered settings (empty_rule settings) (front ++ rest) ≡ true
        → stays_numbered settings (empty_rule settings) front ≡ true
    front_keeps settings front rest all = cases settings.renumber all
      where
        cases : (b : Bool)
            → (b || names_none_behind settings (empty_rule settings) (λ (c : Change). is_copied c.made) (front ++ rest))
            ≡ true
            → (b || names_none_behind settings (empty_rule settings) (λ (c : Change). is_copied c.made) front) ≡ true
        cases true all = refl
        cases false all =
            front_names_none settings (empty_rule settings) (λ (c : Change). is_copied c.made) front rest all

-- the same for first revisions of quiet changes
pub quiet_front_restricts : QuietDumpFrontRestricts
quiet_front_restricts patched settings dump text records front rest trees clean fit keeps makes loads quiet over =
    filtered_front_restricts patched settings dump text records front rest trees clean fit keeps makes loads
    (all_quiet settings (root_alone ∷ []) root_alone front quiet over)
